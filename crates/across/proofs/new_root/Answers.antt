-- `across::new_root` meets its contract: two slots are taken and written, and the old top chain, which keeps its links, gets its new parent.
-- Assumes nothing.
use Rattle.across.specs.AcrossLaws.{two_can, pair_has, chain_kept, crossed_done}
use Rattle.across.proofs.new_root.Goals as goal

pub take_two-new-requires : goal.take_two-new-requires
take_two-new-requires c = two_can c.requires

pub put_pair-requires : goal.put_pair-requires
put_pair-requires c = pair_has c.requires c.take_two-new.ensures

pub reparent-requires : goal.reparent-requires
reparent-requires c = chain_kept c.requires c.take_two-new.ensures _ _ _ c.put_pair.ensures

pub returns : goal.returns
returns c = (c.take_two-new.ensures, crossed_done _ _ _ _ _ _ _ _ _ _ c.node_at-o.ensures c.flipped-over.ensures c.no_rect-zero.ensures c.put_pair.ensures c.reparent.ensures)
