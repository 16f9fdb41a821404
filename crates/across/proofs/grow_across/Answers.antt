-- `across::grow_across` meets its contract: the new root stands, and the Free slot is entered.
-- Assumes nothing.
use Rattle.across.specs.AcrossLaws.{free_enters, across_done}
use Rattle.across.proofs.grow_across.Goals as goal

pub add_free_rect-lengths-requires : goal.add_free_rect-lengths-requires
add_free_rect-lengths-requires c = free_enters c.requires c.new_root-taken.ensures.0 c.new_root-taken.ensures.1

pub returns : goal.returns
returns c = across_done _ _ _ _ _ _ _ _ _ _ _ c.new_root-taken.ensures.0 c.new_root-taken.ensures.1 c.setup_of-setup.ensures.0 c.add_free_rect-lengths.ensures
