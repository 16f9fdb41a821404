-- `enlarging::grow_both` meets its contract: the step along, then the step across from what it left.
-- Assumes nothing.
use Rattle.enlarging.specs.GrowLaws.{along_ready, across_ready, both_done}
use Rattle.enlarging.proofs.grow_both.Goals as goal

pub lengthen-between-requires : goal.lengthen-between-requires
lengthen-between-requires c = along_ready c.requires c.node_at-o.ensures c.ways_of-far.ensures

pub widen-requires : goal.widen-requires
widen-requires c = across_ready c.requires c.node_at-o.ensures c.ways_of-far.ensures c.lengthen-between.ensures

pub returns : goal.returns
returns c = both_done c.requires c.node_at-o.ensures c.ways_of-far.ensures c.lengthen-between.ensures c.widen.ensures
