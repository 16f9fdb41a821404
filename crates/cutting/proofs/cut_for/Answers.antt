-- `cutting::cut_for` meets its contract: where enough slots are spare the slot is cut, else 7.
-- Assumes nothing.
use Rattle.cutting.specs.CutLaws.{cut_ready, cut_made, cut_refused}
use Rattle.cutting.proofs.cut_for.Goals as goal

pub take_chosen-requires : goal.take_chosen-requires
take_chosen-requires c = cut_ready c.requires _ _ _ _ _ c.node_at-node.ensures c.guillotine_rect-cut.ensures c.shape_of-shape.ensures c.slots_needed-need.ensures.0
    c.has_spare_slots.ensures c.if-not-has_spare_slots.false

pub returns-then-not-has_spare_slots : goal.returns-then-not-has_spare_slots
returns-then-not-has_spare_slots c =
    cut_refused c.requires _ _ _ _ _ c.node_at-node.ensures c.guillotine_rect-cut.ensures c.shape_of-shape.ensures c.slots_needed-need.ensures.0
    c.has_spare_slots.ensures _ _ _ _ c.if-not-has_spare_slots.true

pub returns : goal.returns
returns c = cut_made c.requires _ _ _ _ _ c.node_at-node.ensures c.guillotine_rect-cut.ensures c.shape_of-shape.ensures c.slots_needed-need.ensures.0
    c.has_spare_slots.ensures _ _ _ _ c.if-not-has_spare_slots.false _ c.take_chosen.ensures
