-- `growable::grow_answer` meets its contract: the refusals in the paper's order.
-- Assumes nothing.
use mathlib.Core.Bool.{not}
use mathlib.Core.Path.{ap}
use mathlib.Core.Path.{sym, ◌∙◌}
use Rattle.links.specs.TestLaws.{passed, failed}
use Rattle.growable.specs.GrowableLaws.{setup_sheet, not_smaller, answer_11, answer_3, answer_7, answer_0}
use Rattle.growable.proofs.grow_answer.Goals as goal

pub returns-then-is_smaller : goal.returns-then-is_smaller
returns-then-is_smaller c = λ a b x. answer_11 _ _ (setup_sheet _ _ c.setup_of.ensures.0) (setup_sheet _ _ c.setup_of-2.ensures.0) (sym c.is_smaller.ensures ∙ c.if-is_smaller.true)

pub returns-then-not-is_valid : goal.returns-then-not-is_valid
returns-then-not-is_valid c = λ a b x. answer_3 _ _ (setup_sheet _ _ c.setup_of.ensures.0) (setup_sheet _ _ c.setup_of-2.ensures.0) (sym c.is_smaller.ensures ∙ c.if-is_smaller.false) (failed c.is_valid.ensures (ap not c.if-not-is_valid.true))

pub grow_slots-need-requires : goal.grow_slots-need-requires
grow_slots-need-requires c = let z = not_smaller _ _ (setup_sheet _ _ c.setup_of.ensures.0) (setup_sheet _ _ c.setup_of-2.ensures.0) (sym c.is_smaller.ensures ∙ c.if-is_smaller.false) in (c.requires.top, z.0, z.1)

pub returns-then-not-has_spare_slots : goal.returns-then-not-has_spare_slots
returns-then-not-has_spare_slots c = λ a b x. answer_7 _ _ (setup_sheet _ _ c.setup_of.ensures.0) (setup_sheet _ _ c.setup_of-2.ensures.0) (sym c.is_smaller.ensures ∙ c.if-is_smaller.false) (passed c.is_valid.ensures (ap not c.if-not-is_valid.false)) (c.grow_slots-need.ensures _ a b x) c.has_spare_slots.ensures (c.if-not-has_spare_slots.true)

pub returns : goal.returns
returns c = λ a b x. answer_0 _ _ (setup_sheet _ _ c.setup_of.ensures.0) (setup_sheet _ _ c.setup_of-2.ensures.0) (sym c.is_smaller.ensures ∙ c.if-is_smaller.false) (passed c.is_valid.ensures (ap not c.if-not-is_valid.false)) (c.grow_slots-need.ensures _ a b x) c.has_spare_slots.ensures (c.if-not-has_spare_slots.false)
