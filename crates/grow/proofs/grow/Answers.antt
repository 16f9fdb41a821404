-- `grow::grow` meets its contract: what the check and the answer say is what the calls below ask.
-- Assumes nothing.
use mathlib.Core.Path.{refl}
use Rattle.grow.specs.GrowLaws.{checked_growable, checked_due}
use Rattle.grow.proofs.grow.Goals as goal

pub grow_answer-requires : goal.grow_answer-requires
grow_answer-requires c = checked_growable c.in_ok-check.ensures refl

pub grow_sheet-requires : goal.grow_sheet-requires
grow_sheet-requires c = checked_due c.in_ok-check.ensures refl _ (c.in_ok-grow_answer.ensures _ _ _) refl
