use mathlib.Core.Path.{◌≡◌, refl}
use borrow.Author.Rules.{rules}
use Rattle.std.specs.Prelude.{ℕ, Result, Err}
use Rattle.refusals.specs.declared.Refusal.{Refusal}
use Rattle.refusals.proofs.RefusalLaws.{refused_not_0}
use Rattle.audit.proofs.AnswerLaws.{answers_checked, answers_core}
use Rattle.lookup.specs.HeldLaws.{checked_held}
use Rattle.views.proofs.for_each_rectangle.Goals as goal

pub returns-in_err-check : goal.returns-in_err-check
returns-in_err-check c =
    let is : ◌≡◌ {A = Result ℕ Refusal} c.from_residual.result (Err c.in_err-check.field-0.0) = search rules in
    rw is (answers_checked c.in_err-check.ensures (refused_not_0 _) refl)

pub list_slots-requires : goal.list_slots-requires
list_slots-requires c = checked_held _ c.in_ok-check.ensures refl

pub returns : goal.returns
returns c = answers_core c.in_ok-check.ensures refl c.list_slots.ensures.0 c.list_slots.ensures.1
