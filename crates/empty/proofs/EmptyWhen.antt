-- WHEN EACH ANSWER IS GIVEN, in the paper's words, by "is it empty"; what comes with 0; and that a refusal says "no" and changes nothing.
-- Each speaks of any outcome that meets the call's contract; there is no other (`answers_once`).
-- Assumes nothing.
use Rattle.std.specs.Prelude.{◌≡◌, refl, Bool, true, false, ◌↔◌}
use Rattle.std.proofs.lemmas.Bool.{false≢true}
use Rattle.std.proofs.Common.{arith}
use Rattle.steps.specs.State.{State}
use Rattle.sound.specs.Sound.{Sound}
use Rattle.lent.specs.Lent.{LentOf}
use Rattle.outcomes.specs.Given.{Given, given}
use Rattle.audit.proofs.AnswerLaws.{answers_cases, answers_1, answers_2, answers_other, answers_refused}
use Rattle.empty.specs.Empty.{WholeFree, OnlyFree, EmptyCall}
use Rattle.empty.proofs.EmptyLaws.{whole_free_at_root, whole_free_only}

module _ {s : State} {o : Given Bool} (call : EmptyCall s o) where
  -- 1: a table length is outside its range.
  pub empty_gives_1 : (o.answer ≡ 1) ↔ (LentOf s → ⊥)
  empty_gives_1 = answers_1 call (λ e. omega arith)

  -- 2: the lengths are in range and the tables are not sound.
  pub empty_gives_2 : (o.answer ≡ 2) ↔ (LentOf s × (Sound s → ⊥))
  empty_gives_2 = answers_2 call (λ e. omega arith)

  -- 0: the lengths are in range and the tables are sound.
  pub empty_gives_0 : (o.answer ≡ 0) ↔ (LentOf s × Sound s)
  empty_gives_0 =
      let k = answers_other call 0 (λ e. omega arith) (λ e. omega arith) in
      (λ e. let h = k.0 e in (h.0, h.1), λ h. k.1 (h.0, h.1, refl))

  -- "Yes" is given exactly when, on sound tables of lengths in range, one Free slot is the whole sheet.
  pub empty_gives_yes : (o.value ≡ true) ↔ (LentOf s × Sound s × WholeFree s)
  empty_gives_yes =
      answers_cases call (λ (g : Given Bool). (g.value ≡ true) ↔ (LentOf s × Sound s × WholeFree s))
      (λ l. (λ e. absurd (false≢true e), λ h. absurd (l h.0))) (λ _ u. (λ e. absurd (false≢true e), λ h. absurd (u h.1)))
      (λ L S. (λ e. (L, S, (whole_free_at_root S).0 e), λ h. (whole_free_at_root S).1 h.2))

  -- That is: exactly when one Free slot is live, and no other slot is.
  pub empty_gives_yes_alone : (o.value ≡ true) ↔ (LentOf s × Sound s × OnlyFree s)
  empty_gives_yes_alone = (
    λ e. let h = empty_gives_yes.0 e in (h.0, h.1, (whole_free_only h.1).0 h.2),
    λ h. empty_gives_yes.1 (h.0, h.1, (whole_free_only h.1).1 h.2),
  )

  -- It changes nothing, whatever it says.
  pub empty_changes_nothing : o.after ≡ s
  empty_changes_nothing = answers_cases call (λ (g : Given Bool). g.after ≡ s) (λ _. refl) (λ _ _. refl) (λ _ _. refl)

  -- A refusal says "no" and changes nothing.
  pub empty_refused : (o.answer ≡ 0 → ⊥) → o ≡ given o.answer false s
  empty_refused = answers_refused call (λ d. absurd (d refl))
