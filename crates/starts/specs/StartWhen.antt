-- When start, reset and clear give each of their answers, in the paper's words, and that a refusal changes nothing.
-- Assumes nothing.
use Rattle.std.specs.Prelude.{◌≡◌, Bool, ◌↔◌}
use Rattle.std.proofs.Math.Path.{refl}
use Rattle.std.proofs.Common.{sym, ◌∙◌, true≢false, arith}
use Rattle.std.proofs.Math.Bool.{true, false}
use Rattle.geometry.specs.Sides.{valid_setup}
use Rattle.geometry.specs.declared.AllocatorOptions.{AllocatorOptions}
use Rattle.geometry.specs.declared.Size.{Size}
use Rattle.steps.specs.State.{State}
use Rattle.lent.specs.Lent.{lent, LentOf}
use Rattle.lent.specs.LentLaws.{lent_yes, yes_lent}
use Rattle.outcomes.specs.Given.{Given}
use Rattle.starts.specs.Starts.{start_answer, start_call}

module _ (sheet : Size) (options : AllocatorOptions) (s : State) where
  cases : (P : Given (Unit {0}) → Type 0) → (lent s ≡ false → P (start_answer false true sheet options s))
      → (lent s ≡ true → valid_setup sheet options ≡ false → P (start_answer true false sheet options s))
      → (lent s ≡ true → valid_setup sheet options ≡ true → P (start_answer true true sheet options s)) → P (start_call sheet options s)
  unfolding start_call
  cases P f g h = go (lent s) (valid_setup sheet options) refl refl
    where
      go : (l v : Bool) → lent s ≡ l → valid_setup sheet options ≡ v → P (start_answer l v sheet options s)
      go false v el ev = f el
      go true false el ev = g el ev
      go true true el ev = h el ev

  -- 1: a table length is outside its range.
  pub start_gives_1 : ((start_call sheet options s).answer ≡ 1) ↔ (LentOf s → ⊥)
  start_gives_1 =
      cases (λ (o : Given (Unit {0})). (o.answer ≡ 1) ↔ (LentOf s → ⊥))
      (λ l. (λ _ L. true≢false (sym (yes_lent _ _ _ _ _ L) ∙ l), λ _. refl))
      (λ l v. (λ e. absurd (omega arith), λ n. absurd (n (lent_yes _ _ _ _ _ l))))
      (λ l v. (λ e. absurd (omega arith), λ n. absurd (n (lent_yes _ _ _ _ _ l))))

  -- 3: the lengths are in range and the setup is invalid.
  pub start_gives_3 : ((start_call sheet options s).answer ≡ 3) ↔ (LentOf s × (valid_setup sheet options ≡ false))
  start_gives_3 =
      cases (λ (o : Given (Unit {0})). (o.answer ≡ 3) ↔ (LentOf s × (valid_setup sheet options ≡ false)))
      (λ l. (λ e. absurd (omega arith), λ p. absurd (true≢false (sym (yes_lent _ _ _ _ _ p.0) ∙ l))))
      (λ l v. (λ _. (lent_yes _ _ _ _ _ l, v), λ _. refl))
      (λ l v. (λ e. absurd (omega arith), λ p. absurd (true≢false (sym v ∙ p.1))))

  -- 0: the lengths are in range and the setup is valid.
  pub start_gives_0 : ((start_call sheet options s).answer ≡ 0) ↔ (LentOf s × (valid_setup sheet options ≡ true))
  start_gives_0 =
      cases (λ (o : Given (Unit {0})). (o.answer ≡ 0) ↔ (LentOf s × (valid_setup sheet options ≡ true)))
      (λ l. (λ e. absurd (omega arith), λ p. absurd (true≢false (sym (yes_lent _ _ _ _ _ p.0) ∙ l))))
      (λ l v. (λ e. absurd (omega arith), λ p. absurd (true≢false (sym p.1 ∙ v))))
      (λ l v. (λ _. (lent_yes _ _ _ _ _ l, v), λ _. refl))

  -- A refusal leaves the head and every table as they were.
  pub start_refusal_changes_nothing : ((start_call sheet options s).answer ≡ 0 → ⊥) → (start_call sheet options s).after ≡ s
  start_refusal_changes_nothing =
      cases (λ (o : Given (Unit {0})). (o.answer ≡ 0 → ⊥) → o.after ≡ s) (λ _ _. refl) (λ _ _ _. refl) (λ _ _ n. absurd (n refl))
