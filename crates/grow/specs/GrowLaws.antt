-- What a grow is answered on sound tables, case by case, and the laws by which the call is proved.
-- Assumes nothing.
use Rattle.std.specs.Prelude.{◌≡◌, true, false, not, ℕ, ◌<◌, ltb}
use Rattle.std.proofs.Math.Path.{refl}
use Rattle.std.proofs.Common.{sym, ◌∙◌, arith}
use Rattle.std.proofs.Math.Logic.{inl, inr, ⊎_elim}
use borrow.Author.Tests.{ltb-true, ltb-false, not-true, not-false}
use Rattle.geometry.specs.Choice.{pick_elim}
use Rattle.geometry.specs.Sides.{extent_of, valid_setup}
use Rattle.geometry.specs.TestLaws.{or_true_one}
use Rattle.geometry.specs.declared.Size.{Size}
use Rattle.steps.specs.State.{State}
use Rattle.sound.specs.Sound.{Sound}
use Rattle.lent.specs.Lent.{LentOf}
use Rattle.audit.specs.Audited.{Checked}
use Rattle.granted.specs.Terms.{spare_at}
use Rattle.grows.specs.Grows.{grow_slots}
use Rattle.grows.specs.Refusals.{is_smaller, grow_answer}
use Rattle.grown.specs.Terms.{GrowDue}
use Rattle.growable.specs.Growable.{Growable}
use Rattle.growable.specs.GrowableLaws.{sound_growable, not_smaller}
use Rattle.grow.specs.Grow.{Smaller}

module _ (s : State) (new : Size) where
  smaller : is_smaller (extent_of s.head.sheet) (extent_of new) ≡ true → Smaller s new
  unfolding is_smaller
  smaller e = ⊎_elim {C = Smaller s new} (λ h. inl (ltb-true _ _ h)) (λ h. inr (ltb-true _ _ h)) (or_true_one _ _ e)

  -- The four ways that a grow can be answered.
  pub grow_cases : (P : ℕ → Type 0) → (Smaller s new → P 11) → ((Smaller s new → ⊥) → valid_setup new s.head.options ≡ false → P 3)
      → ((Smaller s new → ⊥) → valid_setup new s.head.options ≡ true → spare_at s < grow_slots s new → P 7) → (GrowDue s new → P 0) → P (grow_answer s new)
  unfolding grow_answer
  grow_cases P eleven three seven done =
      pick_elim P (is_smaller (extent_of s.head.sheet) (extent_of new)) 11 _ (λ e. eleven (smaller e))
      (λ e. let h = not_smaller s.head.sheet new refl refl e in
      let n : Smaller s new → ⊥ = λ z. ⊎_elim {C = ⊥} (λ q. omega arith) (λ q. omega arith) z in
      pick_elim P (not (valid_setup new s.head.options)) 3 _ (λ v. three n (not-true _ v))
      (λ v. pick_elim P (ltb (spare_at s) (grow_slots s new)) 7 0 (λ f. seven n (not-false _ v) (ltb-true _ _ f))
      (λ f. done (record { wide = h.0; tall = h.1; valid = not-false _ v; enough = ltb-false _ _ f }))))

  -- A grow that is due has no smaller side.
  pub due_large : GrowDue s new → Smaller s new → ⊥
  due_large d z = ⊎_elim {C = ⊥} (λ q. omega (arith, d.wide)) (λ q. omega (arith, d.tall)) z

  -- A grow that is answered 0 is due.
  pub answered_due : grow_answer s new ≡ 0 → GrowDue s new
  answered_due =
      grow_cases (λ a. a ≡ 0 → GrowDue s new) (λ _ e. absurd (omega arith)) (λ _ _ e. absurd (omega arith)) (λ _ _ _ e. absurd (omega arith)) (λ d _. d)

module _ {s : State} {k : ℕ} (c : Checked s k) (z : k ≡ 0) where
  -- Where the check finds nothing the grow's answer can be told,
  pub checked_growable : Growable s.words s.generations s.head
  checked_growable = let h = c.gives_0.0 z in sound_growable s h.0 h.1

  -- and where that is 0 the sheet can grow.
  pub checked_due : (new : Size) {a : ℕ} → a ≡ grow_answer s new → a ≡ 0 → LentOf s × Sound s × GrowDue s new
  checked_due new told e = let h = c.gives_0.0 z in (h.0, h.1, answered_due s new (sym told ∙ e))
