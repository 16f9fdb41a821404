-- A requested size has one of three outcomes, each exactly where it is due.
-- Assumes nothing.
use Rattle.std.specs.Prelude.{◌≡◌, refl, ◌↔◌, ◌⊎◌, Some, None, Result, Ok, Err, ℕ, ◌≤◌, ◌<◌}
use Rattle.std.proofs.Common.{subst, ⊎_elim, arith, eqb-true, leb-true, leb-false}
use Rattle.std.proofs.Math.Logic.{inl, inr}
use Rattle.geometry.specs.Choice.{pick_elim}
use Rattle.rounding.specs.Rounding.{rounded, both_rounded, request_of}
use Rattle.rounding.proofs.RoundingLaws.{round_up_up}
use Rattle.geometry.specs.TestLaws.{or_true_one, or_false_each, above_zero}
use Rattle.geometry.specs.declared.Size.{Size}
use Rattle.geometry.specs.declared.Setup.{Setup}
use Rattle.geometry.specs.declared.Extent.{Extent}
use Rattle.refusals.specs.declared.Refusal.{Refusal}
use Rattle.refusals.specs.declared.Refusal.TheVariants.{NotPositive, TooLarge}
use Rattle.rounding.specs.RequestLaws.{wide, tall, wide_up, tall_up, Outcome, accepted, not_positive, too_large}

-- No number is both 0 and above 0, and none both within a bound and above it.
some_zero : {a b : ℕ} → (a ≡ 0) ⊎ (b ≡ 0) → 0 < a → 0 < b → ⊥
some_zero (inl e) p q = omega arith
some_zero (inr e) p q = omega arith

some_over : {m a b : ℕ} → (m < a) ⊎ (m < b) → a ≤ m → b ≤ m → ⊥
some_over (inl h) p q = omega arith
some_over (inr h) p q = omega arith

module _ (s : Setup) (size : Size) where
  -- The outcome of two sides above 0 goes by whether each rounds.
  positive_outcome : 0 < wide size → 0 < tall size →
      Outcome s size (both_rounded (rounded s.alignment.width (wide size)) (rounded s.alignment.height (tall size)))
  unfolding rounded
  positive_outcome p q =
      pick_elim (λ r. Outcome s size (both_rounded r (rounded s.alignment.height (tall size)))) _ (Some _) None
      (λ h.
      pick_elim (λ r. Outcome s size (both_rounded (Some (wide_up s size)) r)) _ (Some _) None
      (λ k. accepted p q (leb-true _ _ h) (leb-true _ _ k)) (λ k. too_large p q (inr (leb-false _ _ k))))
      (λ h. too_large p q (inl (leb-false _ _ h)))

  -- Every request has its outcome.
  pub request_outcome : Outcome s size (request_of s size)
  unfolding request_of
  request_outcome =
      pick_elim (Outcome s size) _ (Err NotPositive) _
      (λ h. not_positive (⊎_elim (λ e. inl (eqb-true _ _ e)) (λ e. inr (eqb-true _ _ e)) (or_true_one _ _ h)))
      (λ h.
      let k = or_false_each _ _ h in
      positive_outcome ((above_zero _).0 k.0) ((above_zero _).0 k.1))

  -- And no other: two outcomes of a request are the same.
  pub outcome_unique : {r t : Result Extent Refusal} → Outcome s size r → Outcome s size t → r ≡ t
  outcome_unique (not_positive h) (not_positive k) = refl
  outcome_unique (not_positive h) (too_large p q k) = absurd (some_zero h p q)
  outcome_unique (not_positive h) (accepted p q k l) = absurd (some_zero h p q)
  outcome_unique (too_large p q h) (not_positive k) = absurd (some_zero k p q)
  outcome_unique (too_large p q h) (too_large u v k) = refl
  outcome_unique (too_large p q h) (accepted u v k l) = absurd (some_over h k l)
  outcome_unique (accepted p q k l) (not_positive h) = absurd (some_zero h p q)
  outcome_unique (accepted p q k l) (too_large u v h) = absurd (some_over h k l)
  outcome_unique (accepted p q k l) (accepted u v m n) = refl

  -- A request is refused as not positive exactly where a side is 0 or less.
  pub request_not_positive : (request_of s size ≡ Err NotPositive) ↔ ((wide size ≡ 0) ⊎ (tall size ≡ 0))
  request_not_positive = (λ e. invert (subst (Outcome s size) e request_outcome), λ h. outcome_unique request_outcome (not_positive h))
    where
      invert : Outcome s size (Err NotPositive) → (wide size ≡ 0) ⊎ (tall size ≡ 0)
      invert (not_positive h) = h

  -- A request is refused as too large exactly where both sides are above 0 and one of them rounded up exceeds 2,147,483,647.
  pub request_too_large : (request_of s size ≡ Err TooLarge) ↔
      ((0 < wide size) × (0 < tall size) × ((2147483647 < wide_up s size) ⊎ (2147483647 < tall_up s size)))
  request_too_large =
      (λ e. invert (subst (Outcome s size) e request_outcome), λ h. outcome_unique request_outcome (too_large h.0 h.1 h.2))
    where
      invert : Outcome s size (Err TooLarge) → (0 < wide size) × (0 < tall size) × ((2147483647 < wide_up s size) ⊎ (2147483647 < tall_up s size))
      invert (too_large p q h) = (p, q, h)

  -- All that is known of the sides of a request that is taken.
  rounded_sides : {e : Extent} → Outcome s size (Ok e) →
      (e.width ≡ wide_up s size) × (e.height ≡ tall_up s size) ×
      (0 < wide size) × (0 < tall size) × (wide_up s size ≤ 2147483647) × (tall_up s size ≤ 2147483647)
  rounded_sides (accepted p q h k) = (refl, refl, p, q, h, k)

  -- Otherwise it is taken, with both sides rounded up.
  pub request_accepted : 0 < wide size → 0 < tall size → wide_up s size ≤ 2147483647 → tall_up s size ≤ 2147483647 →
      request_of s size ≡ Ok (record { width = wide_up s size; height = tall_up s size })
  request_accepted p q h k = outcome_unique request_outcome (accepted p q h k)

  module _ {e : Extent} (taken : request_of s size ≡ Ok e) where
    -- A request that is taken is taken with its sides rounded up.
    pub request_rounded : (e.width ≡ wide_up s size) × (e.height ≡ tall_up s size)
    request_rounded = let h = rounded_sides (subst (Outcome s size) taken request_outcome) in (h.0, h.1)

    -- Its sides are above 0, and at most 2,147,483,647.
    pub request_sides : (0 < e.width) × (e.width ≤ 2147483647) × (0 < e.height) × (e.height ≤ 2147483647)
    request_sides =
        let h = rounded_sides (subst (Outcome s size) taken request_outcome) in
        let w = round_up_up s.alignment.width (wide size) in
        let t = round_up_up s.alignment.height (tall size) in
        (omega arith, omega arith, omega arith, omega arith)
