-- A side rounded up is the least multiple of the alignment that is not below it.
-- Assumes nothing.
use Rattle.std.specs.Prelude.{◌≡◌, ℕ, ◌+◌, ◌-◌, ◌*◌, ◌/◌, ◌%◌, ◌≤◌, ◌<◌, eqb}
use Rattle.std.proofs.Common.{mod-lt, div-add-mod', add-mul, one-mul, lt_of_mul-lt-mul_right, mul-le-mul_right, arith, eqb-true}
use Rattle.std.proofs.Math.Nat.{mul-mod_left}
use Rattle.std.proofs.lemmas.Bool.{eqb-false}
use Rattle.geometry.specs.Choice.{pick_elim}
use Rattle.rounding.specs.Rounding.{round_up}

-- What holds of the side where it is a multiple, and of the next multiple where it is not, holds of the side rounded up.
round_up_elim : (P : ℕ → Type 0) (a s : ℕ) → (s % a ≡ 0 → P s) → ((s % a ≡ 0 → ⊥) → P (s + (a - s % a))) → P (round_up a s)
unfolding round_up
round_up_elim P a s f g =
    pick_elim P (eqb (s % a) 0) s (s + (a - s % a)) (λ h. f (eqb-true _ _ h)) (λ h. g (eqb-false _ _ h))

-- A side rounded up is not below the side.
pub round_up_up : (a s : ℕ) → s ≤ round_up a s
round_up_up a s = round_up_elim (λ n. s ≤ n) a s (λ h. omega arith) (λ h. omega arith)

module _ {a : ℕ} (p : 0 < a) where
  -- A side rounded up is a multiple of the alignment.
  pub round_up_multiple : (s : ℕ) → round_up a s % a ≡ 0
  round_up_multiple s = round_up_elim (λ n. n % a ≡ 0) a s (λ h. h) (λ h. rw next (mul-mod_left (s / a + 1) a))
    where
      next : s + (a - s % a) ≡ (s / a + 1) * a
      next = rw (add-mul (s / a) 1 a, one-mul a) (omega (arith, div-add-mod' s a, mod-lt s p))

  -- A side rounded up goes less than one alignment up.
  pub round_up_least : (s : ℕ) → round_up a s < s + a
  round_up_least s = round_up_elim (λ n. n < s + a) a s (λ h. omega arith) (λ h. omega (arith, mod-lt s p))

  -- So it is the least multiple that is not below the side.
  pub round_up_least_multiple : (s m : ℕ) → m % a ≡ 0 → s ≤ m → round_up a s ≤ m
  round_up_least_multiple s m h k =
      let r = round_up a s in
      let e = div-add-mod' r a in
      let f = div-add-mod' m a in
      let below : r / a < m / a + 1 =
      lt_of_mul-lt-mul_right a
      (rw (add-mul (m / a) 1 a, one-mul a) (omega (arith, round_up_multiple s, round_up_least s))) in
      omega (arith, round_up_multiple s, mul-le-mul_right {m = r / a} {n = m / a} a (omega arith))
