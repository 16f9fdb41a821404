-- A number that has no digit in common with the one before it is a power of two, and the digits below it are what a division by it leaves.
-- Assumes nothing.
use Rattle.std.specs.Prelude.{◌≡◌, ℕ, zero, suc, ◌+◌, ◌-◌, ◌*◌, ◌/◌, ◌%◌, ◌^◌, ◌≤◌, ◌<◌}
use Rattle.std.proofs.Common.{◌∙◌, ⊎_elim, pow-suc, div-add-mod', mod-lt, add-zero, arith}
use Rattle.std.proofs.Math.Nat.{min-zero, zero-min}
use Rattle.geometry.specs.TestLaws.{same_or_not}
use Rattle.std.specs.Int.Bits.{bit_and, and_step, and_self}
use Rattle.std.proofs.lemmas.Nat.{and_mask}

-- A power of two.
pub record Power (a : ℕ) : Type 0 where
  pub exponent : ℕ
  pub equal : a ≡ 2 ^ exponent

-- The halves and the last digits of a number and the one before it.
halves : (a : ℕ) → (a / 2 * 2 + a % 2 ≡ a) × ((a - 1) / 2 * 2 + (a - 1) % 2 ≡ a - 1) × (a % 2 < 2) × ((a - 1) % 2 < 2)
halves a = (div-add-mod' a 2, div-add-mod' (a - 1) 2, mod-lt a (omega arith), mod-lt (a - 1) (omega arith))

-- An odd number shares all digits but its last with the one before it; an even one shares what its half does.
odd_shares : (a : ℕ) → a % 2 ≡ 1 → bit_and a (a - 1) ≡ a / 2 * 2
odd_shares a o =
    let h = halves a in
    let d : (a - 1) / 2 ≡ a / 2 = omega (arith, h.0, h.1, h.3) in
    let m : (a - 1) % 2 ≡ 0 = omega (arith, h.0, h.1, h.3) in
    and_step a (a - 1) ∙ rw (d, m, o, and_self (a / 2), min-zero 1, add-zero (a / 2 * 2))

even_shares : (a : ℕ) → 0 < a → a % 2 ≡ 0 → bit_and a (a - 1) ≡ bit_and (a / 2) (a / 2 - 1) * 2
even_shares a p e =
    let h = halves a in
    let d : (a - 1) / 2 ≡ a / 2 - 1 = omega (arith, h.0, h.1, h.3) in
    let m : (a - 1) % 2 ≡ 1 = omega (arith, h.0, h.1, h.3) in
    and_step a (a - 1) ∙ rw (d, m, e, zero-min 1, add-zero (bit_and (a / 2) (a / 2 - 1) * 2))

-- So a number that shares none is halved, as long as it is even, down to 1.
power_by : (f a : ℕ) → a ≤ f → 0 < a → bit_and a (a - 1) ≡ 0 → Power a
power_by zero a h p e = absurd (omega arith)
power_by (suc f) a h p e =
    let k = halves a in
    ⊎_elim (λ (o : a % 2 ≡ 1). record { exponent = 0; equal = omega (arith, k.0, odd_shares a o) })
    (λ (o : a % 2 ≡ 1 → ⊥).
    let z : a % 2 ≡ 0 = omega (arith, k.2) in
    let half = power_by f (a / 2) (omega (arith, k.0)) (omega (arith, k.0)) (omega (arith, even_shares a p z)) in
    record { exponent = suc half.exponent; equal = omega (arith, k.0, half.equal, pow-suc 2 half.exponent) })
    (same_or_not (a % 2) 1)

-- By a number that has no digit in common with the one before it, a division leaves the digits below it.
pub masked : (a s : ℕ) → 0 < a → bit_and a (a - 1) ≡ 0 → bit_and s (a - 1) ≡ s % a
masked a s p e = let k = power_by a a (omega arith) p e in rw k.equal (and_mask s k.exponent)
