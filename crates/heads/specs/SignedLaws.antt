-- The laws of signed numbers as words: how the code reads and makes them.
-- Assumes nothing.
use Rattle.std.specs.Prelude.{◌≡◌, refl, Bool, true, false, ℕ, zero, suc, ◌+◌, ◌-◌, ◌≤◌, ◌<◌, ◌^◌, ℤ, pos, negsuc, nat_abs, ◌-ℤ◌, T, ltb}
use Rattle.std.proofs.Common.{sym, ◌∙◌, arith, ltb-true, ltb-false, le-ltb, to_z-of_z}
use Rattle.std.proofs.Math.Path.{ap}
use Rattle.std.specs.Int.Signed.{lt_z, non_neg, mag}
use mir.Syntax.{w32}
use mir.Val.{Fits, SFits, to_z, of_z, sel}
use Rattle.std.proofs.Math.Facts.{to_z_pos, to_z-neg, Fits-nat_abs}
use Rattle.heads.specs.Words.{signed_of}

-- The number that the machine reads back from the bits.
abbrev pub back : ℤ → ℤ
back z = to_z w32 (of_z w32 z)

-- Less one, and then less a number from 0 on.
minus_one : (k : ℕ) → negsuc 0 -ℤ pos k ≡ negsuc k
minus_one zero = refl
minus_one (suc k) = let e : suc (0 + k) ≡ suc k = omega arith in ap negsuc e

-- A word from 2 ^ 31 on: how far it is from the last word, less one, is the number.
module _ (w : ℕ) (far : 2147483648 ≤ w) (word : w < 2 ^ 32) where
  rest : 4294967295 - w < 2 ^ 31
  rest = omega arith

  read : negsuc 0 -ℤ to_z w32 (4294967295 - w) ≡ negsuc (4294967295 - w)
  read = rw (to_z_pos w32 rest) (minus_one (4294967295 - w))

  pub high_fits : SFits w32 (negsuc 0 -ℤ to_z w32 (4294967295 - w))
  high_fits = rw read (record { sfits = rest })

  again : 4294967296 - suc (4294967295 - w) ≡ w
  again = omega arith

  pub high_signed : back (negsuc 0 -ℤ to_z w32 (4294967295 - w)) ≡ signed_of w
  unfolding signed_of
  high_signed =
      rw read
      (to_z-of_z {w = w32} (record { sfits = rest }) ∙ (sym (to_z-neg w32 (4294967295 - w) rest) ∙ ap (to_z w32) again))

-- A word read as signed is in range, so it is read back as it was.
signed_fits : (w : ℕ) → SFits w32 (signed_of w)
unfolding signed_of
signed_fits w = go (ltb w 2147483648) refl
  where
    go : (b : Bool) → ltb w 2147483648 ≡ b → SFits w32 (sel b (pos w) (negsuc (4294967296 - suc w)))
    go true h = record { sfits = ltb-true w 2147483648 h }
    go false h = let k = ltb-false w 2147483648 h in record { sfits = omega arith }

pub signed_read : {z : ℤ} (w : ℕ) → z ≡ signed_of w → back z ≡ signed_of w
signed_read {z} w e = rw e (to_z-of_z {w = w32} (signed_fits w))

-- Less one and then less a number below 0: its magnitude.
less_negative : (z : ℤ) → lt_z z (pos 0) ≡ true → negsuc 0 -ℤ z ≡ pos (mag z)
less_negative (pos n) h = absurd (let k = ltb-true n 0 h in omega arith)
less_negative (negsuc n) h = let e : suc n - 1 ≡ n = omega arith in rw (le-ltb (suc n) 1 (omega arith)) (ap pos e)

-- A number below 0 is the word so far from the last one.
signed_negative : (z : ℤ) → mag z < 2 ^ 31 → lt_z z (pos 0) ≡ true → signed_of (4294967295 - mag z) ≡ z
unfolding signed_of
signed_negative (pos n) f h = absurd (let k = ltb-true n 0 h in omega arith)
signed_negative (negsuc n) f h = let e : 4294967295 - n ≡ 4294967296 - suc n = omega arith in ap (to_z w32) e ∙ to_z-neg w32 n f

-- A number from 0 on is its own word.
signed_itself : (z : ℤ) → mag z < 2 ^ 31 → lt_z z (pos 0) ≡ false → signed_of (nat_abs z) ≡ z
unfolding signed_of
signed_itself (pos n) f h = to_z_pos w32 f
signed_itself (negsuc n) f h = absurd (let k : ◌≡◌ {A = ℕ} 0 1 = cc in omega arith)

not_negative : (z : ℤ) → lt_z z (pos 0) ≡ false → T (non_neg z)
not_negative (pos n) h = tt
not_negative (negsuc n) h = absurd (let k : ◌≡◌ {A = ℕ} 0 1 = cc in omega arith)

module _ (z : ℤ) (f : mag z < 2 ^ 31) where
  pub read_back : back z ≡ z
  read_back = to_z-of_z {w = w32} (record { sfits = f })

  module _ (below : lt_z (back z) (pos 0) ≡ true) where
    less : negsuc 0 -ℤ back z ≡ pos (mag z)
    less = rw read_back (less_negative z (rw read_back at below))

    pub negative_fits : SFits w32 (negsuc 0 -ℤ back z)
    negative_fits = rw less (record { sfits = f })

    there : back (negsuc 0 -ℤ back z) ≡ pos (mag z)
    there = to_z-of_z {w = w32} negative_fits ∙ less

    pub negative_casts : T (non_neg (back (negsuc 0 -ℤ back z))) × Fits w32 (nat_abs (back (negsuc 0 -ℤ back z)))
    negative_casts = rw there (tt, record { fits = omega arith })

    pub negative_least : nat_abs (back (negsuc 0 -ℤ back z)) < 2 ^ 31
    negative_least = rw there f

    pub negative_word : signed_of (4294967295 - nat_abs (back (negsuc 0 -ℤ back z))) ≡ z
    negative_word = rw there (signed_negative z f (rw read_back at below))

  module _ (from : lt_z (back z) (pos 0) ≡ false) where
    pub own_casts : T (non_neg (back z)) × Fits w32 (nat_abs (back z))
    own_casts = rw read_back (not_negative z (rw read_back at from), Fits-nat_abs {w = w32} {w' = w32} {z = z} tt (record { sfits = f }))

    pub own_word : signed_of (nat_abs (back z)) ≡ z
    own_word = rw read_back (signed_itself z f (rw read_back at from))
