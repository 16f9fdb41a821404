-- The laws of sums over the slots below n.
-- Assumes nothing.
use Rattle.std.specs.Prelude.{◌≡◌}
use Rattle.std.proofs.Math.Path.{refl}
use Rattle.std.proofs.Common.{sym, ◌∙◌, inl, inr, ⊎_elim, arith}
use mathlib.Core.List.{List, [], ◌∷◌, ◌++◌}
use Prim.Native.Nat.{ℕ, zero, suc, ◌+◌, ◌≤◌, ◌<◌}
use Rattle.std.proofs.Math.Decide.{ℕ_discrete}
use Rattle.forest.specs.Pigeon.{In, Distinct, but, but_same, but_other}
use Rattle.cover.specs.Sums.{sum_below}

-- The sum of f over a list of slots.
unfoldable pub sum_over : (ℕ → ℕ) → List ℕ → ℕ
sum_over f [] = 0
sum_over f (x ∷ xs) = f x + sum_over f xs

-- Over one list after another it is the sum of the two.
pub over_append : (f : ℕ → ℕ) (xs ys : List ℕ) → sum_over f (xs ++ ys) ≡ sum_over f xs + sum_over f ys
unfolding sum_over
over_append f [] ys = omega arith
over_append f (x ∷ xs) ys = rw (over_append f xs ys) (omega arith)

-- Where all are 0, so is the sum.
sum_zero : (f : ℕ → ℕ) (n : ℕ) → ((i : ℕ) → i < n → f i ≡ 0) → sum_below f n ≡ 0
unfolding sum_below
sum_zero f zero h = refl
sum_zero f (suc n) h = omega (arith, h n (omega arith), sum_zero f n (λ i l. h i (omega arith)))

-- What is the sum of two at each slot is so in all.
pub sum_both : (f g h : ℕ → ℕ) (n : ℕ) → ((i : ℕ) → f i ≡ g i + h i) → sum_below f n ≡ sum_below g n + sum_below h n
unfolding sum_below
sum_both f g h zero e = refl
sum_both f g h (suc n) e = omega (arith, e n, sum_both f g h n e)

-- A sum that is not 0 has a part that is not 0.
pub sum_some : (f : ℕ → ℕ) (n : ℕ) → 0 < sum_below f n → (i : ℕ) × (i < n) × (0 < f i)
unfolding sum_below
sum_some f zero h = absurd (omega arith)
sum_some f (suc n) h = go (f n) refl (sum_some f n)
  where
    go : (k : ℕ) → f n ≡ k → (0 < sum_below f n → (i : ℕ) × (i < n) × (0 < f i)) → (i : ℕ) × (i < suc n) × (0 < f i)
    go zero e r = let w = r (omega arith) in (w.0, omega arith, w.2)
    go (suc k) e r = (n, omega arith, omega arith)

-- f but at x, where it is 0.
abbrev without : ℕ → (ℕ → ℕ) → ℕ → ℕ
without x f = but x 0 f

module _ (f : ℕ → ℕ) (x : ℕ) where
  -- Past the slots that are added, nothing changes.
  sum_past : (n : ℕ) → n ≤ x → sum_below (without x f) n ≡ sum_below f n
  unfolding sum_below
  sum_past zero h = refl
  sum_past (suc n) h = rw (but_other x 0 f n (λ e. omega arith), sum_past n (omega arith)) refl

  -- One slot, and the others.
  sum_without : (n : ℕ) → x < n → sum_below f n ≡ f x + sum_below (without x f) n
  unfolding sum_below
  sum_without zero h = absurd (omega arith)
  sum_without (suc n) h = go (ℕ_discrete n x) (sum_without n)
    where
      go : Dec (n ≡ x) → (x < n → sum_below f n ≡ f x + sum_below (without x f) n)
          → f n + sum_below f n ≡ f x + (without x f n + sum_below (without x f) n)
      go (yes e) r = rw (e, but_same x 0 f, sum_past x (omega arith)) (omega arith)
      go (no e) r = rw (but_other x 0 f n e) (omega (arith, r (omega arith)))

  -- A list that does not have x is summed up as before.
  over_without : (xs : List ℕ) → (In x xs → ⊥) → sum_over (without x f) xs ≡ sum_over f xs
  unfolding sum_over
  over_without [] h = refl
  over_without (y ∷ ys) h = rw (but_other x 0 f y (λ e. h (inl (sym e))), over_without ys (λ m. h (inr m))) refl

-- No part is more than the sum.
pub one_part : (f : ℕ → ℕ) (n i : ℕ) → i < n → f i ≤ sum_below f n
one_part f n i l = omega (arith, sum_without f i n l)

-- Nor are two.
pub two_parts : (f : ℕ → ℕ) (n i j : ℕ) → i < n → j < n → (i ≡ j → ⊥) → f i + f j ≤ sum_below f n
two_parts f n i j l k ne =
    omega (arith, sum_without f i n l, one_part (without i f) n j k, but_other i 0 f j (λ e. ne (sym e)))

-- THE SUM OVER A LIST. The sum over the slots below n is that over a list of different ones, outside which f is 0.
pub sum_list : (xs : List ℕ) (f : ℕ → ℕ) (n : ℕ) → Distinct xs → ((a : ℕ) → In a xs → a < n)
    → ((i : ℕ) → i < n → (In i xs → ⊥) → f i ≡ 0) → sum_below f n ≡ sum_over f xs
unfolding sum_over
sum_list [] f n d b h = sum_zero f n (λ i l. h i l (λ m. m))
sum_list (x ∷ xs) f n d b h =
    omega (arith, sum_without f x n (b x (inl refl)), sum_list xs (without x f) n d.1 (λ a m. b a (inr m)) rest, over_without f x xs d.0)
  where
    rest : (i : ℕ) → i < n → (In i xs → ⊥) → without x f i ≡ 0
    rest i l m = go (ℕ_discrete i x)
      where
        go : Dec (i ≡ x) → without x f i ≡ 0
        go (yes e) = rw (e, but_same x 0 f) refl
        go (no e) = but_other x 0 f i e ∙ h i l (⊎_elim e m)
