-- The laws of counting the numbers below n that pass a test.
-- Assumes nothing.
use Rattle.std.specs.Prelude.{◌≡◌, Bool, true, false}
use Rattle.std.proofs.Math.Path.{refl}
use Rattle.std.proofs.Common.{⊎_elim}
use Prim.Native.Nat.{ℕ, zero, suc, ◌+◌, ◌-◌, ◌≤◌, ◌<◌}
use native.Mathlib.Omega.{arith}
use Rattle.std.proofs.Math.Decide.{ℕ_discrete}
use Rattle.geometry.specs.TestLaws.{same_or_not}
use Rattle.lists.specs.Counts.{bit, count}

bit_more : (a b : Bool) → (a ≡ true → b ≡ true) → bit a ≤ bit b
bit_more true b f = rw (f refl) (omega arith)
bit_more false b f = omega arith

-- Every number passes.
pub count_all : (n : ℕ) → count (λ _. true) n ≡ n
unfolding count
count_all zero = refl
count_all (suc n) = rw (count_all n) (omega arith)

-- No number passes.
pub count_none : (p : ℕ → Bool) (n : ℕ) → ((j : ℕ) → j < n → p j ≡ false) → count p n ≡ 0
unfolding count
count_none p zero f = refl
count_none p (suc n) f = rw (f n (omega arith), count_none p n (λ j h. f j (omega arith)))

-- The last number below n is counted by itself.
pub count_last : (p : ℕ → Bool) (n : ℕ) → 0 < n → count p n ≡ bit (p (n - 1)) + count p (n - 1)
unfolding count
count_last p n h = go (n - 1) (omega arith)
  where
    go : (k : ℕ) → n ≡ suc k → count p n ≡ bit (p k) + count p k
    go k e = rw e

module _ (p q : ℕ → Bool) where
  -- Tests that agree below n count the same.
  pub count_same : (n : ℕ) → ((j : ℕ) → j < n → p j ≡ q j) → count p n ≡ count q n
  unfolding count
  count_same zero f = refl
  count_same (suc n) f = rw (f n (omega arith), count_same n (λ j h. f j (omega arith)))

  -- Tests that agree but for k count the same but for k.
  pub count_change : (k n : ℕ) → k < n → ((j : ℕ) → (j ≡ k → ⊥) → p j ≡ q j) → count p n + bit (q k) ≡ count q n + bit (p k)
  unfolding count
  count_change k zero h f = absurd (omega arith)
  count_change k (suc n) h f = go (ℕ_discrete n k) (λ l. count_change k n l f)
    where
      go : Dec (n ≡ k) → (k < n → count p n + bit (q k) ≡ count q n + bit (p k)) → bit (p n) + count p n + bit (q k) ≡ bit (q n) + count q n + bit (p k)
      go (yes e) r = rw (e, count_same k (λ j l. f j (λ z. omega arith))) (omega arith)
      go (no e) r = rw (f n e) (omega (arith, r (omega arith)))

  -- The weaker test counts no less, and more where only it passes some k.
  pub count_more : (n : ℕ) → ((j : ℕ) → p j ≡ true → q j ≡ true) → count p n ≤ count q n
  unfolding count
  count_more zero f = omega arith
  count_more (suc n) f = omega (arith, bit_more (p n) (q n) (f n), count_more n f)

  pub count_one_more : (k n : ℕ) → k < n → ((j : ℕ) → p j ≡ true → q j ≡ true) → p k ≡ false → q k ≡ true → count p n < count q n
  unfolding count
  count_one_more k zero h f a b = absurd (omega arith)
  count_one_more k (suc n) h f a b = go (ℕ_discrete n k) (λ l. count_one_more k n l f a b)
    where
      go : Dec (n ≡ k) → (k < n → count p n < count q n) → bit (p n) + count p n < bit (q n) + count q n
      go (yes e) r = rw (e, a, b) (omega (arith, count_more k f))
      go (no e) r = omega (arith, bit_more (p n) (q n) (f n), r (omega arith))

-- A number that passes is counted.
pub count_some : (p : ℕ → Bool) (n k : ℕ) → k < n → p k ≡ true → 0 < count p n
unfolding count
count_some p zero k h t = absurd (omega arith)
count_some p (suc n) k h t =
    ⊎_elim (λ e. rw (← e, t) (omega arith)) (λ d. omega (arith, count_some p n k (omega arith) t)) (same_or_not k n)

-- Where some are counted there is one that passes.
pub count_found : {A : Type 0} (p : ℕ → Bool) (n : ℕ) → 0 < count p n → ((k : ℕ) → k < n → p k ≡ true → A) → A
unfolding count
count_found p zero h f = absurd (omega arith)
count_found {A} p (suc n) h f = go (p n) refl (λ g. count_found p n g (λ k b. f k (omega arith)))
  where
    go : (b : Bool) → p n ≡ b → (0 < count p n → A) → A
    go true e r = f n (omega arith) e
    go false e r = r (let g = rw e at h in omega arith)
