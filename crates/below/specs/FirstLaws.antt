-- The first place at which a test fails: how it is found, and what it says.
-- Assumes nothing.
use Rattle.std.specs.Prelude.{◌≡◌, refl, Bool, true, false, ◌&&◌, ◌⊎◌, List, Option, Some, None, MatchOption, ℕ, zero, suc, ◌+◌, ◌-◌, ◌<◌, ◌≤◌, length, take, get_or, ltb}
use Rattle.std.proofs.Common.{ap, sym, ◌∙◌, true≢false, inl, inr, ⊎_elim, arith, ltb-true, ltb-false, lt-ltb, le-ltb, length-take-le}
use Rattle.std.proofs.lemmas.List.{get_or-take}
use Rattle.geometry.specs.Choice.{pick}
use Rattle.geometry.specs.TestLaws.{same_or_not, and_true_each}
use Rattle.lists.specs.Lists.{bag, Each}
use Rattle.below.specs.Below.{first_from, first_bad, entry_below}

left_suc : (n i : ℕ) → i < n → n - i ≡ suc (n - (i + 1))
left_suc n i h = omega arith

left_none : (n i : ℕ) → n ≤ i → n - i ≡ 0
left_none n i h = omega arith

module _ (p : ℕ → Bool) (n i : ℕ) where
  -- A place that passes is gone by, one that fails is the first, and past the end there is none.
  pub scan_on : i < n → p i ≡ true → first_from p i (n - i) ≡ first_from p (i + 1) (n - (i + 1))
  unfolding first_from
  scan_on h e = rw (left_suc n i h, e)

  pub scan_here : i < n → p i ≡ false → first_from p i (n - i) ≡ i
  unfolding first_from
  scan_here h e = rw (left_suc n i h, e)

  pub scan_end : n ≤ i → first_from p i (n - i) ≡ i
  unfolding first_from
  scan_end h = rw (left_none n i h)

-- The places from `from` on, of `left` places, that the scan passed over, and the one at which it stopped.
pub record Scanned (p : ℕ → Bool) (from left r : ℕ) : Type 0 where
  pub before : (i : ℕ) → from ≤ i → i < r → p i ≡ true
  pub within : (from ≤ r) × (r ≤ from + left)
  pub stops : r < from + left → p r ≡ false

pub scanned : (p : ℕ → Bool) (from left : ℕ) → Scanned p from left (first_from p from left)
unfolding first_from
scanned p from zero = record { before = λ i a b. absurd (omega arith); within = (omega arith, omega arith); stops = λ h. absurd (omega arith) }
scanned p from (suc left) = go (p from) refl (scanned p (from + 1) left)
  where
    go : (b : Bool) → p from ≡ b → Scanned p (from + 1) left (first_from p (from + 1) left) → Scanned p from (suc left) (pick b (first_from p (from + 1) left) from)
    go true e s =
        record {
          before = λ i a h. ⊎_elim (λ q. ap p q ∙ e) (λ d. s.before i (omega arith) h) (same_or_not i from);
          within = (omega (arith, s.within.0), omega (arith, s.within.1));
          stops = λ h. s.stops (omega arith);
        }
    go false e s = record { before = λ i a h. absurd (omega arith); within = (omega arith, omega arith); stops = λ h. e }

-- The lowest of the first n places at which the test fails, or n.
module _ (p : ℕ → Bool) (n r : ℕ) (is : r ≡ first_from p 0 n) where
  pub lowest_before : (i : ℕ) → i < r → p i ≡ true
  lowest_before i h = let s = scanned p 0 n in s.before i (omega arith) (omega arith)

  pub lowest_breaks : r < n → p r ≡ false
  lowest_breaks h = let s = scanned p 0 n in ap p is ∙ s.stops (omega arith)

  pub lowest_all : n ≤ r → (i : ℕ) → i < n → p i ≡ true
  lowest_all h i l = lowest_before i (omega arith)

  pub all_lowest : ((i : ℕ) → i < n → p i ≡ true) → r ≡ n
  all_lowest f = let s = scanned p 0 n in ⊎_elim (λ e. e) (λ d. absurd (let l : r < n = omega (arith, s.within.1) in true≢false (sym (f r l) ∙ lowest_breaks l))) (same_or_not r n)

-- A place at which the test fails, or the end, is the lowest if every place before it passes.
pub lowest_is : (p : ℕ → Bool) (n r : ℕ) → ((i : ℕ) → i < r → p i ≡ true) → r ≤ n → (r < n → p r ≡ false) → r ≡ first_from p 0 n
lowest_is p n r before within stops = go (ltb r q) (ltb q r) refl refl
  where
    q : ℕ
    q = first_from p 0 n

    s : Scanned p 0 n q
    s = scanned p 0 n

    go : (a b : Bool) → ltb r q ≡ a → ltb q r ≡ b → r ≡ q
    go true b e f = absurd (let l : r < q = ltb-true r q e in true≢false (sym (s.before r (omega arith) l) ∙ stops (omega (arith, s.within.1))))
    go false true e f = absurd (let l : q < r = ltb-true q r f in true≢false (sym (before q l) ∙ s.stops (omega arith)))
    go false false e f = omega (arith, ltb-false r q e, ltb-false q r f)

-- What the first bad place is, and what there being none says.
module _ (p : ℕ → Bool) (n : ℕ) where
  pub some_bad : (k : ℕ) → k < n → k ≡ first_from p 0 n → Some k ≡ first_bad p n
  some_bad k h e = rw (← e, lt-ltb k n h)

  pub none_bad : n ≡ first_from p 0 n → None ≡ first_bad p n
  none_bad e = rw (← e, le-ltb n n (omega arith))

  pub bad_some : {k : ℕ} → Some k ≡ first_bad p n → (k < n) × (k ≡ first_from p 0 n)
  bad_some {k} e = go (ltb q n) refl e
    where
      q : ℕ
      q = first_from p 0 n

      go : (b : Bool) → ltb q n ≡ b → Some k ≡ pick b (Some q) None → (k < n) × (k ≡ q)
      go true f g = let h : k ≡ q = cc in (omega (arith, ltb-true q n f), h)
      go false f g = cc

  pub bad_none : None ≡ first_bad p n → n ≤ first_from p 0 n
  bad_none e = go (ltb q n) refl e
    where
      q : ℕ
      q = first_from p 0 n

      go : (b : Bool) → ltb q n ≡ b → None ≡ pick b (Some q) None → n ≤ q
      go true f g = cc
      go false f g = ltb-false q n f

-- What a search of the front of a list finds: the first entry that isn't below n, if any.
abbrev pub Found : List ℕ → ℕ → Option ℕ → Type 0
Found t n r =
    MatchOption r ((i : ℕ) → i < length t → get_or t i 0 < n)
    (λ k. (k < length t) × (n ≤ get_or t k 0) × ((i : ℕ) → i < k → get_or t i 0 < n))

pub found_bad : (t : List ℕ) (n len : ℕ) → len ≤ length t → (r : Option ℕ) → Found (take len t) n r → r ≡ first_bad (entry_below t n) len
found_bad t n len h None f =
    none_bad (entry_below t n) len
    (lowest_is (entry_below t n) len len
    (λ i l. lt-ltb _ _ (rw (get_or-take len t i 0 l) at (f i (omega (arith, length-take-le len t h))))) (omega arith) (λ l. absurd (omega arith)))
found_bad t n len h (Some k) f =
    let b : k < len = omega (arith, f.0, length-take-le len t h) in
    some_bad (entry_below t n) len k b
    (lowest_is (entry_below t n) len k
    (λ i l. let m : i < len = omega arith in lt-ltb _ _ (rw (get_or-take len t i 0 m) at (f.2 i l))) (omega arith)
    (λ l. le-ltb _ _ (rw (get_or-take len t k 0 b) at f.1)))

-- Entries that are all below n: one more of them, and all.
pub below_more : (t : List ℕ) (n k : ℕ) {a b : Bool} → b ≡ (a && ltb (get_or t k 0) n) → (a ≡ true → Each (λ x. x < n) (bag t k)) → b ≡ true
    → Each (λ x. x < n) (bag t (k + 1))
below_more t n k {a} {b} is f e j h = go (same_or_not j k)
  where
    both : (a ≡ true) × (ltb (get_or t k 0) n ≡ true)
    both = and_true_each a (ltb (get_or t k 0) n) (sym is ∙ e)

    go : (j ≡ k) ⊎ (j ≡ k → ⊥) → get_or t j 0 < n
    go (inl q) = rw q (ltb-true (get_or t k 0) n both.1)
    go (inr q) = f both.0 j (omega arith)

pub below_all : (t : List ℕ) (n k len : ℕ) → Each (λ x. x < n) (bag t k) → len ≤ k → Each (λ x. x < n) (bag t len)
below_all t n k len f l j h = f j (omega arith)
