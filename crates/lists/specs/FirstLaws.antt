-- The laws of the first occurrence: that the library's search finds it, and what it finds.
-- Assumes nothing.
use Rattle.std.specs.Prelude.{◌≡◌, refl, Bool, true, false, cond, List, Option, Some, None, ℕ, zero, suc, ◌+◌, ◌-◌, ◌<◌, ◌≤◌, length, take, drop, get_or, eqb}
use Rattle.std.specs.List.{position, position_from}
use Rattle.std.proofs.lemmas.Iterator.Adapters.{position_from-zero}
use Rattle.std.proofs.Common.{sym, ◌∙◌, ⊎_elim, arith, add-one, drop-cons, eq-or-lt_of_le}
use borrow.Author.Tests.{eq-eqb, ne_eqb, eqb-true, eqb-false}
use Rattle.geometry.specs.Choice.{pick, pick_elim}
use Rattle.lists.specs.Lists.{Bag, first_of}

-- The first of some places that holds v is the library's first position.
first_from : (t : List ℕ) (v from left : ℕ) → from + left ≤ length t → position_from (λ x. eqb x v) from (take left (drop from t)) ≡ first_of t v from left
unfolding first_of
first_from t v from zero h = refl
first_from t v from (suc left) h =
    let l : from < length t = omega arith in
    rw (drop-cons t from 0 l, ← add-one from, first_from t v (from + 1) left (omega arith)) (go (eqb (get_or t from 0) v))
  where
    go : (b : Bool) → cond b (Some from) (first_of t v (from + 1) left) ≡ pick b (Some from) (first_of t v (from + 1) left)
    go true = refl
    go false = refl

pub first_position : (t : List ℕ) (v n : ℕ) → n ≤ length t → position (λ x. eqb x v) (take n t) ≡ first_of t v 0 n
first_position t v n h = position_from-zero (λ x. eqb x v) (take n t) ∙ first_from t v 0 n (omega arith)

-- What is found at k is v, at one of the places looked at.
pub first_holds : (t : List ℕ) (v from left k : ℕ) → first_of t v from left ≡ Some k → (k < from + left) × (get_or t k 0 ≡ v)
unfolding first_of
first_holds t v from zero k = λ e. absurd (let z : ◌≡◌ {A = ℕ} 0 1 = cc in omega arith)
first_holds t v from (suc left) k =
    pick_elim (λ (r : Option ℕ). r ≡ Some k → (k < from + suc left) × (get_or t k 0 ≡ v)) (eqb (get_or t from 0) v) _ _
    (λ here e. let z : from ≡ k = cc in (omega arith, rw z at (eqb-true (get_or t from 0) v here)))
    (λ there e. let r = first_holds t v (from + 1) left k e in (omega arith, r.1))

-- Where nothing is found, none of the places looked at holds v.
pub first_absent : (t : List ℕ) (v from left : ℕ) → first_of t v from left ≡ None → (j : ℕ) → from ≤ j → j < from + left → get_or t j 0 ≡ v → ⊥
unfolding first_of
first_absent t v from zero = λ e j a b q. omega arith
first_absent t v from (suc left) =
    pick_elim (λ (r : Option ℕ). r ≡ None → (j : ℕ) → from ≤ j → j < from + suc left → get_or t j 0 ≡ v → ⊥) (eqb (get_or t from 0) v) _ _
    (λ here e. absurd (let z : ◌≡◌ {A = ℕ} 0 1 = cc in omega arith))
    (λ there e j a b q.
    ⊎_elim (λ z. eqb-false (get_or t from 0) v there (rw z q)) (λ z. first_absent t v (from + 1) left e j (omega arith) (omega arith) q)
    (eq-or-lt_of_le a))

-- An entry found in a list is at a filled place.
pub found_within : (b : Bag) (v k : ℕ) (f : Option ℕ) → f ≡ first_of b.table v 0 b.len → f ≡ Some k → k < b.len
found_within b v k f e q = omega (arith, (first_holds b.table v 0 b.len k (sym e ∙ q)).0)

left_suc : (n i : ℕ) → i < n → n - i ≡ suc (n - (i + 1))
left_suc n i h = omega arith

left_none : (n i : ℕ) → n ≤ i → n - i ≡ 0
left_none n i h = omega arith

-- Of the places from i up to n: the first holds v, or the search goes on behind it, or there is none.
module _ (t : List ℕ) (v n i : ℕ) where
  pub first_here : i < n → get_or t i 0 ≡ v → first_of t v i (n - i) ≡ Some i
  unfolding first_of
  first_here h e = rw (left_suc n i h, eq-eqb _ _ e)

  pub first_on : i < n → (get_or t i 0 ≡ v → ⊥) → first_of t v i (n - i) ≡ first_of t v (i + 1) (n - (i + 1))
  unfolding first_of
  first_on h e = rw (left_suc n i h, ne_eqb _ _ e)

  pub first_none : n ≤ i → first_of t v i (n - i) ≡ None
  unfolding first_of
  first_none h = rw (left_none n i h)
