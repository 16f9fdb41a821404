-- How often an entry occurs after each step.
-- Assumes nothing.
use Rattle.std.specs.Prelude.{◌≡◌, ℕ, ◌+◌, ◌-◌, ◌≤◌, ◌<◌, eqb, length, get_or}
use Rattle.std.proofs.Common.{arith, add-one, get_or-set_same, get_or-set_other, eqb-true, eq-eqb, ne_eqb}
use Rattle.std.proofs.Math.Decide.{ℕ_discrete}
use Rattle.lists.specs.Lists.{Bag, appended, removed}
use Rattle.lists.specs.Counts.{bit, count, holds, occurrences}
use Rattle.lists.specs.CountLaws.{count_last, count_same, count_change, count_some, count_found}

-- Append: one more of the appended entry, and of the others as many as before.
pub occurrences_appended : (x v : ℕ) (b : Bag) → b.len < length b.table → occurrences x (appended b v) ≡ bit (eqb v x) + occurrences x b
unfolding count
occurrences_appended x v b h =
    rw (add-one, get_or-set_same b.table b.len v 0 h, count_same (holds (appended b v) x) (holds b x) b.len (λ j l. rw (get_or-set_other b.table b.len j v 0 (λ e. omega arith))))

-- Swap-remove: one less of the entry taken out, and of the others as many as before.
pub occurrences_removed : (x : ℕ) (b : Bag) (k : ℕ) → k < b.len → b.len ≤ length b.table
    → occurrences x (removed b k) + bit (holds b x k) ≡ occurrences x b
occurrences_removed x b k h n = rw (count_last (holds b x) b.len (omega arith)) (go (ℕ_discrete k (b.len - 1)))
  where
    other : (j : ℕ) → (j ≡ k → ⊥) → holds (removed b k) x j ≡ holds b x j
    other j q = rw (get_or-set_other b.table k j (get_or b.table (b.len - 1) 0) 0 q)

    there : holds (removed b k) x k ≡ holds b x (b.len - 1)
    there = rw (get_or-set_same b.table k (get_or b.table (b.len - 1) 0) 0 (omega arith))

    go : Dec (k ≡ b.len - 1) → occurrences x (removed b k) + bit (holds b x k) ≡ bit (holds b x (b.len - 1)) + count (holds b x) (b.len - 1)
    go (yes e) = rw (count_same (holds (removed b k) x) (holds b x) (b.len - 1) (λ j l. other j (λ q. omega arith)), e) (omega arith)
    go (no e) = rw (← there) (omega (arith, count_change (holds (removed b k) x) (holds b x) k (b.len - 1) (omega arith) other))

-- The two cases apart: any other entry occurs as often, the one taken out once less.
pub removed_others : (x : ℕ) (b : Bag) (k : ℕ) → k < b.len → b.len ≤ length b.table → (get_or b.table k 0 ≡ x → ⊥) → occurrences x (removed b k) ≡ occurrences x b
removed_others x b k h n q = omega (arith, rw (ne_eqb (get_or b.table k 0) x q) at (occurrences_removed x b k h n))

pub removed_one : (x : ℕ) (b : Bag) (k : ℕ) → k < b.len → b.len ≤ length b.table → get_or b.table k 0 ≡ x → occurrences x (removed b k) + 1 ≡ occurrences x b
removed_one x b k h n q = rw (eq-eqb (get_or b.table k 0) x q) at (occurrences_removed x b k h n)

-- What stands at a filled place occurs, and what occurs stands at a filled place.
pub place_occurs : (x : ℕ) (b : Bag) (k : ℕ) → k < b.len → get_or b.table k 0 ≡ x → 0 < occurrences x b
place_occurs x b k h e = count_some (holds b x) b.len k h (eq-eqb (get_or b.table k 0) x e)

pub occurs_at : {A : Type 0} (x : ℕ) (b : Bag) → 0 < occurrences x b → ((k : ℕ) → k < b.len → get_or b.table k 0 ≡ x → A) → A
occurs_at x b h f = count_found (holds b x) b.len h (λ k l e. f k l (eqb-true (get_or b.table k 0) x e))
