-- A sweep makes room: it keeps different slots other than the pushed one, so fewer than there are slots.
-- Assumes nothing.
use Rattle.std.specs.Prelude.{◌≡◌, Bool, ◌&&◌, ◌||◌, not, List, eqb, get_or}
use Rattle.std.proofs.Math.Path.{refl}
use Rattle.std.proofs.Math.Bool.{true, false, and-false}
use Rattle.std.proofs.Common.{append-nil, length-append, eq-eqb}
use Prim.Native.Nat.{ℕ, zero, suc, ◌≤◌, ◌<◌}
use native.Mathlib.Omega.{arith}
use Rattle.std.proofs.Math.ListN.{length}
use Rattle.lists.specs.Lists.{Bag, free_entry, occurs}
use Rattle.pushes.specs.Pushes.{keeps, keepers, swept, Pushable}
use Rattle.lists.specs.Counts.{count}
use Rattle.lists.specs.CountLaws.{count_all, count_more, count_one_more}

all_three : (a b c : Bool) → not a && (not b && c) ≡ true → (a ≡ false) × (b ≡ false) × (c ≡ true)
all_three false false true e = (refl, refl, refl)
all_three false false false e = absurd (let z : ◌≡◌ {A = ℕ} 0 1 = cc in omega arith)
all_three false true c e = absurd (let z : ◌≡◌ {A = ℕ} 0 1 = cc in omega arith)
all_three true b c e = absurd (let z : ◌≡◌ {A = ℕ} 0 1 = cc in omega arith)

-- A kept entry is not the pushed one, stands nowhere before, and is of a Free slot.
pub kept_is : (w : List ℕ) (v : ℕ) (t : List ℕ) (k : ℕ) → keeps w v t k ≡ true
    → (eqb (get_or t k 0) v ≡ false) × (occurs t (get_or t k 0) k ≡ false) × (free_entry w (get_or t k 0) ≡ true)
unfolding keeps
kept_is w v t k e = all_three (eqb (get_or t k 0) v) (occurs t (get_or t k 0) k) (free_entry w (get_or t k 0)) e

-- Slot x stands among the first i entries, and is not the pushed one.
seen : ℕ → List ℕ → ℕ → ℕ → Bool
seen v t i x = occurs t x i && not (eqb x v)

still : (a b c : Bool) → b && c ≡ true → (a || b) && c ≡ true
still true true c e = e
still false b c e = e
still true false c e = absurd (let z : ◌≡◌ {A = ℕ} 0 1 = cc in omega arith)

seen_on : (v : ℕ) (t : List ℕ) (i x : ℕ) → seen v t i x ≡ true → seen v t (suc i) x ≡ true
unfolding seen occurs
seen_on v t i x e = still (eqb (get_or t i 0) x) (occurs t x i) (not (eqb x v)) e

-- The kept entries are no more than the slots seen: with each a slot is seen for the first time.
module _ (w : List ℕ) (v : ℕ) (t : List ℕ) (n : ℕ) where
  keepers_seen : (i : ℕ) → ((k : ℕ) → k < i → get_or t k 0 < n) → length (keepers w v t i) ≤ count (seen v t i) n
  unfolding keepers seen occurs
  keepers_seen zero h = omega arith
  keepers_seen (suc i) h = go (keeps w v t i) refl (keepers_seen i (λ k l. h k (omega arith)))
    where
      go : (b : Bool) → keeps w v t i ≡ b → length (keepers w v t i) ≤ count (seen v t i) n → length (keepers w v t (suc i)) ≤ count (seen v t (suc i)) n
      go true e r =
          let g = kept_is w v t i e in
          rw (e, length-append)
          (omega (arith, r, count_one_more (seen v t i) (seen v t (suc i)) (get_or t i 0) n (h i (omega arith)) (seen_on v t i) (simp g.1) (simp (eq-eqb (get_or t i 0) (get_or t i 0) refl, g.0))))
      go false e r = rw (e, append-nil) (omega (arith, r, count_more (seen v t i) (seen v t (suc i)) n (seen_on v t i)))

-- THE LAW: after a sweep for a push the list is shorter than its table.
pub room_after_sweep : (w : List ℕ) (v : ℕ) (b : Bag) → Pushable w v b → (swept w v b).len < length b.table
unfolding swept seen
room_after_sweep w v b p =
    let n = length b.table in
    let below : (k : ℕ) → k < b.len → get_or b.table k 0 < n = λ k h. omega (arith, p.room, p.entries.has k h) in
    omega (
      arith,
      keepers_seen w v b.table n b.len below,
      count_one_more (seen v b.table b.len) (λ _. true) v n (omega (arith, p.room, p.slots)) (λ j _. refl) (simp (eq-eqb v v refl, and-false)) refl,
      count_all n,
    )
