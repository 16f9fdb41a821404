-- What a sweep keeps: the table's length, and what holds of every entry.
-- Assumes nothing.
use Rattle.std.specs.Prelude.{◌≡◌, true, get_or, drop}
use mathlib.Core.List.{List, [], ◌∷◌, ◌++◌, append-nil}
use Prim.Native.Nat.{ℕ, zero, suc, ◌+◌, ◌≤◌, ◌<◌}
use Rattle.std.proofs.Common.{arith, length-append, length-drop}
use Rattle.std.proofs.Math.Decide.{dec_lt}
use Rattle.std.proofs.Math.ListN.{length, get_or-append}
use Rattle.std.proofs.lemmas.List.{get_or_at}
use Rattle.geometry.specs.Choice.{pick_elim}
use Rattle.slots.specs.Slots.{slot}
use Rattle.table.specs.Table.{HasSlot}
use Rattle.lists.specs.Lists.{Bag, Each, Entries}
use Rattle.pushes.specs.Pushes.{keeps, keepers, swept}

-- At most as many entries are kept as were looked at.
pub keepers_few : (w : List ℕ) (v : ℕ) (t : List ℕ) (k : ℕ) → length (keepers w v t k) ≤ k
unfolding keepers
keepers_few w v t zero = omega arith
keepers_few w v t (suc k) =
    rw length-append
    (pick_elim (λ (x : List ℕ). length (keepers w v t k) + length x ≤ suc k) (keeps w v t k) (get_or t k 0 ∷ []) []
    (λ _. omega (arith, keepers_few w v t k)) (λ _. omega (arith, keepers_few w v t k)))

-- A sweep keeps the table's length.
pub length_swept : (w : List ℕ) (v : ℕ) (b : Bag) → b.len ≤ length b.table → length (swept w v b).table ≡ length b.table
unfolding swept
length_swept w v b h = rw (length-append, length-drop) (omega (arith, keepers_few w v b.table b.len))

-- A sweep leaves the length within the table.
pub swept_within : (w : List ℕ) (v : ℕ) (b : Bag) → b.len ≤ length b.table → (swept w v b).len ≤ length (swept w v b).table
unfolding swept
swept_within w v b h = rw length-append (omega arith)

-- What holds of every entry holds of every one that is kept.
module _ (P : ℕ → Type 0) where
  each_one_more : (xs : List ℕ) (y : ℕ) → ((j : ℕ) → j < length xs → P (get_or xs j 0)) → P y → (j : ℕ) → j < length (xs ++ (y ∷ [])) → P (get_or (xs ++ (y ∷ [])) j 0)
  each_one_more xs y e p j l = go (dec_lt j (length xs))
    where
      go : Dec (j < length xs) → P (get_or (xs ++ (y ∷ [])) j 0)
      go (yes h) = rw (get_or-append xs (y ∷ []) 0 j h) (e j h)
      go (no h) = rw (get_or_at xs y [] 0 j (omega (arith, h, simp length-append at l))) p

  each_keeper : (w : List ℕ) (v : ℕ) (t : List ℕ) (n : ℕ) → ((k : ℕ) → k < n → keeps w v t k ≡ true → P (get_or t k 0))
      → (j : ℕ) → j < length (keepers w v t n) → P (get_or (keepers w v t n) j 0)
  unfolding keepers
  each_keeper w v t zero e = λ j l. absurd (omega arith)
  each_keeper w v t (suc n) e =
      let r = each_keeper w v t n (λ k h. e k (omega arith)) in
      pick_elim (λ (x : List ℕ). (j : ℕ) → j < length (keepers w v t n ++ x) → P (get_or (keepers w v t n ++ x) j 0)) (keeps w v t n) (get_or t n 0 ∷ []) []
      (λ q. each_one_more (keepers w v t n) (get_or t n 0) r (e n (omega arith) q))
      (λ _. rw append-nil r)

  -- What holds of every kept entry holds of every entry after a sweep.
  pub each_kept : (w : List ℕ) (v : ℕ) (b : Bag) → ((k : ℕ) → k < b.len → keeps w v b.table k ≡ true → P (get_or b.table k 0)) → Each P (swept w v b)
  unfolding swept
  each_kept w v b e j l =
      rw (get_or-append (keepers w v b.table b.len) (drop (length (keepers w v b.table b.len)) b.table) 0 j l)
      (each_keeper w v b.table b.len e j l)

  pub each_swept : (w : List ℕ) (v : ℕ) (b : Bag) → Each P b → Each P (swept w v b)
  each_swept w v b e = each_kept w v b (λ k h _. e k h)

-- The entries of a swept list name slots of the table.
pub entries_swept : (w : List ℕ) (b : Bag) → Entries w b → (v : ℕ) → Entries w (swept w v b)
entries_swept w b e v = record { within = swept_within w v b e.within; has = each_swept (λ x. HasSlot w (slot x)) w v b e.has }
