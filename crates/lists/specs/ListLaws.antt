-- What the steps on a list keep: the table's length, and what holds of every entry.
-- Assumes nothing.
use Rattle.std.specs.Prelude.{◌≡◌, List, ℕ, ◌-◌, ◌≤◌, ◌<◌, length, get_or}
use Rattle.std.proofs.Common.{arith, length-set, get_or-set_same, get_or-set_other}
use Rattle.std.proofs.Math.Decide.{ℕ_discrete}
use Rattle.slots.specs.Slots.{slot}
use Rattle.table.specs.Table.{HasSlot}
use Rattle.lists.specs.Lists.{Bag, appended, removed, Each, Entries}

-- Each step keeps the table's length.
pub length_appended : (b : Bag) (v : ℕ) → length (appended b v).table ≡ length b.table
length_appended b v = simp length-set

pub length_removed : (b : Bag) (k : ℕ) → length (removed b k).table ≡ length b.table
length_removed b k = simp length-set

-- What holds of every entry, and of the one that is written, holds of every entry after a step.
module _ (P : ℕ → Type 0) where
  pub each_appended : (b : Bag) (v : ℕ) → b.len < length b.table → Each P b → P v → Each P (appended b v)
  each_appended b v h e p j l = go (ℕ_discrete j b.len)
    where
      go : Dec (j ≡ b.len) → P (get_or (appended b v).table j 0)
      go (yes q) = rw (q, get_or-set_same b.table b.len v 0 h) p
      go (no q) = rw (get_or-set_other b.table b.len j v 0 q) (e j (omega arith))

  pub each_removed : (b : Bag) (k : ℕ) → k < b.len → b.len ≤ length b.table → Each P b → Each P (removed b k)
  each_removed b k h n e j l = go (ℕ_discrete j k)
    where
      go : Dec (j ≡ k) → P (get_or (removed b k).table j 0)
      go (yes q) = rw (q, get_or-set_same b.table k (get_or b.table (b.len - 1) 0) 0 (omega arith)) (e (b.len - 1) (omega arith))
      go (no q) = rw (get_or-set_other b.table k j (get_or b.table (b.len - 1) 0) 0 q) (e j (omega arith))

-- The entries of a list name slots of the table after each step.
module _ (w : List ℕ) (b : Bag) (e : Entries w b) where
  pub entries_appended : (v : ℕ) → b.len < length b.table → HasSlot w (slot v) → Entries w (appended b v)
  entries_appended v h s =
      record { within = rw (length_appended b v) (omega arith); has = each_appended (λ x. HasSlot w (slot x)) b v h e.has s }

  pub entries_removed : (k : ℕ) → k < b.len → Entries w (removed b k)
  entries_removed k h =
      record { within = rw (length_removed b k) (omega (arith, e.within)); has = each_removed (λ x. HasSlot w (slot x)) b k h e.within e.has }

  -- A table of the same length has the same slots.
  pub entries_words : (u : List ℕ) → length u ≡ length w → Entries u b
  entries_words u q = record { within = e.within; has = rw q e.has }
