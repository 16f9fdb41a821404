-- A list in a lent table: append, swap-remove and first occurrence.
-- Assumes nothing.
use Rattle.std.specs.Prelude.{Bool, false, ◌||◌, List, Option, Some, None, ℕ, zero, suc, ◌+◌, ◌-◌, ◌≤◌, ◌<◌, length, get_or, set, eqb}
use Rattle.geometry.specs.Choice.{pick}
use Rattle.slots.specs.Slots.{slot, same_kind}
use Rattle.table.specs.Table.{node_at, HasSlot}
use Rattle.slots.specs.declared.NodeKind.TheVariants.{Free}

-- The table, whole, and how many of its places are filled.
pub record Bag : Type 0 where
  pub table : List ℕ
  pub len : ℕ

abbrev pub bag : List ℕ → ℕ → Bag
bag t n = record { table = t; len = n }

-- Append: the entry takes the next place.
abbrev pub appended : Bag → ℕ → Bag
appended b v = bag (set b.table b.len v) (b.len + 1)

-- Swap-remove: the last entry goes to place k, and the old last place stays as it was.
abbrev pub removed : Bag → ℕ → Bag
removed b k = bag (set b.table k (get_or b.table (b.len - 1) 0)) (b.len - 1)

-- The first place from `from` on, of `left` places, that holds v.
unfoldable pub first_of : List ℕ → ℕ → ℕ → ℕ → Option ℕ
first_of t v from zero = None
first_of t v from (suc left) = pick (eqb (get_or t from 0) v) (Some from) (first_of t v (from + 1) left)

-- Whether v stands among the first k places.
unfoldable pub occurs : List ℕ → ℕ → ℕ → Bool
occurs t v zero = false
occurs t v (suc k) = eqb (get_or t k 0) v || occurs t v k

-- The slot of an entry is Free.
abbrev pub free_entry : List ℕ → ℕ → Bool
free_entry w x = same_kind (node_at w (slot x)).kind Free

-- What holds of every entry.
abbrev pub Each : (ℕ → Type 0) → Bag → Type 0
Each P b = (k : ℕ) → k < b.len → P (get_or b.table k 0)

-- The length is within the table, and every entry names a slot of the slot table.
pub record Entries (w : List ℕ) (b : Bag) : Type 0 where
  pub within : b.len ≤ length b.table
  pub has : Each (λ x. HasSlot w (slot x)) b
