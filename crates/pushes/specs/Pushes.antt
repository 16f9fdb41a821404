-- Sweep and push: a full list is swept before an entry is appended.
-- Assumes nothing.
use Rattle.std.specs.Prelude.{Bool, ◌&&◌, not, List, [], ◌∷◌, ◌++◌, ℕ, zero, suc, ◌*◌, ◌≤◌, length, get_or, drop, eqb, ltb}
use Rattle.geometry.specs.Choice.{pick}
use Rattle.slots.specs.Slots.{slot}
use Rattle.table.specs.Table.{HasSlot}
use Rattle.lists.specs.Lists.{Bag, bag, appended, occurs, free_entry, Entries}

-- A sweep for v keeps the entry at place k: it is of a Free slot, not the pushed one, and the first of that slot.
unfoldable pub keeps : List ℕ → ℕ → List ℕ → ℕ → Bool
keeps w v t k = not (eqb (get_or t k 0) v) && (not (occurs t (get_or t k 0) k) && free_entry w (get_or t k 0))

-- The entries that a sweep for v keeps of the first k places, in order.
unfoldable pub keepers : List ℕ → ℕ → List ℕ → ℕ → List ℕ
keepers w v t zero = []
keepers w v t (suc k) = keepers w v t k ++ pick (keeps w v t k) (get_or t k 0 ∷ []) []

-- Sweep: the kept entries stand first; places past the new length keep their bytes.
unfoldable pub swept : List ℕ → ℕ → Bag → Bag
swept w v b =
    let kept = keepers w v b.table b.len in
    bag (kept ++ drop (length kept) b.table) (length kept)

-- A list that is not full.
unfoldable pub has_room : Bag → Bool
has_room b = ltb b.len (length b.table)

-- Push: append; if the list is full, sweep it first.
unfoldable pub pushed : List ℕ → ℕ → Bag → Bag
pushed w v b = appended (pick (has_room b) b (swept w v b)) v

-- What a push asks: at most 4,096 slots, and a list table of at least as many entries as there are slots.
pub record Pushable (w : List ℕ) (v : ℕ) (b : Bag) : Type 0 where
  pub entries : Entries w b
  pub few : length w ≤ 32768
  pub room : length w ≤ length b.table * 8
  pub slots : HasSlot w (slot v)
