-- A chain of slots in the table, as far as it is followed.
-- Assumes nothing.
use Rattle.std.specs.Prelude.{◌≡◌, false, List, ℕ, zero, suc}
use Rattle.slots.specs.Slots.{is_none}
use Rattle.table.specs.Table.{node_at, HasSlot}
use Rattle.slots.specs.declared.AllocIndex.{AllocIndex}

-- The table holds the chain from a link, at most k slots of it.
unfoldable pub ChainHas : ℕ → List ℕ → AllocIndex → Type 0
ChainHas zero w i = Unit {0}
ChainHas (suc k) w i = is_none i ≡ false → HasSlot w i × ChainHas k w (node_at w i).next
