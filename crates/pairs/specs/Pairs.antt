-- Slots taken one after the other, and links that can be answered.
-- Assumes nothing.
use Rattle.std.specs.Prelude.{◌≡◌, false, List, ℕ, zero, suc}
use Rattle.slots.specs.Slots.{is_none}
use Rattle.table.specs.Table.{HasSlot}
use Rattle.slots.specs.declared.AllocIndex.{AllocIndex}
use Rattle.steps.specs.Spares.{new_node, HasSpare}
use Rattle.steps.specs.declared.Head.{Head}

-- k slots can be taken, one after the other.
abbrev pub CanTake : ℕ → List ℕ → List ℕ → Head → Type 0
CanTake zero w g h = Unit {0}
CanTake (suc k) w g h = HasSpare w g h × CanTake k w (new_node w g h).generations (new_node w g h).head

-- Two slots taken one after the other, with what that can change.
pub record Pair : Type 0 where
  pub first : AllocIndex
  pub second : AllocIndex
  pub head : Head
  pub generations : List ℕ

abbrev pub two : AllocIndex → AllocIndex → Head → List ℕ → Pair
two a b h g = record { first = a; second = b; head = h; generations = g }

unfoldable pub two_nodes : List ℕ → List ℕ → Head → Pair
two_nodes w g h =
    let a = new_node w g h in
    let b = new_node w a.generations a.head in
    two a.taken b.taken b.head b.generations

-- A link is none or names a slot of the table.
abbrev pub LinkHas : List ℕ → AllocIndex → Type 0
LinkHas w j = is_none j ≡ false → HasSlot w j
