-- A slot as the rules speak of it: a link is none or names a slot.
-- Assumes nothing.
use Rattle.std.specs.Prelude.{◌≡◌, Bool, true, false, List, ℕ, ◌<◌}
use Rattle.geometry.specs.Choice.{pick}
use Rattle.geometry.specs.declared.Orientation.{Orientation}
use Rattle.geometry.specs.declared.Rectangle.{Rectangle}
use Rattle.slots.specs.Slots.{slot, is_none}
use Rattle.table.specs.Table.{node_at}
use Rattle.slots.specs.declared.AllocIndex.{AllocIndex}
use Rattle.slots.specs.declared.Node.{Node}
use Rattle.slots.specs.declared.NodeKind.{NodeKind}
use Rattle.slots.specs.declared.NodeKind.TheVariants.{Container, Alloc, Free, Unused}

-- A link is none or names a slot.
pub data Link : Type 0 where
  none : Link
  to : ℕ → Link

-- The link that a number in a table spells.
unfoldable pub link_of : AllocIndex → Link
link_of i = pick (is_none i) none (to i.0)

-- A slot's contents, with its links as links.
pub record Seen : Type 0 where
  pub parent : Link
  pub next : Link
  pub prev : Link
  pub kind : NodeKind
  pub orientation : Orientation
  pub rect : Rectangle

abbrev pub seen_as : Node → Seen
seen_as m =
    record {
      parent = link_of m.parent;
      next = link_of m.next;
      prev = link_of m.prev;
      kind = m.kind;
      orientation = m.orientation;
      rect = m.rect;
    }

-- Slot i of a table.
unfoldable pub seen : List ℕ → ℕ → Seen
seen w i = seen_as (node_at w (slot i))

-- A kind in use: any but Unused.
abbrev pub in_use : NodeKind → Bool
in_use Container = true
in_use Alloc = true
in_use Free = true
in_use Unused = false

-- A live slot is one below n and not Unused.
abbrev pub Live : (ℕ → Seen) → ℕ → ℕ → Type 0
Live get n i = (i < n) × (in_use (get i).kind ≡ true)

-- An Unused slot below n.
abbrev pub Dead : (ℕ → Seen) → ℕ → ℕ → Type 0
Dead get n i = (i < n) × (in_use (get i).kind ≡ false)
