-- Tests of a slot that a walk came to: whether it stands there, and whether it is one of the table, with some of the count left.
-- Assumes nothing.
use Rattle.std.specs.Prelude.{Bool, ◌&&◌, not, List, ℕ, eqb, ltb}
use Rattle.geometry.specs.declared.Orientation.{Orientation}
use Rattle.slots.specs.Slots as slots
use Rattle.slots.specs.Slots.{is_none, same_kind, same_orientation}
use Rattle.table.specs.Table.{node_at}
use Rattle.slots.specs.declared.AllocIndex.{AllocIndex}
use Rattle.slots.specs.declared.Node.{Node}
use Rattle.slots.specs.declared.NodeKind.TheVariants.{Container, Unused}

-- A slot in use with this parent, this prev and this orientation.
unfoldable pub stands_as : Node → AllocIndex → AllocIndex → Orientation → Bool
stands_as m p v o = eqb m.parent.0 p.0 && (eqb m.prev.0 v.0 && (same_orientation m.orientation o && not (same_kind m.kind Unused)))

-- The only child of its parent, and a Container.
unfoldable pub is_lone : Node → AllocIndex → Orientation → Bool
is_lone m p o = same_kind m.kind Container && (is_none m.next && stands_as m p (slots.slot 4294967295) o)

unfoldable pub lone_at : List ℕ → ℕ → AllocIndex → AllocIndex → Orientation → Bool
lone_at w n i p o = ltb i.0 n && is_lone (node_at w i) p o

-- Slot i is one of n, and the count has a slot left for it.
unfoldable pub held_by : ℕ → ℕ → ℕ → Bool
held_by n i left = ltb i n && ltb 0 left
