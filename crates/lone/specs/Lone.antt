-- A SINGLE FREE ROOT.
-- Assumes nothing.
use Rattle.std.specs.Prelude.{Bool, ◌&&◌, List, ℕ}
use Rattle.slots.specs.Slots.{is_none, same_kind}
use Rattle.slots.specs.declared.AllocIndex.{AllocIndex}
use Rattle.slots.specs.declared.NodeKind.TheVariants.{Free}
use Rattle.table.specs.Table.{node_at}

-- The root is Free and has no next.
unfoldable pub lone_free : List ℕ → AllocIndex → Bool
lone_free w root = same_kind (node_at w root).kind Free && is_none (node_at w root).next
