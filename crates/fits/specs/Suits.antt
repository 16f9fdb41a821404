-- What a search looks for.
-- Assumes nothing.
use Rattle.std.specs.Prelude.{◌≡◌, List, ℕ, ◌≤◌}
use Rattle.geometry.specs.Rectangles.{width_of, height_of}
use Rattle.slots.specs.Slots.{slot}
use Rattle.table.specs.Table.{node_at}
use Rattle.slots.specs.declared.NodeKind.TheVariants.{Free}

-- Slot x suits a request: it is Free, and its rectangle is as wide and as tall.
pub record Suits (w : List ℕ) (width height : ℕ) (x : ℕ) : Type 0 where
  pub free : (node_at w (slot x)).kind ≡ Free
  pub wide : width ≤ width_of (node_at w (slot x)).rect
  pub tall : height ≤ height_of (node_at w (slot x)).rect
