-- The pieces of a cut: which a shape has, how they are entered, and what that asks of the tables.
-- Assumes nothing.
use Rattle.std.specs.Prelude.{◌≡◌, Bool, true, false, List, ℕ, ◌≤◌}
use Rattle.geometry.specs.Choice.{pick}
use Rattle.cuts.specs.declared.Cut.{Cut}
use Rattle.geometry.specs.declared.Rectangle.{Rectangle}
use Rattle.geometry.specs.declared.Setup.{Setup}
use Rattle.table.specs.Table.{HasSlot}
use Rattle.slots.specs.declared.AllocIndex.{AllocIndex}
use Rattle.buckets.specs.FreeLists.{Lists}
use Rattle.entries.specs.Entries.{entered, ListsReady}
use Rattle.grants.specs.declared.Shape.{Shape}
use Rattle.grants.specs.declared.Shape.TheVariants.{Exact, Along, AlongLeft, Across, AcrossLeft}

-- Whether a shape has a split, and whether it has a leftover.
abbrev pub has_split : Shape → Bool
has_split Exact = false
has_split Along = true
has_split AlongLeft = true
has_split Across = true
has_split AcrossLeft = true

abbrev pub has_left : Shape → Bool
has_left Exact = false
has_left Along = false
has_left AlongLeft = true
has_left Across = false
has_left AcrossLeft = true

-- The pieces of a shape entered, split first (`pieces_entered_lem`).
unfoldable pub pieces_of : Shape → List ℕ → Setup → AllocIndex → AllocIndex → Cut → Lists → Lists
pieces_of shape w s split left c l =
    let first = entered w s split c.split l in
    pick (has_split shape) (pick (has_left shape) (entered w s left c.leftover first) first) l

-- Corners in order.
abbrev pub Upright : Rectangle → Type 0
Upright r = (r.x0 ≤ r.x1) × (r.y0 ≤ r.y1)

-- Each piece that the shape has is a slot of the table, with corners in order.
pub record PiecesReady (shape : Shape) (w : List ℕ) (l : Lists) (a b : AllocIndex) (c : Cut) : Type 0 where
  pub lists : ListsReady w l
  pub split : has_split shape ≡ true → HasSlot w a × Upright c.split
  pub left : has_left shape ≡ true → HasSlot w b × Upright c.leftover
