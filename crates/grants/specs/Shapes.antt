-- The shape of a cut: along the chosen slot's orientation or across it, with a leftover or without.
-- Assumes nothing.
use Rattle.std.specs.Prelude.{ℕ}
use Rattle.geometry.specs.Choice.{pick}
use Rattle.geometry.specs.Rectangles.{empty_rect}
use Rattle.cuts.specs.declared.Cut.{Cut}
use Rattle.geometry.specs.declared.Orientation.{Orientation}
use Rattle.slots.specs.Slots.{same_orientation}
use Rattle.grants.specs.declared.Shape.{Shape}
use Rattle.grants.specs.declared.Shape.TheVariants.{Exact, Along, AlongLeft, Across, AcrossLeft}

-- No pieces: exact. Otherwise along or across o, each with a leftover or without.
unfoldable pub shape_of : Cut → Orientation → Shape
shape_of c o =
    pick (empty_rect c.split) Exact
    (pick (same_orientation c.orientation o) (pick (empty_rect c.leftover) Along AlongLeft) (pick (empty_rect c.leftover) Across AcrossLeft))

-- New slots needed: 0 exact, 1 along, 3 along with leftover, 2 across, 4 across with leftover.
abbrev pub slots_needed : Shape → ℕ
slots_needed Exact = 0
slots_needed Along = 1
slots_needed AlongLeft = 3
slots_needed Across = 2
slots_needed AcrossLeft = 4
