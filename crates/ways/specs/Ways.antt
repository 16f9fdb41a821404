-- How far a sheet grows each way.
-- Assumes nothing.
use Rattle.geometry.specs.Rectangles.{flip}
use Rattle.geometry.specs.Sides.{extent_of}
use Rattle.geometry.specs.declared.Orientation.{Orientation}
use Rattle.geometry.specs.declared.Size.{Size}
use Rattle.strips.specs.Strips.{along, strip_rect}
use Rattle.grows.specs.Grows.{growth}
use Rattle.ways.specs.declared.Ways.{Ways}

-- By how much a sheet grows along an orientation and across it, and the strip across.
unfoldable pub ways_of : Orientation → Size → Size → Ways
ways_of o old new = record { along = along o (growth old new); across = along (flip o) (growth old new); strip = strip_rect (flip o) (extent_of old) (extent_of new) }
