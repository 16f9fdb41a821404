-- Where a rectangle ends, as the side of its far corner.
-- Assumes nothing.
use Rattle.std.specs.Prelude.{◌≡◌, ℕ}
use Rattle.geometry.specs.Measures.{end}
use Rattle.geometry.specs.declared.Orientation.{Orientation}
use Rattle.geometry.specs.declared.Orientation.TheVariants.{Vertical, Horizontal}
use Rattle.geometry.specs.declared.Rectangle.{Rectangle}
use Rattle.strips.specs.Strips.{along}

pub ends_along : (o : Orientation) (r : Rectangle) (k : ℕ) → k ≡ along o (record { width = r.x1; height = r.y1 }) → k ≡ end o r
ends_along Vertical r k e = e
ends_along Horizontal r k e = e
