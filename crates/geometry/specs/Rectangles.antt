-- Rectangles and orientations.
-- Assumes nothing.
use Rattle.std.specs.Prelude.{Bool, ◌||◌, ℕ, ◌-◌, leb}
use Rattle.geometry.specs.declared.Extent.{Extent}
use Rattle.geometry.specs.declared.Rectangle.{Rectangle}
use Rattle.geometry.specs.declared.Orientation.{Orientation}
use Rattle.geometry.specs.declared.Orientation.TheVariants.{Vertical, Horizontal}

-- The other orientation.
abbrev pub flip : Orientation → Orientation
flip Vertical = Horizontal
flip Horizontal = Vertical

-- The rectangle that stands for none.
abbrev pub no_rect : Rectangle
no_rect = record { x0 = 0; y0 = 0; x1 = 0; y1 = 0 }

-- The rectangle of an extent from the origin.
abbrev pub rect_of : Extent → Rectangle
rect_of e = record { x0 = 0; y0 = 0; x1 = e.width; y1 = e.height }

-- The sides of a rectangle, W and H.
abbrev pub width_of : Rectangle → ℕ
width_of r = r.x1 - r.x0

abbrev pub height_of : Rectangle → ℕ
height_of r = r.y1 - r.y0

-- No point lies in it.
unfoldable pub empty_rect : Rectangle → Bool
empty_rect r = leb r.x1 r.x0 || leb r.y1 r.y0
