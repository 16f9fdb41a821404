-- THE RECTANGLES OF A GROW, over an orientation: Vertical runs down y, Horizontal along x.
-- Assumes nothing.
use Rattle.std.specs.Prelude.{ℕ, ◌+◌}
use Rattle.geometry.specs.Measures as measures
use Rattle.geometry.specs.Measures.{span, start, end}
use Rattle.geometry.specs.Rectangles.{flip}
use Rattle.geometry.specs.declared.Extent.{Extent}
use Rattle.geometry.specs.declared.Orientation.{Orientation}
use Rattle.geometry.specs.declared.Rectangle.{Rectangle}

-- The side along an orientation.
abbrev pub along : Orientation → Extent → ℕ
along o d = measures.along o d.width d.height

-- A rectangle stretched along an orientation by d.
abbrev pub stretched_rect : Orientation → Rectangle → ℕ → Rectangle
stretched_rect o r d = span o (start o r) (end o r + d) (start (flip o) r) (end (flip o) r)

-- A rectangle with another start along an orientation.
abbrev pub started_at : Orientation → Rectangle → ℕ → Rectangle
started_at o r k = span o k (end o r) (start (flip o) r) (end (flip o) r)

-- The one appended to a rectangle: the stretched one, from where the rectangle ends.
abbrev pub appended_rect : Orientation → Rectangle → ℕ → Rectangle
appended_rect o r d = started_at o (stretched_rect o r d) (end o r)

-- The strip past the old sheet: the new sheet, from where the old one ends.
abbrev pub strip_rect : Orientation → Extent → Extent → Rectangle
strip_rect o old new = started_at o (record { x0 = 0; y0 = 0; x1 = new.width; y1 = new.height }) (along o old)
