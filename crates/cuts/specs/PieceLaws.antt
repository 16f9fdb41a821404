-- The two ways to cut, said once over the orientation: along it the request goes from a to m and the split from m to b; across
-- it the request goes from c to n and the leftover from n to d.
-- Assumes nothing.
use Rattle.std.specs.Prelude.{◌≡◌, ℕ, ◌+◌, ◌≤◌}
use Rattle.geometry.specs.Rectangles.{flip}
use Rattle.cuts.specs.Cuts.{at_corner}
use Rattle.geometry.specs.Measures.{span, start, end, along}
use Rattle.geometry.specs.declared.Rectangle.{Rectangle}
use Rattle.geometry.specs.declared.Orientation.{Orientation}

-- A rectangle that is cut, the request at its corner, the split and the leftover, as spans of the cut's orientation.
pub record Spans (o : Orientation) (r : Rectangle) (w h : ℕ) (split leftover : Rectangle) : Type 0 where
  pub whole : r ≡ span o (start o r) (end o r) (start (flip o) r) (end (flip o) r)
  pub request : at_corner r w h ≡ span o (start o r) (start o r + along o w h) (start (flip o) r) (start (flip o) r + along (flip o) w h)
  pub beyond : split ≡ span o (start o r + along o w h) (end o r) (start (flip o) r) (end (flip o) r)
  pub beside : leftover ≡ span o (start o r) (start o r + along o w h) (start (flip o) r + along (flip o) w h) (end (flip o) r)

-- A rectangle within another: its corners are in order, and between the other's.
pub record Inside (p r : Rectangle) : Type 0 where
  pub left : r.x0 ≤ p.x0
  pub wide : p.x0 ≤ p.x1
  pub right : p.x1 ≤ r.x1
  pub top : r.y0 ≤ p.y0
  pub tall : p.y0 ≤ p.y1
  pub bottom : p.y1 ≤ r.y1
