-- The cut of a chosen rectangle W×H for a request w×h at its min corner.
-- Assumes nothing.
use Rattle.std.specs.Prelude.{Bool, ◌&&◌, ℕ, ◌+◌, ◌-◌, ◌*◌, ◌≤◌, eqb, ltb}
use Rattle.geometry.specs.Choice.{pick, lesser}
use Rattle.geometry.specs.Rectangles.{no_rect, width_of, height_of}
use Rattle.geometry.specs.declared.Rectangle.{Rectangle}
use Rattle.geometry.specs.declared.Orientation.{Orientation}
use Rattle.geometry.specs.declared.Orientation.TheVariants.{Vertical, Horizontal}
use Rattle.cuts.specs.declared.Cut.{Cut}

-- The request fits into the rectangle.
pub record FitsIn (r : Rectangle) (w h : ℕ) : Type 0 where
  pub wide : r.x0 + w ≤ r.x1
  pub tall : r.y0 + h ≤ r.y1

-- The request at the min corner.
abbrev pub at_corner : Rectangle → ℕ → ℕ → Rectangle
at_corner r w h = record { x0 = r.x0; y0 = r.y0; x1 = r.x0 + w; y1 = r.y0 + h }

-- The area by which the two candidates are compared: the product, but at most 2,147,483,647.
unfoldable pub area_compared : ℕ → ℕ → ℕ
area_compared w h = lesser (w * h) 2147483647

-- The candidates: to the right of the request (W−w)×h, and at the bottom w×(H−h).
abbrev pub right_of : Rectangle → ℕ → ℕ → Rectangle
right_of r w h = record { x0 = r.x0 + w; y0 = r.y0; x1 = r.x1; y1 = r.y0 + h }

abbrev pub bottom_of : Rectangle → ℕ → ℕ → Rectangle
bottom_of r w h = record { x0 = r.x0; y0 = r.y0 + h; x1 = r.x0 + w; y1 = r.y1 }

-- Split and leftover by orientation. Horizontal: the full-height strip to the right, and the bottom candidate.
-- Vertical: the full-width strip below, and the right candidate.
abbrev pub split_of : Orientation → Rectangle → ℕ → ℕ → Rectangle
split_of Horizontal r w h = record { x0 = r.x0 + w; y0 = r.y0; x1 = r.x1; y1 = r.y1 }
split_of Vertical r w h = record { x0 = r.x0; y0 = r.y0 + h; x1 = r.x1; y1 = r.y1 }

abbrev pub leftover_of : Orientation → Rectangle → ℕ → ℕ → Rectangle
leftover_of Horizontal r w h = bottom_of r w h
leftover_of Vertical r w h = right_of r w h

-- The request has exactly the rectangle's size.
unfoldable pub exact_fit : Rectangle → ℕ → ℕ → Bool
exact_fit r w h = eqb (width_of r) w && eqb (height_of r) h

-- If right area is greater than bottom area, Horizontal; else Vertical.
unfoldable pub cut_way : Rectangle → ℕ → ℕ → Orientation
cut_way r w h = pick (ltb (area_compared w (height_of r - h)) (area_compared (width_of r - w) h)) Horizontal Vertical

-- Exact size: no pieces, orientation kept. Otherwise the pieces by the way of the cut.
unfoldable pub cut_of : Rectangle → ℕ → ℕ → Orientation → Cut
cut_of r w h kept =
    pick (exact_fit r w h) (record { orientation = kept; split = no_rect; leftover = no_rect })
    (record { orientation = cut_way r w h; split = split_of (cut_way r w h) r w h; leftover = leftover_of (cut_way r w h) r w h })
