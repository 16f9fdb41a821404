-- The two ways to cut, said once over the orientation: along it the request goes from a to m and the split from m to b; across
-- it the request goes from c to n and the leftover from n to d.
-- Assumes nothing.
use Rattle.std.specs.Prelude.{◌≡◌, refl, ℕ, ◌+◌, ◌≤◌, ◌<◌, leb}
use Rattle.std.proofs.Common.{sym, ap, ◌∙◌, arith, rules}
use Rattle.std.proofs.Math.Bool.{or-false}
use Rattle.std.proofs.lemmas.Bool.{lt-leb}
use Rattle.geometry.specs.Rectangles.{flip, empty_rect}
use Rattle.cuts.specs.Cuts.{FitsIn, at_corner, split_of, leftover_of}
use Rattle.geometry.specs.Measures.{span, start, end, along, Adds}
use Rattle.geometry.proofs.MeasureLaws.{adds_three}
use Rattle.geometry.specs.declared.Rectangle.{Rectangle}
use Rattle.geometry.specs.declared.Orientation.{Orientation}
use Rattle.geometry.specs.declared.Orientation.TheVariants.{Vertical, Horizontal}
use Rattle.cuts.specs.PieceLaws.{Spans, Inside}

-- Either way of cutting gives such spans.
pub pieces_span : (o : Orientation) (r : Rectangle) (w h : ℕ) → Spans o r w h (split_of o r w h) (leftover_of o r w h)
pieces_span Vertical r w h = record { whole = refl; request = refl; beyond = refl; beside = refl }
pieces_span Horizontal r w h = record { whole = refl; request = refl; beyond = refl; beside = refl }

-- A request that fits does so along either orientation.
pub fits_along : (o : Orientation) {r : Rectangle} {w h : ℕ} → FitsIn r w h → start o r + along o w h ≤ end o r
fits_along Vertical f = f.tall
fits_along Horizontal f = f.wide

-- Of two positive sides, the one along an orientation is positive.
pub along_positive : (o : Orientation) {w h : ℕ} → 0 < w → 0 < h → 0 < along o w h
along_positive Vertical p q = q
along_positive Horizontal p q = p

-- A span of some length is empty exactly where it ends across where it starts, or before.
pub span_empty : (o : Orientation) {a b : ℕ} (c d : ℕ) → a < b → empty_rect (span o a b c d) ≡ leb d c
unfolding empty_rect
span_empty Vertical {a} {b} c d h = rw (lt-leb b a h) (or-false _)
span_empty Horizontal {a} {b} c d h = rw (lt-leb b a h)

-- Both pieces lie within the rectangle.
pub pieces_inside : (o : Orientation) {r : Rectangle} {w h : ℕ} → FitsIn r w h → Inside (split_of o r w h) r × Inside (leftover_of o r w h) r
pieces_inside Vertical f = (search rules, search rules)
pieces_inside Horizontal f = (search rules, search rules)

-- Request, split and leftover add up to the rectangle, in every measure that adds up.
pub pieces_add : (o : Orientation) {r : Rectangle} {w h : ℕ} → FitsIn r w h → (μ : Rectangle → ℕ) → Adds μ →
    μ (at_corner r w h) + (μ (split_of o r w h) + μ (leftover_of o r w h)) ≡ μ r
pieces_add o {r} {w} {h} f μ adds =
    let s = pieces_span o r w h in
    rw (s.request, s.beyond, s.beside)
    (adds_three μ adds o (omega arith) (fits_along o f) (omega arith) (fits_along (flip o) f) ∙ ap μ (sym s.whole))
