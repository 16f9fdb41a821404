-- The cut of a chosen rectangle: request, split and leftover tile it; the split is never empty; where the leftover is; an exact
-- fit leaves nothing.
-- Assumes nothing.
use Rattle.std.specs.Prelude.{◌≡◌, refl, Bool, true, ℕ, zero, suc, ◌+◌, ◌-◌, ◌*◌, ◌≤◌, ◌<◌, leb}
use Rattle.std.proofs.Common.{sym, ◌∙◌, true≢false, mul-pos, zero-mul, mul-zero, arith}
use Rattle.std.proofs.Math.Bool.{false}
use Rattle.std.proofs.Math.Logic.{⊎_elim}
use Rattle.std.proofs.Math.Dec.{eqb}
use borrow.Author.Tests.{eqb-true, eqb-false, ltb-true, ltb-false, le-leb, lt-leb}
use Rattle.geometry.specs.Choice.{pick_elim, lesser, lesser_first}
use Rattle.geometry.specs.Rectangles.{flip, no_rect, width_of, height_of, empty_rect}
use Rattle.cuts.specs.Cuts.{FitsIn, at_corner, area_compared, split_of, leftover_of, exact_fit, cut_way, cut_of}
use Rattle.geometry.specs.Measures.{covers, area_of, span, start, end, along, Adds}
use Rattle.geometry.proofs.MeasureLaws.{covers_adds, area_adds, adds_nothing}
use Rattle.cuts.specs.PieceLaws.{Spans, Inside}
use Rattle.cuts.proofs.PieceLaws.{pieces_span, fits_along, along_positive, span_empty, pieces_inside, pieces_add}
use Rattle.geometry.specs.TestLaws.{and_true_each, and_false_one}
use Rattle.geometry.specs.declared.Rectangle.{Rectangle}
use Rattle.geometry.specs.declared.Orientation.{Orientation}
use Rattle.geometry.specs.declared.Orientation.TheVariants.{Vertical, Horizontal}
use Rattle.cuts.specs.declared.Cut.{Cut}

-- All that is used of the area compared: it is above 0 exactly where both sides are.
compared_positive : {u v : ℕ} → 0 < u → 0 < v → 0 < area_compared u v
unfolding area_compared lesser
compared_positive {u} {v} p q = pick_elim (λ (n : ℕ). 0 < n) (leb (u * v) 2147483647) _ _ (λ t. mul-pos p q) (λ t. omega arith)

compared_sides : (u v : ℕ) → 0 < area_compared u v → (0 < u) × (0 < v)
unfolding area_compared
compared_sides u v h = sides u v (omega (arith, lesser_first (u * v) 2147483647 _ refl))
  where
    sides : (u v : ℕ) → 0 < u * v → (0 < u) × (0 < v)
    sides zero v h = absurd (let k = rw (zero-mul v) at h in omega arith)
    sides (suc u) zero h = absurd (let k = rw (mul-zero (suc u)) at h in omega arith)
    sides (suc u) (suc v) h = (omega arith, omega arith)

-- Within a bound, to be at it is to be equal to it.
leb_eqb : (n d : ℕ) → n ≤ d → leb d n ≡ eqb n d
leb_eqb n d t = go (eqb n d) refl
  where
    go : (b : Bool) → eqb n d ≡ b → leb d n ≡ b
    go true e = le-leb d n (omega (arith, eqb-true n d e))
    go false e = lt-leb d n (omega (arith, eqb-false n d e))

module _ {r : Rectangle} {w h : ℕ} (f : FitsIn r w h) where
  -- An exact fit fills the rectangle.
  pub exact_fills : exact_fit r w h ≡ true → at_corner r w h ≡ r
  unfolding exact_fit
  exact_fills e =
      let k = and_true_each _ _ e in
      let x = eqb-true (width_of r) w k.0 in
      let y = eqb-true (height_of r) h k.1 in
      let right : r.x0 + w ≡ r.x1 = omega (arith, f.wide) in
      let bottom : r.y0 + h ≡ r.y1 = omega (arith, f.tall) in
      rw (right, bottom)

  -- Where the greater candidate is to the right, the rectangle goes on to the right.
  right_remains : area_compared w (height_of r - h) < area_compared (width_of r - w) h → r.x0 + w < r.x1
  right_remains t = let k = compared_sides (width_of r - w) h (omega arith) in omega (arith, f.wide)

  -- Where it is not, and the fit is not exact, the rectangle goes on below.
  bottom_remains : 0 < h → exact_fit r w h ≡ false →
      area_compared (width_of r - w) h ≤ area_compared w (height_of r - h) → r.y0 + h < r.y1
  unfolding exact_fit
  bottom_remains q e t = ⊎_elim wider taller (and_false_one _ _ e)
    where
      wider : eqb (width_of r) w ≡ false → r.y0 + h < r.y1
      wider x =
          let k = eqb-false (width_of r) w x in
          let a = compared_positive {u = width_of r - w} {v = h} (omega (arith, f.wide)) q in
          let b = compared_sides w (height_of r - h) (omega arith) in
          omega (arith, f.tall)

      taller : eqb (height_of r) h ≡ false → r.y0 + h < r.y1
      taller y = let k = eqb-false (height_of r) h y in omega (arith, f.tall)

  -- Where the fit is not exact, the rectangle goes on past the request along the cut.
  pub split_remains : 0 < h → exact_fit r w h ≡ false →
      start (cut_way r w h) r + along (cut_way r w h) w h < end (cut_way r w h) r
  unfolding cut_way
  split_remains q e =
      pick_elim (λ o. start o r + along o w h < end o r) _ Horizontal Vertical (λ t. right_remains (ltb-true _ _ t))
      (λ t. bottom_remains q e (ltb-false _ _ t))

-- The two cases of the cut.
module _ (r : Rectangle) (w h : ℕ) (kept : Orientation) where
  -- An exact fit leaves no pieces, and the orientation is kept.
  pub exact_no_pieces : exact_fit r w h ≡ true →
      cut_of r w h kept ≡ record { orientation = kept; split = no_rect; leftover = no_rect }
  unfolding cut_of
  exact_no_pieces e = rw e

  -- Any other leaves a split and a leftover by the way of the cut.
  pub cut_pieces : exact_fit r w h ≡ false →
      cut_of r w h kept ≡
      record { orientation = cut_way r w h; split = split_of (cut_way r w h) r w h; leftover = leftover_of (cut_way r w h) r w h }
  unfolding cut_of
  cut_pieces e = rw e

  -- What holds of both cases holds of the cut.
  cut_elim : (P : Cut → Type 0) →
      (exact_fit r w h ≡ true → P (record { orientation = kept; split = no_rect; leftover = no_rect })) →
      (exact_fit r w h ≡ false →
      P (record { orientation = cut_way r w h; split = split_of (cut_way r w h) r w h; leftover = leftover_of (cut_way r w h) r w h })) →
      P (cut_of r w h kept)
  unfolding cut_of
  cut_elim P f g = pick_elim P (exact_fit r w h) _ _ f g

module _ {r : Rectangle} {w h : ℕ} (f : FitsIn r w h) (kept : Orientation) where
  -- Request, split and leftover add up to the chosen rectangle, in every measure that adds up.
  pub cut_adds : (μ : Rectangle → ℕ) → Adds μ →
      μ (at_corner r w h) + (μ (cut_of r w h kept).split + μ (cut_of r w h kept).leftover) ≡ μ r
  cut_adds μ adds =
      cut_elim r w h kept (λ c. μ (at_corner r w h) + (μ c.split + μ c.leftover) ≡ μ r)
      (λ e. rw (exact_fills f e) (omega (arith, adds_nothing μ adds Horizontal 0 0 0)))
      (λ e. pieces_add (cut_way r w h) f μ adds)

  -- So they cover each point of it exactly once, and none outside.
  pub cut_covers : (x y : ℕ) →
      covers x y (at_corner r w h) + (covers x y (cut_of r w h kept).split + covers x y (cut_of r w h kept).leftover) ≡ covers x y r
  cut_covers x y = cut_adds (covers x y) (covers_adds x y)

  -- And their areas add up.
  pub cut_area : area_of (at_corner r w h) + (area_of (cut_of r w h kept).split + area_of (cut_of r w h kept).leftover) ≡ area_of r
  cut_area = cut_adds area_of area_adds

  -- A piece that is not empty lies within the chosen rectangle.
  pub cut_inside : (empty_rect (cut_of r w h kept).split ≡ false → Inside (cut_of r w h kept).split r) ×
      (empty_rect (cut_of r w h kept).leftover ≡ false → Inside (cut_of r w h kept).leftover r)
  unfolding empty_rect
  cut_inside =
      cut_elim r w h kept (λ c. (empty_rect c.split ≡ false → Inside c.split r) × (empty_rect c.leftover ≡ false → Inside c.leftover r))
      (λ e. (λ n. absurd (true≢false n), λ n. absurd (true≢false n)))
      (λ e. let k = pieces_inside (cut_way r w h) f in (λ n. k.0, λ n. k.1))

  module _ (p : 0 < w) (q : 0 < h) (e : exact_fit r w h ≡ false) where
    -- Where the fit is not exact, all pieces are spans of the cut's orientation, and the rectangle goes on along it.
    pub cut_spans : let o = (cut_of r w h kept).orientation in
        Spans o r w h (cut_of r w h kept).split (cut_of r w h kept).leftover × (start o r + along o w h < end o r)
    cut_spans = rw (cut_pieces r w h kept e) (pieces_span (cut_way r w h) r w h, split_remains f q e)

    -- The split is not empty.
    pub split_not_empty : empty_rect (cut_of r w h kept).split ≡ false
    split_not_empty =
        let o = cut_way r w h in
        let c = start (flip o) r in
        let d = end (flip o) r in
        let across : c < d = omega (arith, along_positive (flip o) p q, fits_along (flip o) f) in
        rw (cut_pieces r w h kept e, (pieces_span o r w h).beyond, span_empty o c d (split_remains f q e)) (lt-leb d c across)

    -- The leftover is empty exactly where the request goes all the way across.
    pub cut_leftover_empty : let o = (cut_of r w h kept).orientation in
        empty_rect (cut_of r w h kept).leftover ≡ eqb (start (flip o) r + along (flip o) w h) (end (flip o) r)
    cut_leftover_empty =
        let o = cut_way r w h in
        let n = start (flip o) r + along (flip o) w h in
        let d = end (flip o) r in
        let request : start o r < start o r + along o w h = omega (arith, along_positive o p q) in
        rw (cut_pieces r w h kept e, (pieces_span o r w h).beside, span_empty o n d request) (leb_eqb n d (fits_along (flip o) f))

    -- Where it is empty, request and split are all of the rectangle.
    pub no_leftover_fills : empty_rect (cut_of r w h kept).leftover ≡ true → let o = (cut_of r w h kept).orientation in
        at_corner r w h ≡ span o (start o r) (start o r + along o w h) (start (flip o) r) (end (flip o) r)
    no_leftover_fills n =
        let o = (cut_of r w h kept).orientation in
        let fills = eqb-true (start (flip o) r + along (flip o) w h) (end (flip o) r) (sym cut_leftover_empty ∙ n) in
        rw (← fills) cut_spans.0.request

    -- Where it is not, the rectangle goes on past the request across the cut too.
    pub leftover_remains : empty_rect (cut_of r w h kept).leftover ≡ false → let o = (cut_of r w h kept).orientation in
        start (flip o) r + along (flip o) w h < end (flip o) r
    leftover_remains n =
        let o = (cut_of r w h kept).orientation in
        let a = eqb-false (start (flip o) r + along (flip o) w h) (end (flip o) r) (sym cut_leftover_empty ∙ n) in
        omega (arith, fits_along (flip o) f)
