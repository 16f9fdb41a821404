-- Rectangles that adjoin: three in a row, the parts of a whole, and the strip beyond one.
-- Assumes nothing.
use Rattle.std.specs.Prelude.{ℕ, ◌+◌, ◌<◌, ◌≡◌, refl}
use Rattle.std.proofs.Common.{sym, ◌∙◌, arith}
use Rattle.geometry.specs.declared.Orientation.{Orientation}
use Rattle.geometry.specs.declared.Orientation.TheVariants.{Vertical, Horizontal}
use Rattle.geometry.specs.declared.Rectangle.{Rectangle}
use Rattle.sound.specs.Rules.{NotEmpty, Adjoin, join}

-- A rectangle is made of two that adjoin along an orientation.
pub record Parts (o : Orientation) (whole a b : Rectangle) : Type 0 where
  pub adjoin : Adjoin o a b
  pub joined : whole ≡ join a b

-- Where b adjoins a and c adjoins b, c adjoins the join of the first two,
pub join_adjoins : (o : Orientation) (a b c : Rectangle) → Adjoin o a b → Adjoin o b c → Adjoin o (join a b) c
join_adjoins Vertical a b c h g = (g.0, h.1 ∙ g.1, g.2)
join_adjoins Horizontal a b c h g = (g.0, h.1 ∙ g.1, g.2)

-- and the join of the last two adjoins a.
pub adjoins_join : (o : Orientation) (a b c : Rectangle) → Adjoin o a b → Adjoin o b c → Adjoin o a (join b c)
adjoins_join Vertical a b c h g = (h.0, h.1, h.2 ∙ g.2)
adjoins_join Horizontal a b c h g = (h.0, h.1, h.2 ∙ g.2)

-- What adjoins a join adjoins its second part,
pub second_adjoins : (o : Orientation) (a b c : Rectangle) → Adjoin o a b → Adjoin o (join a b) c → Adjoin o b c
second_adjoins Vertical a b c h g = (g.0, sym h.1 ∙ g.1, g.2)
second_adjoins Horizontal a b c h g = (g.0, sym h.1 ∙ g.1, g.2)

-- and where a join adjoins a rectangle, so does its first part.
pub adjoins_first : (o : Orientation) (a b c : Rectangle) → Adjoin o a (join b c) → Adjoin o b c → Adjoin o a b
adjoins_first Vertical a b c h g = (h.0, h.1, h.2 ∙ sym g.2)
adjoins_first Horizontal a b c h g = (h.0, h.1, h.2 ∙ sym g.2)

-- The strip of length d beyond a rectangle, along an orientation.
abbrev pub strip : Orientation → Rectangle → ℕ → Rectangle
strip Vertical r d = record { x0 = r.x0; y0 = r.y1; x1 = r.x1; y1 = r.y1 + d }
strip Horizontal r d = record { x0 = r.x1; y0 = r.y0; x1 = r.x1 + d; y1 = r.y1 }

-- It adjoins the rectangle,
pub strip_adjoins : (o : Orientation) (r : Rectangle) (d : ℕ) → Adjoin o r (strip o r d)
strip_adjoins Vertical r d = (refl, refl, refl)
strip_adjoins Horizontal r d = (refl, refl, refl)

-- and is not empty.
pub strip_some : (o : Orientation) (r : Rectangle) (d : ℕ) → NotEmpty r → 0 < d → NotEmpty (strip o r d)
strip_some Vertical r d h l = (h.0, omega arith)
strip_some Horizontal r d h l = (omega arith, h.1)

-- A whole that the strip beyond its last part adjoins gets longer by as much.
pub strip_joins : (o : Orientation) (r q : Rectangle) (d : ℕ) → Adjoin o r (strip o q d) → join r (strip o q d) ≡ join r (strip o r d)
strip_joins Vertical r q d h = rw (h.0, h.2) refl
strip_joins Horizontal r q d h = rw (h.0, h.2) refl
