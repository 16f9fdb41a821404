-- The rectangles of a grow, of either orientation.
-- Assumes nothing.
use Rattle.std.specs.Prelude.{ℕ, ◌+◌, ◌-◌, ◌≤◌, ◌<◌, ◌≡◌}
use Rattle.std.proofs.Math.Path.{refl}
use Rattle.std.proofs.Common.{add-zero}
use native.Mathlib.Omega.{arith}
use Rattle.geometry.specs.Rectangles.{flip}
use Rattle.geometry.specs.Sides.{natural, extent_of}
use Rattle.geometry.specs.declared.Orientation.{Orientation}
use Rattle.geometry.specs.declared.Orientation.TheVariants.{Vertical, Horizontal}
use Rattle.geometry.specs.declared.Rectangle.{Rectangle}
use Rattle.geometry.specs.declared.Size.{Size}
use Rattle.sound.specs.Rules.{NotEmpty, Adjoin, join}
use Rattle.sound.specs.Sound.{sheet_of}
use Rattle.strips.specs.Strips.{along, stretched_rect, appended_rect, strip_rect}
use Rattle.grows.specs.Grows.{growth}

-- ALONG

-- What is appended to a rectangle adjoins it, is not empty, and makes it the stretched one.
pub appended_adjoins : (o : Orientation) (r : Rectangle) (d : ℕ) → Adjoin o r (appended_rect o r d)
appended_adjoins Vertical r d = (refl, refl, refl)
appended_adjoins Horizontal r d = (refl, refl, refl)

pub appended_some : (o : Orientation) (r : Rectangle) (d : ℕ) → NotEmpty r → 0 < d → NotEmpty (appended_rect o r d)
appended_some Vertical r d h z = (h.0, omega arith)
appended_some Horizontal r d h z = (omega arith, h.1)

pub appended_join : (o : Orientation) (r : Rectangle) (d : ℕ) → join r (appended_rect o r d) ≡ stretched_rect o r d
appended_join Vertical r d = refl
appended_join Horizontal r d = refl

-- Where it adjoins the whole, the whole is stretched by as much.
pub whole_stretched : (o : Orientation) (all r : Rectangle) (d : ℕ) → Adjoin o all (appended_rect o r d) → join all (appended_rect o r d) ≡ stretched_rect o all d
whole_stretched Vertical all r d h = rw (h.0, h.2) refl
whole_stretched Horizontal all r d h = rw (h.0, h.2) refl

-- By 0 it stays.
pub stretched_none : (o : Orientation) (r : Rectangle) (d : ℕ) → d ≡ 0 → stretched_rect o r d ≡ r
stretched_none Vertical r d e = rw (e, add-zero r.y1) refl
stretched_none Horizontal r d e = rw (e, add-zero r.x1) refl

-- ACROSS

module _ (old new : Size) (wide : natural old.width ≤ natural new.width) (tall : natural old.height ≤ natural new.height) where
  back : (a b : ℕ) → a ≤ b → a + (b - a) ≡ b
  back a b h = omega arith

  -- A sheet no smaller than one that is not empty is not either.
  pub larger_some : NotEmpty (sheet_of old) → NotEmpty (sheet_of new)
  larger_some h = (omega arith, omega arith)

  -- The strip adjoins the sheet as it is after the growth along, and with it makes the new sheet.
  pub strip_adjoins : (o : Orientation) → Adjoin (flip o) (stretched_rect o (sheet_of old) (along o (growth old new))) (strip_rect (flip o) (extent_of old) (extent_of new))
  unfolding growth
  strip_adjoins Vertical = (refl, refl, back (natural old.height) (natural new.height) tall)
  strip_adjoins Horizontal = (refl, refl, back (natural old.width) (natural new.width) wide)

  pub strip_joins : (o : Orientation) → join (stretched_rect o (sheet_of old) (along o (growth old new))) (strip_rect (flip o) (extent_of old) (extent_of new)) ≡ sheet_of new
  unfolding growth
  strip_joins Vertical = refl
  strip_joins Horizontal = refl

  pub strip_some : (o : Orientation) → NotEmpty (sheet_of new) → 0 < along (flip o) (growth old new) → NotEmpty (strip_rect (flip o) (extent_of old) (extent_of new))
  unfolding growth
  strip_some Vertical h z = (omega arith, h.1)
  strip_some Horizontal h z = (h.0, omega arith)

  -- Where the sheet grows along alone, that is the new sheet.
  pub along_alone : (o : Orientation) → along (flip o) (growth old new) ≡ 0 → stretched_rect o (sheet_of old) (along o (growth old new)) ≡ sheet_of new
  unfolding growth
  along_alone Vertical z =
      let x : natural old.width ≡ natural new.width = omega arith in
      rw (x, back (natural old.height) (natural new.height) tall) refl
  along_alone Horizontal z =
      let y : natural old.height ≡ natural new.height = omega arith in
      rw (y, back (natural old.width) (natural new.width) wide) refl
