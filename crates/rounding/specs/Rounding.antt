-- Rounding: up to a multiple of the alignment, checked.
-- Assumes nothing.
use Rattle.std.specs.Prelude.{◌||◌, Option, Some, None, Result, Ok, Err, ℕ, ◌+◌, ◌-◌, ◌%◌, eqb, leb}
use Rattle.geometry.specs.Choice.{pick}
use Rattle.geometry.specs.Sides.{natural}
use Rattle.geometry.specs.declared.Extent.{Extent}
use Rattle.geometry.specs.declared.Size.{Size}
use Rattle.geometry.specs.declared.Setup.{Setup}
use Rattle.refusals.specs.declared.Refusal.{Refusal}
use Rattle.refusals.specs.declared.Refusal.TheVariants.{NotPositive, TooLarge}

-- The least multiple of the alignment that is not below the side (`round_up_multiple`, `round_up_up`, `round_up_least`).
unfoldable pub round_up : ℕ → ℕ → ℕ
round_up alignment side = pick (eqb (side % alignment) 0) side (side + (alignment - side % alignment))

-- Checked: refused where the result exceeds 2,147,483,647.
unfoldable pub rounded : ℕ → ℕ → Option ℕ
rounded alignment side = pick (leb (round_up alignment side) 2147483647) (Some (round_up alignment side)) None

-- Both sides rounded, or refused.
abbrev pub both_rounded : Option ℕ → Option ℕ → Result Extent Refusal
both_rounded (Some w) (Some h) = Ok (record { width = w; height = h })
both_rounded (Some w) None = Err TooLarge
both_rounded None h = Err TooLarge

-- A requested size as the search takes it: refused first where a side is 0 or less, then where one rounded up is too large.
unfoldable pub request_of : Setup → Size → Result Extent Refusal
request_of s size =
    pick (eqb (natural size.width) 0 || eqb (natural size.height) 0) (Err NotPositive)
    (both_rounded (rounded s.alignment.width (natural size.width)) (rounded s.alignment.height (natural size.height)))
