-- Sides, alignments and thresholds as they arrive, and which setups are valid.
-- Assumes nothing.
use Rattle.std.specs.Prelude.{Bool, ◌&&◌, not, ℕ, ◌≤◌, ◌<◌, ◌^◌, ℤ, pos, negsuc, eqb, leb}
use Rattle.std.specs.Int.Signed.{le_z}
use Rattle.geometry.specs.declared.Size.{Size}
use Rattle.geometry.specs.declared.AllocatorOptions.{AllocatorOptions}
use Rattle.geometry.specs.declared.Extent.{Extent}
use Rattle.geometry.specs.declared.Setup.{Setup}

-- The number itself, or 0 where it is negative: 0 exactly where it is 0 or less (`natural_zero`).
unfoldable pub natural : ℤ → ℕ
natural (pos n) = n
natural (negsuc n) = 0

-- The largest side that a sheet may have.
abbrev pub largest_side : ℕ
largest_side = 2147483647

-- Sheet sides are 1 to the largest.
unfoldable pub sheet_side : ℕ → Bool
sheet_side side = not (eqb side 0) && leb side largest_side

-- Options are valid: alignment of two positive sides, large threshold ≥ small one.
abbrev pub valid_options : AllocatorOptions → Bool
valid_options options =
    not (eqb (natural options.alignment.width) 0) && (not (eqb (natural options.alignment.height) 0) && le_z options.small options.large)

-- A setup is valid: sheet sides in range, and valid options.
unfoldable pub valid_setup : Size → AllocatorOptions → Bool
valid_setup sheet options = sheet_side (natural sheet.width) && (sheet_side (natural sheet.height) && valid_options options)

-- Both sides as numbers to reckon with.
abbrev pub extent_of : Size → Extent
extent_of size = record { width = natural size.width; height = natural size.height }

-- The setup as numbers to reckon with. A threshold below 0 is as 0: no side is below either (`natural_compares`).
unfoldable pub setup_of : Size → AllocatorOptions → Setup
setup_of sheet options =
    record { sheet = extent_of sheet; alignment = extent_of options.alignment; small = natural options.small; large = natural options.large }

-- What is known of the numbers of a valid setup (`valid_setup_lem`).
pub record ValidSetup (s : Setup) : Type 0 where
  pub width : (0 < s.sheet.width) × (s.sheet.width ≤ largest_side)
  pub height : (0 < s.sheet.height) × (s.sheet.height ≤ largest_side)
  pub align_width : (0 < s.alignment.width) × (s.alignment.width < 2 ^ 31)
  pub align_height : (0 < s.alignment.height) × (s.alignment.height < 2 ^ 31)
  pub thresholds : s.small ≤ s.large
