-- A requested size has one of three outcomes, each exactly where it is due.
-- Assumes nothing.
use Rattle.std.specs.Prelude.{◌≡◌, ◌⊎◌, Result, Ok, Err, ℕ, ◌≤◌, ◌<◌}
use Rattle.geometry.specs.Sides.{natural}
use Rattle.rounding.specs.Rounding.{round_up, rounded}
use Rattle.geometry.specs.declared.Extent.{Extent}
use Rattle.geometry.specs.declared.Size.{Size}
use Rattle.geometry.specs.declared.Setup.{Setup}
use Rattle.refusals.specs.declared.Refusal.{Refusal}
use Rattle.refusals.specs.declared.Refusal.TheVariants.{NotPositive, TooLarge}

-- A requested side, or 0 where it is negative.
abbrev pub wide : Size → ℕ
wide size = natural size.width

abbrev pub tall : Size → ℕ
tall size = natural size.height

-- A requested side rounded up to a multiple of the setup's alignment.
abbrev pub wide_up : Setup → Size → ℕ
wide_up s size = round_up s.alignment.width (wide size)

abbrev pub tall_up : Setup → Size → ℕ
tall_up s size = round_up s.alignment.height (tall size)

-- What may become of a requested size, and where.
pub data Outcome (s : Setup) (size : Size) : Result Extent Refusal → Type 0 where
  -- A side is 0 or less.
  not_positive : (wide size ≡ 0) ⊎ (tall size ≡ 0) → Outcome s size (Err NotPositive)
  -- Both sides are above 0, and one of them rounded up exceeds 2,147,483,647.
  too_large : 0 < wide size → 0 < tall size → (2147483647 < wide_up s size) ⊎ (2147483647 < tall_up s size) → Outcome s size (Err TooLarge)
  -- Both sides are above 0 and neither rounded up exceeds it: the search takes the sides rounded up.
  accepted : 0 < wide size → 0 < tall size → wide_up s size ≤ 2147483647 → tall_up s size ≤ 2147483647 →
      Outcome s size (Ok (record { width = wide_up s size; height = tall_up s size }))
