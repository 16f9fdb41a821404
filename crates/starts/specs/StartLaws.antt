-- The laws by which start, clear and reset are proved.
-- Assumes nothing.
use Rattle.std.specs.Prelude.{◌≡◌, true, false}
use Rattle.geometry.specs.Sides.{valid_setup}
use Rattle.geometry.specs.declared.AllocatorOptions.{AllocatorOptions}
use Rattle.geometry.specs.declared.Size.{Size}
use Rattle.steps.specs.State.{State}
use Rattle.lent.specs.Lent.{lent}
use Rattle.sheets.specs.Sheets.{started}
use Rattle.outcomes.specs.Given.{nothing, given}
use Rattle.starts.specs.Starts.{start_call}

-- The two refusals, and the start.
module _ (sheet : Size) (options : AllocatorOptions) (s : State) where
  pub start_lengths : lent s ≡ false → given 1 nothing s ≡ start_call sheet options s
  unfolding start_call
  start_lengths h = rw h

  pub start_invalid : lent s ≡ true → valid_setup sheet options ≡ false → given 3 nothing s ≡ start_call sheet options s
  unfolding start_call
  start_invalid h v = rw (h, v)

  pub start_done : (t : State) → lent s ≡ true → valid_setup sheet options ≡ true
      → t ≡ started sheet options s.words s.generations s.small s.medium s.large → given 0 nothing t ≡ start_call sheet options s
  unfolding start_call
  start_done t h v e = rw (h, v, e)
