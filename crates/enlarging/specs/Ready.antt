-- The steps of a grow, each if the sheet grows that way, and what they ask of the tables.
-- Assumes nothing.
use Rattle.std.specs.Prelude.{ℕ, ◌+◌, ◌≤◌, ltb}
use Rattle.geometry.specs.Choice.{pick}
use Rattle.geometry.specs.Sides.{natural}
use Rattle.geometry.specs.declared.Rectangle.{Rectangle}
use Rattle.geometry.specs.declared.Size.{Size}
use Rattle.steps.specs.State.{State}
use Rattle.sound.specs.Sound.{sheet_of}
use Rattle.lent.specs.Lent.{LentOf}
use Rattle.granted.specs.Terms.{spare_at}
use Rattle.grows.specs.Grows.{grown_along, grown_across}
use Rattle.grown.specs.Both.{needs_along, needs_across}
use Rattle.grown.specs.Fills.{Fills, Lone}

-- Along by a length, and across by one, if it is above 0.
abbrev pub along_by : State → ℕ → State
along_by s d = pick (ltb 0 d) (grown_along s d) s

abbrev pub across_by : State → ℕ → Rectangle → State
across_by s d r = pick (ltb 0 d) (grown_across s r) s

-- The sheet has its new size, which is no smaller; the tables are sound but that the top chain fills the old one; the root is no
-- lone Free slot; and as many slots are spare as the two steps need.
pub record BothReady (s : State) (old : Size) : Type 0 where
  pub lent : LentOf s
  pub fills : Fills s (sheet_of old)
  pub lone : Lone s → ⊥
  pub wide : natural old.width ≤ natural s.head.sheet.width
  pub tall : natural old.height ≤ natural s.head.sheet.height
  pub enough : needs_along s old s.head.sheet + needs_across s old s.head.sheet ≤ spare_at s
