-- Grow in two steps: along the root's orientation, then across it, each if the sheet grows that way.
-- Assumes nothing.
use Rattle.std.specs.Prelude.{ℕ, ◌&&◌, not, ltb}
use Rattle.geometry.specs.Choice.{pick}
use Rattle.geometry.specs.Rectangles.{flip}
use Rattle.geometry.specs.declared.Orientation.{Orientation}
use Rattle.geometry.specs.declared.Rectangle.{Rectangle}
use Rattle.geometry.specs.declared.Size.{Size}
use Rattle.slots.specs.declared.AllocIndex.{AllocIndex}
use Rattle.lists.specs.Lists.{free_entry}
use Rattle.steps.specs.State.{State}
use Rattle.sound.specs.View.{seen}
use Rattle.strips.specs.Strips.{along}
use Rattle.grows.specs.Grows.{growth, last_from}
use Rattle.grown.specs.Fills.{Fills, Carries, Roots}

-- The root's orientation, and the last slot of the top chain.
abbrev pub runs_at : State → Orientation
runs_at s = (seen s.words s.head.root.0).orientation

abbrev pub last_at : State → AllocIndex
last_at s = last_from s.head.count s.words s.head.root

-- The slots that the step along needs, and those that the step across does.
abbrev pub needs_along : State → Size → Size → ℕ
needs_along s old new = pick (ltb 0 (along (runs_at s) (growth old new)) && not (free_entry s.words (last_at s).0)) 1 0

abbrev pub needs_across : State → Size → Size → ℕ
needs_across s old new = pick (ltb 0 (along (flip (runs_at s)) (growth old new))) 2 0

-- Tables after k new slots, whose top chain fills `all` and whose root is as it was.
pub record Reaches (s t : State) (all : Rectangle) (k : ℕ) : Type 0 where
  pub fills : Fills t all
  pub carries : Carries s t k
  pub roots : Roots s t
