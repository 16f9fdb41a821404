-- What growing along asks of the tables.
-- Assumes nothing.
use Rattle.std.specs.Prelude.{not, ℕ, ◌+◌, ◌^◌, ◌≤◌, ◌<◌}
use Rattle.geometry.specs.Choice.{pick}
use Rattle.geometry.specs.declared.Rectangle.{Rectangle}
use Rattle.lists.specs.Lists.{free_entry}
use Rattle.steps.specs.State.{State}
use Rattle.lent.specs.Lent.{LentOf}
use Rattle.granted.specs.Terms.{spare_at}
use Rattle.grown.specs.Fills.{Fills, Lone}
use Rattle.grown.specs.Both.{last_at}

-- The tables are sound but for what the top chain fills, the root is no lone Free slot, a slot is spare if one must be appended, and
-- the corners of the longer whole are in the range of a u32.
pub record AlongReady (s : State) (by : ℕ) : Type 0 where
  pub all : Rectangle
  pub lent : LentOf s
  pub fills : Fills s all
  pub lone : Lone s → ⊥
  pub more : 0 < by
  pub spare : pick (not (free_entry s.words (last_at s).0)) 1 0 ≤ spare_at s
  pub room : (all.x1 + by < 2 ^ 32) × (all.y1 + by < 2 ^ 32)
