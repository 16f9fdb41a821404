-- What a level of the climb asks of the slot table.
-- Assumes nothing.
use Rattle.std.specs.Prelude.{ℕ, ◌*◌, ◌≤◌}
use Rattle.geometry.specs.declared.Rectangle.{Rectangle}
use Rattle.sound.specs.View.{Seen}
use Rattle.forest.specs.Tree.{Tree}
use Rattle.frees.specs.Climbs.{Level}
use Rattle.freed.specs.Climbing.{Reached}

-- A climb that started on sound tables has come to this level, and at most k slots are in use.
pub record Climbing (k : ℕ) (l : Level) : Type 0 where
  pub was : ℕ → Seen
  pub size : ℕ
  pub count : ℕ
  pub root : ℕ
  pub start : ℕ
  pub all : Rectangle
  pub tree : Tree
  pub slots : count * 8 ≤ size
  pub few : size ≤ 32768
  pub reached : Reached was size count root start all tree k l
