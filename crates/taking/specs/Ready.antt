-- What taking the slots of a cut asks of the tables.
-- Assumes nothing.
use Rattle.std.specs.Prelude.{◌≡◌, true, List, ℕ, ◌*◌, ◌≤◌, ◌<◌, length}
use Rattle.geometry.specs.declared.Bucket.{Bucket}
use Rattle.cuts.specs.declared.Cut.{Cut}
use Rattle.table.specs.Table.{node_at}
use Rattle.slots.specs.declared.AllocIndex.{AllocIndex}
use Rattle.buckets.specs.FreeLists.{Lists, list_of}
use Rattle.steps.specs.declared.Head.{Head}
use Rattle.entries.specs.Entries.{ListsReady}
use Rattle.grants.specs.Shapes.{slots_needed}
use Rattle.grants.specs.declared.Shape.{Shape}
use Rattle.pairs.specs.Pairs.{CanTake, LinkHas}
use Rattle.pieces.specs.Pieces.{has_split, has_left, Upright}

-- The slots of the shape can be taken, the chosen slot and its next are slots of the table, and its entry is in a list.
pub record TakeReady (shape : Shape) (w g : List ℕ) (h : Head) (l : Lists) (i : AllocIndex) (b : Bucket) (k : ℕ) (c : Cut) : Type 0 where
  pub can : CanTake (slots_needed shape) w g h
  pub few : length g ≤ 4096
  pub slots : length g * 8 ≤ length w
  pub chosen : i.0 < length g
  pub next : LinkHas w (node_at w i).next
  pub lists : ListsReady w l
  pub place : k < (list_of b l).len
  pub split : has_split shape ≡ true → Upright c.split
  pub left : has_left shape ≡ true → Upright c.leftover
