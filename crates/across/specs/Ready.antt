-- What growing across asks of the tables, and what it makes of the slot table.
-- Assumes nothing.
use Rattle.std.specs.Prelude.{◌≡◌, List, ℕ, ◌*◌, ◌≤◌, length}
use Rattle.geometry.specs.Rectangles.{flip, no_rect}
use Rattle.geometry.specs.declared.Rectangle.{Rectangle}
use Rattle.slots.specs.Slots.{none}
use Rattle.slots.specs.declared.AllocIndex.{AllocIndex}
use Rattle.slots.specs.declared.NodeKind.TheVariants.{Container}
use Rattle.table.specs.Table.{node_at}
use Rattle.steps.specs.Spares.{spare_slots}
use Rattle.steps.specs.State.{State}
use Rattle.steps.specs.declared.Head.{Head}
use Rattle.sound.specs.View.{link_of, seen}
use Rattle.sound.specs.Sound.{SpareChain, Linked}
use Rattle.lent.specs.Lent.{LentOf}
use Rattle.grants.specs.Carves.{pair_under}
use Rattle.granted.specs.Terms.{spare_at}
use Rattle.grows.specs.Grows.{reparented}
use Rattle.grown.specs.Fills.{Fills}

-- The slot table with t as the new root over the old top chain, and the Free slot f after it.
unfoldable pub crossed : List ℕ → Head → AllocIndex → AllocIndex → Rectangle → List ℕ
crossed w h t f r = reparented h.count (pair_under w none (flip (node_at w h.root).orientation) t Container no_rect f r) t h.root

-- Two slots are spare, by rule 2, and the slots are linked by rule 3.
pub record RootReady (w g : List ℕ) (h : Head) : Type 0 where
  pub few : length g ≤ 4096
  pub eight : length w ≡ length g * 8
  pub fits : h.count ≤ length g
  pub chain : SpareChain (seen w) h.count (link_of h.spare)
  pub links : Linked (seen w) h.count h.root.0
  pub spare : 2 ≤ spare_slots w (length g) h.count

-- The tables are sound but for what the top chain fills, two slots are spare, and the rectangle has its corners in order.
pub record AcrossReady (s : State) (r : Rectangle) : Type 0 where
  pub all : Rectangle
  pub lent : LentOf s
  pub fills : Fills s all
  pub spare : 2 ≤ spare_at s
  pub wide : r.x0 ≤ r.x1
  pub tall : r.y0 ≤ r.y1
