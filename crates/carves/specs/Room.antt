-- What writing the slots of a cut asks of the tables.
-- Assumes nothing.
use Rattle.std.specs.Prelude.{List, ℕ}
use Rattle.table.specs.Table.{node_at, HasSlot}
use Rattle.slots.specs.declared.AllocIndex.{AllocIndex}
use Rattle.grants.specs.declared.CutSlots.{CutSlots}
use Rattle.grants.specs.declared.Shape.{Shape}
use Rattle.grants.specs.declared.Shape.TheVariants.{Exact, Along, AlongLeft, Across, AcrossLeft}
use Rattle.pairs.specs.Pairs.{LinkHas}

-- The table holds the chosen slot, its next, and the new slots of the shape.
abbrev pub HasNew : Shape → List ℕ → CutSlots → Type 0
HasNew Exact w n = Unit {0}
HasNew Along w n = HasSlot w n.split
HasNew AlongLeft w n = HasSlot w n.split × HasSlot w n.alloc × HasSlot w n.left
HasNew Across w n = HasSlot w n.split × HasSlot w n.alloc
HasNew AcrossLeft w n = HasSlot w n.split × HasSlot w n.inner × HasSlot w n.alloc × HasSlot w n.left

pub record Carvable (shape : Shape) (w : List ℕ) (i : AllocIndex) (n : CutSlots) : Type 0 where
  pub chosen : HasSlot w i
  pub next : LinkHas w (node_at w i).next
  pub new : HasNew shape w n
