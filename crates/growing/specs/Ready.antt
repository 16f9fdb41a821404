-- What the steps of a grow ask of the tables.
-- Assumes nothing.
use Rattle.std.specs.Prelude.{List, ℕ, ◌≤◌}
use Rattle.geometry.specs.declared.Rectangle.{Rectangle}
use Rattle.table.specs.Table.{HasSlot}
use Rattle.slots.specs.declared.AllocIndex.{AllocIndex}
use Rattle.buckets.specs.FreeLists.{Lists}
use Rattle.entries.specs.Entries.{ListsReady}

-- The table holds slot i, the lists are ready for a push, and the new rectangle has its corners in order.
pub record StepReady (w : List ℕ) (l : Lists) (i : AllocIndex) (r : Rectangle) : Type 0 where
  pub lists : ListsReady w l
  pub slot : HasSlot w i
  pub wide : r.x0 ≤ r.x1
  pub tall : r.y0 ≤ r.y1
