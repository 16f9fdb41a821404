-- What 7 leaves: the lists as the search left them, the chosen entry still in.
-- Assumes nothing.
use Rattle.std.specs.Prelude.{◌≡◌, false, ℕ, leb, length}
use Rattle.geometry.specs.declared.Bucket.{Bucket}
use Rattle.geometry.specs.declared.Extent.{Extent}
use Rattle.geometry.specs.declared.Setup.{Setup}
use Rattle.cuts.specs.Cuts.{cut_of}
use Rattle.slots.specs.declared.AllocIndex.{AllocIndex}
use Rattle.table.specs.Table.{node_at}
use Rattle.buckets.specs.FreeLists.{Lists}
use Rattle.steps.specs.Spares.{spare_slots}
use Rattle.steps.specs.State.{State, lists_of}
use Rattle.grants.specs.Grants.{cut_for}
use Rattle.grants.specs.Shapes.{shape_of, slots_needed}

-- Slot i, chosen for a request, needs more slots than are spare: 7, with the lists as they are given.
pub seven_keeps_the_entry : (s : State) (setup : Setup) (l : Lists) (e : Extent) (i : AllocIndex) (b : Bucket) (k : ℕ)
    → let m = node_at s.words i in
    leb (slots_needed (shape_of (cut_of m.rect e.width e.height m.orientation) m.orientation)) (spare_slots s.words (length s.generations) s.head.count) ≡ false
    → lists_of (cut_for s setup l e i b k).after ≡ l
unfolding cut_for
seven_keeps_the_entry s setup l e i b k h = rw h
