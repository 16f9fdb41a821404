-- A Free slot is pushed onto the list of its rectangle's bucket.
-- Assumes nothing.
use Rattle.std.specs.Prelude.{List, ℕ, ◌*◌, ◌≤◌, length}
use Rattle.geometry.specs.Buckets.{bucket_of}
use Rattle.geometry.specs.Rectangles.{width_of, height_of}
use Rattle.geometry.specs.declared.Bucket.{Bucket}
use Rattle.geometry.specs.declared.Rectangle.{Rectangle}
use Rattle.geometry.specs.declared.Setup.{Setup}
use Rattle.slots.specs.declared.AllocIndex.{AllocIndex}
use Rattle.lists.specs.Lists.{Bag, Entries}
use Rattle.pushes.specs.Pushes.{Pushable}
use Rattle.buckets.specs.FreeLists.{Lists, list_of, pushed_to}

-- Slot i with rectangle r is pushed, by the thresholds of a setup.
abbrev pub entered : List ℕ → Setup → AllocIndex → Rectangle → Lists → Lists
entered w s i r l = pushed_to w i.0 (bucket_of s.small s.large (width_of r) (height_of r)) l

-- What a push asks of the lists, whichever the bucket: at most 4,096 slots, list tables of at least as many entries as there are
-- slots, and entries that name slots of the table.
pub record ListReady (w : List ℕ) (b : Bag) : Type 0 where
  pub entries : Entries w b
  pub few : length w ≤ 32768
  pub room : length w ≤ length b.table * 8

abbrev pub ListsReady : List ℕ → Lists → Type 0
ListsReady w l = (b : Bucket) → ListReady w (list_of b l)

-- Slot v can be pushed onto any of the lists.
abbrev pub Enterable : List ℕ → ℕ → Lists → Type 0
Enterable w v l = (b : Bucket) → Pushable w v (list_of b l)
