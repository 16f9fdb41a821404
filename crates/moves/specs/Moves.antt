-- A MOVED ENTRY.
-- Assumes nothing.
use Rattle.std.specs.Prelude.{List, ℕ}
use Rattle.geometry.specs.declared.Rectangle.{Rectangle}
use Rattle.geometry.specs.declared.Setup.{Setup}
use Rattle.slots.specs.declared.AllocIndex.{AllocIndex}
use Rattle.buckets.specs.FreeLists.{Lists, forgotten}
use Rattle.entries.specs.Entries.{entered}

-- First occurrence, buckets small to large, swap-removed, then pushed.
abbrev pub moved : List ℕ → Setup → AllocIndex → Rectangle → Lists → Lists
moved w s i r l = entered w s i r (forgotten i.0 l)
