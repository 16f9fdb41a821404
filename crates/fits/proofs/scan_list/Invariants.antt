-- `scan_list` is the whole scan. Its loop's invariant: the list is ready and as long as it was, and the looks that are left lead where the
-- scan from the start does. The measure is the places left. Assumes nothing.
use mathlib.Core.Path.{◌≡◌}
use Prim.Native.Nat.{◌-◌}
use lib.ListN.{length}
use Rattle.lists.specs.Lists.{bag}
use Rattle.fits.specs.Scans.{scanned, looking, scan_all, Ready, Open}
use Rattle.fits.proofs.scan_list.Given as goal

abbrev pub invariant-loop-s : goal.invariant-loop-s
invariant-loop-s l = Ready l.words (bag l.list l.s.len) × (length l.list ≡ length l.initial.list) × Open l.s l.q × (looking l.words l.q (l.s.len - l.s.at) (scanned l.s l.list) ≡ scan_all l.words l.q l.initial.list l.len)

abbrev pub decreases-loop-s : goal.decreases-loop-s
decreases-loop-s l = l.s.len - l.s.at
