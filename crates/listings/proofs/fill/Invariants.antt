use mathlib.Core.Path.{◌≡◌}
use lib.ListN.{length}
use Rattle.lists.specs.Lists.{bag}
use Rattle.listings.specs.Listings.{entries}
use Rattle.written.specs.Fills.{wrote}
use Rattle.listings.proofs.fill.Given as goal

abbrev pub invariant-loop-i : goal.invariant-loop-i
invariant-loop-i l = (length l.out ≡ length l.initial.out) × (bag l.out l.at ≡ wrote (bag l.initial.out 0) (entries l.words l.generations l.kind l.i))
