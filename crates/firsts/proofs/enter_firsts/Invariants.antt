-- `firsts::enter_firsts` meets its contract: the loop's invariant is that the slots passed are entered.
-- Assumes nothing.
use mathlib.Core.Path.{◌≡◌}
use lib.ListN.{length}
use Rattle.links.specs.Links.{firsts_to}
use Rattle.firsts.proofs.enter_firsts.Given as goal

abbrev pub invariant-loop-i : goal.invariant-loop-i
invariant-loop-i l = (l.firsts ≡ firsts_to l.words l.n l.i l.initial.firsts) × (length l.firsts ≡ length l.initial.firsts)
