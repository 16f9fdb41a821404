-- `places::line_below` meets its contract: each turn goes from a Container to its only child, a Container too.
-- Assumes nothing.
use Rattle.places.specs.Places.{Lined}
use Rattle.places.proofs.line_below.Given as goal

abbrev pub invariant-loop-line : goal.invariant-loop-line
invariant-loop-line l = Lined l.words l.firsts l.initial.line.at.0 l.initial.line.along l.initial.line.left l.line.at.0 l.line.along l.line.left

abbrev pub decreases-loop-line : goal.decreases-loop-line
decreases-loop-line l = l.line.left
