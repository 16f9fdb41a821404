-- The measure is three times the count, with a step for each of Container, chain and slot, which fall in this order at one count.
-- The loop's invariant: the members so far are those of the chain. Assumes nothing.
use Prim.Native.Nat.{◌+◌, ◌*◌}
use Rattle.places.proofs.WalkLaws.{Going}
use Rattle.places.proofs.+walk.Given as goal

abbrev pub decreases-place_of_slot : goal.decreases-place_of_slot
decreases-place_of_slot l = 3 * l.left

abbrev pub decreases-place_of_chain : goal.decreases-place_of_chain
decreases-place_of_chain l = 3 * l.left + 1

abbrev pub decreases-place_of_container : goal.decreases-place_of_container
decreases-place_of_container l = 3 * l.left + 2

abbrev pub invariant-place_of_chain-loop-parent : goal.invariant-place_of_chain-loop-parent
invariant-place_of_chain-loop-parent l = Going l.words l.firsts l.initial.at.0 l.parent l.o l.left l.at.0 l.prev l.sum

abbrev pub decreases-place_of_chain-loop-parent : goal.decreases-place_of_chain-loop-parent
decreases-place_of_chain-loop-parent l = l.sum.left
