-- `growable::grow_slots` meets its contract: none for a single Free root, else those along and those across.
-- Assumes nothing.
use native.Mathlib.Omega.{arith}
use Rattle.growable.specs.GrowableLaws.{along_most, slots_lone, slots_across, slots_along_alone}
use Rattle.growable.proofs.grow_slots.Goals as goal

pub returns-then-is_lone : goal.returns-then-is_lone
returns-then-is_lone c = λ g a b x. slots_lone _ _ c.is_lone.ensures c.if-is_lone.true

pub overflow_add-result : goal.overflow_add-result
overflow_add-result c = record { fits = omega (arith, along_most _ _ _ c.slots_along-along.ensures) }

pub returns-then-far-gt0 : goal.returns-then-far-gt0
returns-then-far-gt0 c = λ g a b x. slots_across _ _ c.is_lone.ensures c.if-is_lone.false c.node_at-o.ensures c.ways_of-far.ensures c.slots_along-along.ensures c.if-far-gt0.true

pub returns-else-far-gt0 : goal.returns-else-far-gt0
returns-else-far-gt0 c = λ g a b x. slots_along_alone _ _ c.is_lone.ensures c.if-is_lone.false c.node_at-o.ensures c.ways_of-far.ensures c.slots_along-along.ensures c.if-far-gt0.false
