-- `growable::slots_along` meets its contract: the sheet grows so or not, and the last slot is Free or not.
-- Assumes nothing.
use mathlib.Core.Bool.{not}
use mathlib.Core.Path.{ap, refl}
use borrow.Author.Rules.{rules}
use Rattle.growable.specs.GrowableLaws.{along_not, along_stretches, along_appends}
use Rattle.growable.proofs.slots_along.Goals as goal

pub returns-then-not-grows : goal.returns-then-not-grows
returns-then-not-grows c = along_not _ _ _ (ap not c.if-not-grows.true)

pub returns-then-eq : goal.returns-then-eq
returns-then-eq c = along_stretches _ _ _ (ap not c.if-not-grows.false) c.last_of-last.ensures c.node_at.ensures refl (search rules)

pub returns-else-eq : goal.returns-else-eq
returns-else-eq c = along_appends _ _ _ (ap not c.if-not-grows.false) c.last_of-last.ensures c.node_at.ensures refl (search rules)
