-- `stretches::last_of` meets its contract: the last slot of the chain still to go is that of the whole chain.
-- Assumes nothing.
use mathlib.Core.Path.{◌≡◌}
use mathlib.Core.Bool.{false}
use Prim.Native.Nat.{◌-◌}
use Rattle.slots.specs.Slots.{is_none}
use Rattle.grows.specs.Grows.{last_from}
use Rattle.stretches.specs.Chains.{ChainHas}
use Rattle.stretches.proofs.last_of.Given as goal

abbrev pub invariant-loop-k : goal.invariant-loop-k
invariant-loop-k l = (last_from (l.n - l._k) l.words l.at ≡ last_from l.n l.words l.initial.at) × (is_none l.at ≡ false) × ChainHas (l.n - l._k) l.words l.at
