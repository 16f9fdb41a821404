-- `spares::chain_has` meets its contract: the loop's invariant is that the walk still to go answers as the whole walk.
-- Assumes nothing.
use mathlib.Core.Path.{◌≡◌}
use Prim.Native.Nat.{◌-◌}
use Rattle.spares.specs.Chains.{chain_has}
use Rattle.spares.proofs.chain_has.Given as goal

abbrev pub invariant-loop : goal.invariant-loop
invariant-loop l = chain_has l.words l.n (l.k - l.counter) l.at ≡ chain_has l.words l.n l.k l.initial.at
