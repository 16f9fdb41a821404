-- `stretches::reparent` meets its contract: what the chain still to go makes of the table is what the whole chain makes of it.
-- Assumes nothing.
use mathlib.Core.Path.{◌≡◌}
use Prim.Native.Nat.{◌-◌}
use lib.ListN.{length}
use Rattle.grows.specs.Grows.{reparented}
use Rattle.stretches.specs.Chains.{ChainHas}
use Rattle.stretches.proofs.reparent.Given as goal

abbrev pub invariant-loop-j : goal.invariant-loop-j
invariant-loop-j l = (reparented (l.n - l._j) l.words l.p l.at ≡ reparented l.n l.initial.words l.p l.initial.at) × ChainHas (l.n - l._j) l.words l.at × (length l.words ≡ length l.initial.words)
