use mathlib.Core.Path.{◌≡◌}
use Prim.Native.Nat.{◌≤◌}
use Rattle.steps.specs.Spares.{count_kind}
use Rattle.counts.proofs.count_kind.Given as goal

abbrev pub invariant-loop-i : goal.invariant-loop-i
invariant-loop-i l = (l.count ≡ count_kind l.words l.kind l.i) × (l.count ≤ l.i)
