-- `pushes::sweep_marked` meets its contract. The loop's invariant: the state is that of the first i entries, and those from i on are as they were.
-- Assumes nothing.
use Prim.Native.Nat.{◌≤◌}
use mathlib.Core.Path.{◌≡◌}
use Rattle.pushes.specs.Sweeps.{sweeping, sweep_to}
use Rattle.pushes.specs.SweepLaws.{Ahead}
use Rattle.pushes.proofs.sweep_marked.Given as goal

abbrev pub invariant-loop-i : goal.invariant-loop-i
invariant-loop-i l = (l.i ≤ l.len) × Ahead l.initial.list l.initial.marks l.i (sweeping l.list l.marks l.kept) × (sweeping l.list l.marks l.kept ≡ sweep_to l.words l.v l.i (sweeping l.initial.list l.initial.marks 0))
