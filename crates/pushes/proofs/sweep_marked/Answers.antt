-- `pushes::sweep_marked` meets its contract. The loop's invariant: the state is that of the first i entries, and those from i on are as they were.
-- Assumes nothing.
use mathlib.Core.Path.{refl}
use native.Mathlib.Omega.{arith}
use Rattle.pushes.specs.Sweeps.{sweep_to}
use Rattle.pushes.proofs.SweepLaws.{start_ahead, next_ahead, next_sweep}
use Rattle.pushes.proofs.sweep_marked.Goals as goal

pub loop-i-init : goal.loop-i-init
unfolding sweep_to
loop-i-init c = (omega arith, start_ahead _ _, refl)

pub loop-i-preserved : goal.loop-i-preserved
loop-i-preserved c = let l = c.loop-i.invariant in
    let e = c.sweep_entry-kept.ensures in
    (omega arith, next_ahead _ _ _ _ _ _ _ e l.1, next_sweep _ _ _ _ _ _ _ e l.2)
