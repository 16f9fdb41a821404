-- `pushes::sweep` meets its contract: the sweep as it ran is the sweep as it is defined (`sweep_runs`).
-- Assumes nothing.
use mathlib.Core.Path.{ap, ◌∙◌}
use Rattle.lists.specs.Lists.{bag}
use Rattle.pushes.specs.Sweeps.{Sweeping}
use Rattle.pushes.proofs.SweepLaws.{sweep_runs}
use Rattle.pushes.proofs.sweep.Goals as goal

pub returns : goal.returns
returns c = ap (λ (s : Sweeping). bag s.table s.kept) c.sweep_marked.ensures ∙ sweep_runs _ _ _ _ c.requires.0 c.requires.1

-- ! bare place variable s
