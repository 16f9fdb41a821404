use mathlib.Core.Path.{◌≡◌}
use mathlib.Core.Bool.{Bool}
use Prim.Native.Nat.{ℕ, ◌-◌}
use Rattle.below.specs.Below.{first_from}
use Rattle.scans.specs.Tests.{Computes}
use Rattle.scans.proofs.lowest.Given as goal

abbrev pub invariant-loop-i : goal.invariant-loop-i
invariant-loop-i g l = (p : ℕ → Bool) → Computes (goal.F-post g l.holds) l.n p → first_from p l.i (l.n - l.i) ≡ first_from p 0 l.n
