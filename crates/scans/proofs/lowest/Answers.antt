use mathlib.Core.Path.{◌≡◌, sym, ◌∙◌}
use native.Mathlib.Omega.{arith}
use Rattle.below.specs.FirstLaws.{scan_on, scan_here, scan_end, some_bad, none_bad}
use Rattle.scans.proofs.lowest.Goals as goal

pub returns-then-not-holds : goal.returns-then-not-holds
returns-then-not-holds g c =
    λ p f. some_bad p _ _ c.loop-i-test.true
    (sym (scan_here p _ _ c.loop-i-test.true (sym (f _ c.loop-i-test.true _ c.holds.ensures) ∙ c.if-not-holds.true)) ∙ c.loop-i.invariant p f)

pub loop-i-preserved : goal.loop-i-preserved
loop-i-preserved g c =
    λ p f. sym (scan_on p _ _ c.loop-i-test.true (sym (f _ c.loop-i-test.true _ c.holds.ensures) ∙ c.if-not-holds.false)) ∙ c.loop-i.invariant p f

pub returns : goal.returns
returns g c =
    let e : c.args.n ≡ c.loop-i.i = omega arith in
    λ p f. none_bad p _ (e ∙ (sym (scan_end p _ _ c.loop-i-test.false) ∙ c.loop-i.invariant p f))
