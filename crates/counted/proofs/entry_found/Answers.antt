use Rattle.below.specs.Below.{entry_below}
use Rattle.below.specs.FirstLaws.{bad_some}
use native.Mathlib.Omega.{arith}
use Rattle.judged.specs.Verdicts.{verdict}
use Rattle.counted.specs.CountLaws.{entry_all, entry_bad, entry_none}
use Rattle.counted.proofs.entry_found.Goals as goal

pub returns-then-all_below : goal.returns-then-all_below
returns-then-all_below c = entry_all _ _ (verdict 0 0) (c.all_below.ensures c.if-all_below.true)

pub overflow_cast-result : goal.overflow_cast-result
overflow_cast-result c =
    let q = bad_some (entry_below c.args.list.now c.args.n) c.args.len c.in-Some.ensures in
    omega (arith, q.0, c.requires.1)

pub returns-in-Some : goal.returns-in-Some
returns-in-Some c = entry_bad _ _ c.in-Some.ensures

pub returns-in-None : goal.returns-in-None
returns-in-None c = entry_none _ _ c.in-None.ensures
