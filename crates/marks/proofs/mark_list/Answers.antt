use mathlib.Core.Path.{refl}
use native.Mathlib.Omega.{arith}
use lib.ListN.{length-set}
use Rattle.marks.specs.Marks.{marks_to}
use Rattle.marks.specs.MarkLaws.{front_entry, marks_more}
use Rattle.marks.proofs.mark_list.Goals as goal

pub loop-x-init : goal.loop-x-init
unfolding marks_to
loop-x-init c = (refl, refl)

pub overflow_add-marks : goal.overflow_add-marks
overflow_add-marks c =
    let e = front_entry _ _ _ c.requires.1 c.loop-x-test.true in
    omega (arith, e.1, c.requires.2 c.loop-x.x-index e.0)

pub bounds-marks-start : goal.bounds-marks-start
bounds-marks-start c =
    let e = front_entry _ _ _ c.requires.1 c.loop-x-test.true in
    omega (arith, e.1, c.requires.2 c.loop-x.x-index e.0)

pub loop-x-preserved : goal.loop-x-preserved
loop-x-preserved c =
    let e = front_entry _ _ _ c.requires.1 c.loop-x-test.true in
    let l = c.loop-x.invariant in
    rw e.1 (simp length-set l.0, marks_more _ _ _ _ _ l.1)
