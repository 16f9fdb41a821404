use native.Mathlib.Omega.{arith}
use Rattle.geometry.specs.declared.Bucket.TheVariants.{Small, Medium, Large}
use Rattle.marks.specs.Marks.{marks_from}
use Rattle.marks.proofs.mark_lists.Goals as goal

pub mark_list-requires : goal.mark_list-requires
mark_list-requires c = let p = c.requires in (p.1, p.0.within Small, p.0.below Small)

pub mark_list-requires-2 : goal.mark_list-requires-2
mark_list-requires-2 c = let p = c.requires in (omega (arith, p.1, c.mark_list.auto.marks), p.0.within Medium, p.0.below Medium)

pub mark_list-requires-3 : goal.mark_list-requires-3
mark_list-requires-3 c = let p = c.requires in (omega (arith, p.1, c.mark_list-2.auto.marks, c.mark_list.auto.marks), p.0.within Large, p.0.below Large)

pub returns : goal.returns
unfolding marks_from
returns c = rw (← c.mark_list.ensures, ← c.mark_list-2.ensures, ← c.mark_list-3.ensures)
