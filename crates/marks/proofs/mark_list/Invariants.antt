use mathlib.Core.Path.{◌≡◌}
use lib.ListN.{length}
use Rattle.marks.specs.Marks.{marks_to}
use Rattle.marks.proofs.mark_list.Given as goal

abbrev pub invariant-loop-x : goal.invariant-loop-x
invariant-loop-x l = (length l.marks ≡ length l.initial.marks) × (l.marks ≡ marks_to l.start l.list l.x-index l.initial.marks)
