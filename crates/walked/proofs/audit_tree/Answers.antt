use native.Mathlib.Omega.{arith}
use Rattle.walked.specs.TreeLaws.{tree_prepared, tree_judged}
use Rattle.walked.proofs.audit_tree.Goals as goal

pub audit_marked-requires : goal.audit_marked-requires
audit_marked-requires c = let p = c.requires in (tree_prepared p c.enter_firsts.ensures _ (omega (arith, c.mark_lists.auto.marks)), p.count)

pub returns : goal.returns
returns c = tree_judged _ _ _ _ _ _ c.setup_of-setup.ensures.0 c.enter_firsts.ensures c.mark_lists.ensures c.audit_marked.ensures
