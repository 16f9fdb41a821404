use mathlib.Core.Path.{refl, sym, ◌∙◌}
use Rattle.lent.specs.LentLaws.{lent_yes}
use Rattle.judged.specs.VerdictLaws.{rule_some}
use Rattle.audit.proofs.Exact.{checked_1, checked_2, checked_0}
use Rattle.audit.proofs.check.Goals as goal

pub returns-then-not-is_lent : goal.returns-then-not-is_lent
returns-then-not-is_lent c = checked_1 _ (sym c.is_lent.ensures ∙ c.if-not-is_lent.true)

pub audit-requires : goal.audit-requires
audit-requires c = lent_yes _ _ _ _ _ (sym c.is_lent.ensures ∙ c.if-not-is_lent.false)

pub returns-in-Err : goal.returns-in-Err
returns-in-Err c = checked_2 _ (lent_yes _ _ _ _ _ (sym c.is_lent.ensures ∙ c.if-not-is_lent.false)) c.in-Err.ensures (rule_some _)

pub returns-in-Ok : goal.returns-in-Ok
returns-in-Ok c = checked_0 _ (lent_yes _ _ _ _ _ (sym c.is_lent.ensures ∙ c.if-not-is_lent.false)) c.in-Ok.ensures refl
