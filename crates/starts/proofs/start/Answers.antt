use mathlib.Core.Path.{sym, ◌∙◌}
use Rattle.lent.specs.LentLaws.{lent_yes}
use Rattle.starts.specs.StartLaws.{start_lengths, start_invalid, start_done}
use Rattle.starts.proofs.start.Goals as goal

pub returns-then-not-is_lent : goal.returns-then-not-is_lent
returns-then-not-is_lent c = start_lengths _ _ _ (sym c.is_lent.ensures ∙ c.if-not-is_lent.true)

pub returns-then-not-is_valid : goal.returns-then-not-is_valid
returns-then-not-is_valid c = start_invalid _ _ _ (sym c.is_lent.ensures ∙ c.if-not-is_lent.false) (sym c.is_valid.ensures ∙ c.if-not-is_valid.true)

pub begin-requires : goal.begin-requires
begin-requires c = lent_yes _ _ _ _ _ (sym c.is_lent.ensures ∙ c.if-not-is_lent.false)

pub returns : goal.returns
returns c = start_done _ _ _ _ (sym c.is_lent.ensures ∙ c.if-not-is_lent.false) (sym c.is_valid.ensures ∙ c.if-not-is_valid.false) c.begin.ensures
