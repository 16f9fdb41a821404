use Rattle.steps.specs.State.{state}
use mathlib.Core.Path.{refl, sym, ◌∙◌}
use Rattle.std.proofs.lemmas.Result.{err_from_is_err_and}
use Rattle.judged.specs.VerdictLaws.{rule_some}
use Rattle.counted.specs.CountLaws.{numbers_ready, numbers_table}
use Rattle.audit.proofs.AuditLaws.{audit_numbers, audit_entries, audit_spare, audit_tree_ready, audit_judged}
use Rattle.audit.proofs.audit.Goals as goal

pub returns-then-not-numbers_hold : goal.returns-then-not-numbers_hold
returns-then-not-numbers_hold c = audit_numbers _ c.requires (sym c.numbers_hold.ensures ∙ c.if-not-numbers_hold.true)

pub entries_found-requires : goal.entries_found-requires
entries_found-requires c =
    let a = c.args in
    let s = state a.head a.words.now a.generations.now a.small.now a.medium.now a.large.now in
    numbers_ready s c.requires (sym c.numbers_hold.ensures ∙ c.if-not-numbers_hold.false)

pub returns-in_err-entries_found : goal.returns-in_err-entries_found
returns-in_err-entries_found c =
    let p = err_from_is_err_and c.from_residual.result c.from_residual.ensures.1 in
    rw (p.1, p.2) (audit_entries _ c.requires (sym c.numbers_hold.ensures ∙ c.if-not-numbers_hold.false) c.in_err-entries_found.ensures (rule_some _))

pub unused_below-unused-requires : goal.unused_below-unused-requires
unused_below-unused-requires c =
    let a = c.args in
    let s = state a.head a.words.now a.generations.now a.small.now a.medium.now a.large.now in
    (numbers_table s c.requires (sym c.numbers_hold.ensures ∙ c.if-not-numbers_hold.false)).slots

pub spare_walk-requires : goal.spare_walk-requires
spare_walk-requires c =
    let a = c.args in
    let s = state a.head a.words.now a.generations.now a.small.now a.medium.now a.large.now in
    numbers_table s c.requires (sym c.numbers_hold.ensures ∙ c.if-not-numbers_hold.false)

pub returns-then-not-spare_walk : goal.returns-then-not-spare_walk
returns-then-not-spare_walk c =
    audit_spare _ c.requires (sym c.numbers_hold.ensures ∙ c.if-not-numbers_hold.false) c.in_ok-entries_found.ensures refl
    c.unused_below-unused.ensures.0 (sym c.spare_walk.ensures ∙ c.if-not-spare_walk.true)

pub audit_tree-requires : goal.audit_tree-requires
audit_tree-requires c =
    let a = c.args in
    let s = state a.head a.words.now a.generations.now a.small.now a.medium.now a.large.now in
    audit_tree_ready s c.requires (sym c.numbers_hold.ensures ∙ c.if-not-numbers_hold.false) c.in_ok-entries_found.ensures refl
    c.unused_below-unused.ensures.0

pub returns : goal.returns
returns c =
    audit_judged _ c.requires (sym c.numbers_hold.ensures ∙ c.if-not-numbers_hold.false) c.in_ok-entries_found.ensures refl
    c.unused_below-unused.ensures.0 (sym c.spare_walk.ensures ∙ c.if-not-spare_walk.false) c.audit_tree.ensures
