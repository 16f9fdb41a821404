use Rattle.geometry.specs.declared.Bucket.TheVariants.{Small, Medium, Large}
use mathlib.Core.Path.{◌∙◌}
use Rattle.std.proofs.lemmas.Result.{err_from_is_err_and}
use Rattle.counted.specs.Numbers.{entries_found}
use Rattle.judged.specs.VerdictLaws.{rule_some}
use Rattle.counted.specs.CountLaws.{entry_first, entry_passed}
use Rattle.counted.proofs.entries_found.Goals as goal

pub entry_found-requires : goal.entry_found-requires
entry_found-requires c = let p = c.requires in (p.within Small, p.small)

pub entry_found-requires-2 : goal.entry_found-requires-2
entry_found-requires-2 c = let p = c.requires in (p.within Medium, p.medium)

pub entry_found-requires-3 : goal.entry_found-requires-3
entry_found-requires-3 c = let p = c.requires in (p.within Large, p.large)

pub returns-in_err-entry_found : goal.returns-in_err-entry_found
unfolding entries_found
returns-in_err-entry_found c =
    let p = err_from_is_err_and c.from_residual.result c.from_residual.ensures.1 in
    rw (p.1, p.2) (entry_first _ _ _ c.in_err-entry_found.ensures (rule_some _))

pub returns-in_err-entry_found-2 : goal.returns-in_err-entry_found-2
unfolding entries_found
returns-in_err-entry_found-2 c =
    let p = err_from_is_err_and c.from_residual-in_err-entry_found-2.result c.from_residual-in_err-entry_found-2.ensures.1 in
    rw (p.1, p.2) (entry_first _ _ _ c.in_err-entry_found-2.ensures (rule_some _) ∙ entry_passed _ _ _ c.in_ok-entry_found.ensures)

pub returns : goal.returns
unfolding entries_found
returns c =
    c.entry_found-3.ensures
    ∙ entry_passed _ _ _ c.in_ok-entry_found-2.ensures
    ∙ entry_passed _ _ _ c.in_ok-entry_found.ensures
