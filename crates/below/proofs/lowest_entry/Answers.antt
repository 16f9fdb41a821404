use lib.ListN.{take}
use borrow.Author.Rules.{rules}
use Rattle.below.specs.FirstLaws.{Found, found_bad}
use Rattle.below.proofs.lowest_entry.Goals as goal

pub returns : goal.returns
returns c =
    let h : Found (take c.args.len c.args.list.now) c.args.n c.position.result = search rules in
    found_bad _ _ _ c.requires _ h
