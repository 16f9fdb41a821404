use mathlib.Core.Path.{◌≡◌}
use borrow.Author.Rules.{rules}
use Rattle.std.proofs.Common.{Some, None}
use Rattle.below.specs.Below.{first_bad}
use Rattle.links.specs.Links.{merged_at}
use Rattle.marks.specs.Marks.{listed_at}
use Rattle.scans.specs.Tests.{filled_at, not_last_at}
use Rattle.judged.specs.JudgeLaws.{split_found, unfilled_found, unlisted_found, sound_found, last_found}
use Rattle.judged.proofs.audit_linked.Goals as goal

pub returns-in-Some : goal.returns-in-Some
returns-in-Some c =
    let p = c.requires in
    let a : Some c.in-Some.place ≡ first_bad (merged_at c.args.words.now c.args.n) c.args.n = search rules in
    split_found _ _ _ _ _ _ p.0 p.1 a

pub returns-then-not-filled : goal.returns-then-not-filled
returns-then-not-filled c =
    let p = c.requires in
    let a : None ≡ first_bad (merged_at c.args.words.now c.args.n) c.args.n = search rules in
    let b : c.lowest-empty.result ≡ first_bad (filled_at c.args.words.now) c.args.n = search rules in
    rw c.unwrap_or.ensures (unfilled_found _ _ _ _ _ _ p.0 p.1 a c.if-not-filled.true b)

pub returns-in-Some-lowest : goal.returns-in-Some-lowest
returns-in-Some-lowest c =
    let p = c.requires in
    let a : None ≡ first_bad (merged_at c.args.words.now c.args.n) c.args.n = search rules in
    let l : Some c.in-Some-lowest.place ≡ first_bad (listed_at c.args.words.now c.args.marks.now c.args.setup) c.args.n = search rules in
    unlisted_found _ _ _ _ _ _ p.0 p.1 a c.if-not-filled.false l

pub returns-then-stored : goal.returns-then-stored
returns-then-stored c =
    let p = c.requires in
    let a : None ≡ first_bad (merged_at c.args.words.now c.args.n) c.args.n = search rules in
    let l : None ≡ first_bad (listed_at c.args.words.now c.args.marks.now c.args.setup) c.args.n = search rules in
    sound_found _ _ _ _ _ _ p.0 p.1 a c.if-not-filled.false l c.if-stored.true

pub returns : goal.returns
returns c =
    let p = c.requires in
    let a : None ≡ first_bad (merged_at c.args.words.now c.args.n) c.args.n = search rules in
    let l : None ≡ first_bad (listed_at c.args.words.now c.args.marks.now c.args.setup) c.args.n = search rules in
    let d : c.lowest-last.result ≡ first_bad (not_last_at c.args.words.now c.args.n) c.args.n = search rules in
    rw c.unwrap_or-2.ensures (last_found _ _ _ _ _ _ p.0 p.1 a c.if-not-filled.false l c.if-stored.false d)
