use Rattle.below.specs.Below.{first_bad}
use Rattle.links.specs.Links.{links_at}
use mathlib.Core.Path.{◌≡◌, sym, ◌∙◌}
use Rattle.judged.specs.JudgeLaws.{walk_decides, loose_found, judge_walked}
use borrow.Author.Rules.{rules}
use Rattle.walked.proofs.audit_marked.Goals as goal

pub returns-then-not-is_whole : goal.returns-then-not-is_whole
returns-then-not-is_whole c =
    let p = c.requires in
    let l : c.lowest-astray.result ≡ first_bad (links_at c.args.words.now c.args.firsts.now c.args.n c.args.root.0) c.args.n = search rules in
    rw c.unwrap_or.ensures
    (loose_found _ _ _ _ _ _ p.0 (walk_decides p.0 p.1 c.node_at-top.ensures c.place_of_chain-p.ensures) (sym c.is_whole.ensures ∙ c.if-not-is_whole.true) l)

pub all_hold-requires : goal.all_hold-requires
all_hold-requires c = (c.requires.0, judge_walked _ _ _ _ _ c.args.setup c.requires.0 (walk_decides c.requires.0 c.requires.1 c.node_at-top.ensures c.place_of_chain-p.ensures) (sym c.is_whole.ensures ∙ c.if-not-is_whole.false) c.is_filled-filled.ensures)

pub audit_linked-requires : goal.audit_linked-requires
audit_linked-requires c = (c.requires.0, judge_walked _ _ _ _ _ c.args.setup c.requires.0 (walk_decides c.requires.0 c.requires.1 c.node_at-top.ensures c.place_of_chain-p.ensures) (sym c.is_whole.ensures ∙ c.if-not-is_whole.false) c.is_filled-filled.ensures)
