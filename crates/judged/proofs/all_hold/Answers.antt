use mathlib.Core.Path.{◌≡◌}
use borrow.Author.Rules.{rules}
use Rattle.below.specs.Below.{first_bad}
use Rattle.scans.specs.Tests.{settled_at}
use Rattle.judged.specs.JudgeLaws.{holds_found}
use Rattle.judged.proofs.all_hold.Goals as goal

pub returns-then-stored : goal.returns-then-stored
returns-then-stored c =
    let p = c.requires in
    let a : c.lowest.result ≡ first_bad (settled_at c.args.words.now c.args.marks.now c.args.n c.args.setup) c.args.n = search rules in
    λ e. holds_found _ _ _ _ _ _ p.0 p.1 c.if-stored.true.0 c.if-stored.true.1 (search rules)
