-- `merged::spare_walk` meets its contract: each turn answers as the walk with one slot fewer to pass.
-- Assumes nothing.
use mathlib.Core.Path.{◌≡◌, ◌∙◌}
use Prim.Native.Nat.{◌+◌, ◌-◌}
use native.Mathlib.Omega.{arith}
use borrow.Author.Rules.{rules}
use Rattle.links.proofs.TurnLaws.{walk_on, walk_past, walk_at_live, walk_done}
use Rattle.merged.proofs.spare_walk.Goals as goal

pub returns-then-at-n : goal.returns-then-at-n
returns-then-at-n c = walk_past _ _ _ _ (omega arith) c.if-at-n.true ∙ c.loop.invariant

pub returns-then-ne : goal.returns-then-ne
returns-then-ne c = walk_at_live _ _ _ _ (omega arith) c.if-at-n.false (rw (← c.node_at-node.ensures) (search rules)) ∙ c.loop.invariant

pub loop-preserved : goal.loop-preserved
loop-preserved c =
    let e : c.args.unused - (c.loop.counter + 1) ≡ c.args.unused - c.loop.counter - 1 = omega arith in
    rw (c.node_at-node.ensures, e) (walk_on _ _ _ _ (omega arith) c.if-at-n.false (rw (← c.node_at-node.ensures) (search rules)) ∙ c.loop.invariant)

pub returns : goal.returns
returns c = c.is_none.ensures ∙ walk_done _ _ _ _ (omega arith) ∙ c.loop.invariant
