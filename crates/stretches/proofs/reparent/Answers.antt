-- `stretches::reparent` meets its contract: what the chain still to go makes of the table is what the whole chain makes of it.
-- Assumes nothing.
use mathlib.Core.Path.{◌≡◌, sym, ◌∙◌}
use native.Mathlib.Omega.{arith}
use Prim.Native.Nat.{◌-◌, ◌+◌}
use Rattle.stretches.specs.ChainLaws.{chain_on, parents_here, parents_end, parents_on}
use Rattle.stretches.proofs.reparent.Goals as goal

pub returns-then-is_none : goal.returns-then-is_none
returns-then-is_none c = parents_end _ _ _ _ (sym c.is_none.ensures ∙ c.if-is_none.true) ∙ c.loop-j.invariant.0

pub node_at-requires : goal.node_at-requires
node_at-requires c = (chain_on _ _ _ (omega arith) (sym c.is_none.ensures ∙ c.if-is_none.false) c.loop-j.invariant.1).0

pub set_parent-requires : goal.set_parent-requires
set_parent-requires c = (chain_on _ _ _ (omega arith) (sym c.is_none.ensures ∙ c.if-is_none.false) c.loop-j.invariant.1).0

pub loop-j-preserved : goal.loop-j-preserved
loop-j-preserved c =
    let less : c.args.n - (c.loop-j._j + 1) ≡ (c.args.n - c.loop-j._j) - 1 = omega arith in
    rw less
    (parents_on _ _ _ _ _ _ _ _ (omega arith) (sym c.is_none.ensures ∙ c.if-is_none.false) c.node_at.ensures c.set_parent.ensures c.loop-j.invariant)

pub returns : goal.returns
returns c = parents_here _ _ _ _ (omega arith) ∙ c.loop-j.invariant.0
