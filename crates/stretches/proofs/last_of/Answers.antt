-- `stretches::last_of` meets its contract: the last slot of the chain still to go is that of the whole chain.
-- Assumes nothing.
use mathlib.Core.Path.{◌≡◌, sym, ◌∙◌}
use native.Mathlib.Omega.{arith}
use Prim.Native.Nat.{◌-◌, ◌+◌}
use Rattle.stretches.specs.ChainLaws.{chain_on, last_here, last_on, last_out}
use Rattle.stretches.proofs.last_of.Goals as goal

pub node_at-requires : goal.node_at-requires
node_at-requires c = (chain_on _ _ _ (omega arith) c.loop-k.invariant.1 c.loop-k.invariant.2).0

pub returns-then-is_none : goal.returns-then-is_none
returns-then-is_none c = last_out _ _ _ _ _ (omega arith) c.node_at.ensures (sym c.is_none.ensures ∙ c.if-is_none.true) c.loop-k.invariant.0

pub loop-k-preserved : goal.loop-k-preserved
loop-k-preserved c =
    let less : c.args.n - (c.loop-k._k + 1) ≡ (c.args.n - c.loop-k._k) - 1 = omega arith in
    rw less (last_on _ _ _ _ _ (omega arith) c.node_at.ensures (sym c.is_none.ensures ∙ c.if-is_none.false) c.loop-k.invariant)

pub returns : goal.returns
returns c = last_here _ _ _ (omega arith) ∙ c.loop-k.invariant.0
