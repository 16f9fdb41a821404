-- `spares::chain_has` meets its contract: each turn answers as the walk with one slot fewer to pass.
-- Assumes nothing.
use mathlib.Core.Path.{◌≡◌, ◌∙◌}
use Prim.Native.Nat.{◌+◌, ◌-◌}
use native.Mathlib.Omega.{arith}
use Rattle.spares.specs.ChainLaws.{walk_ends, walk_goes, walk_all}
use Rattle.spares.proofs.chain_has.Goals as goal

pub returns-then-at-n : goal.returns-then-at-n
returns-then-at-n c = walk_ends _ _ _ _ (omega arith) c.if-at-n.true ∙ c.loop.invariant

pub loop-preserved : goal.loop-preserved
loop-preserved c =
    let e : c.args.k - (c.loop.counter + 1) ≡ c.args.k - c.loop.counter - 1 = omega arith in
    rw (c.node_at.ensures, e) (walk_goes _ _ _ _ (omega arith) c.if-at-n.false ∙ c.loop.invariant)

pub returns : goal.returns
returns c = walk_all _ _ _ _ (omega arith) ∙ c.loop.invariant
