-- At least so many slots are spare.
-- Assumes nothing.
use Rattle.std.specs.Prelude.{Bool, true, false, List, ℕ, zero, suc, ◌*◌, ◌≤◌, ltb, length}
use Rattle.geometry.specs.Choice.{pick}
use Rattle.table.specs.Table.{node_at}
use Rattle.slots.specs.declared.AllocIndex.{AllocIndex}
use Rattle.sound.specs.View.{link_of, seen}
use Rattle.sound.specs.Sound.{SpareChain}

-- The chain from a link has at least k slots, all below n.
unfoldable pub chain_has : List ℕ → ℕ → ℕ → AllocIndex → Bool
chain_has w n zero l = true
chain_has w n (suc k) l = pick (ltb l.0 n) (chain_has w n k (node_at w l).next) false

-- What the count asks: rule 2, and n slots of at most 4,096 in the table.
pub record SpareReady (w : List ℕ) (total : ℕ) (spare : AllocIndex) (n : ℕ) : Type 0 where
  pub below : n ≤ total
  pub few : total ≤ 4096
  pub slots : total * 8 ≤ length w
  pub chain : SpareChain (seen w) n (link_of spare)
