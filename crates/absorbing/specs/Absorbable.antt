-- What two Free siblings becoming one asks of the slot table.
-- Assumes nothing.
use Rattle.std.specs.Prelude.{◌≡◌, true, List, ℕ}
use Rattle.table.specs.Table.{node_at, HasSlot}
use Rattle.slots.specs.declared.AllocIndex.{AllocIndex}
use Rattle.pairs.specs.Pairs.{LinkHas}
use Rattle.frees.specs.Climbs.{is_free}

-- Slot a can absorb b: the table holds both, and what comes after b.
pub record Mergeable (w : List ℕ) (a b : AllocIndex) : Type 0 where
  pub taker : HasSlot w a
  pub other : HasSlot w b
  pub beyond : LinkHas w (node_at w b).next

-- Slot i can be merged with a neighbour j, if that is Free: then a absorbs b.
pub record Neighbour (w : List ℕ) (i j a b : AllocIndex) : Type 0 where
  pub own : HasSlot w i
  pub link : LinkHas w j
  pub merges : is_free w j ≡ true → Mergeable w a b

abbrev pub NextReady : List ℕ → AllocIndex → Type 0
NextReady w i = Neighbour w i (node_at w i).next i (node_at w i).next

abbrev pub PrevReady : List ℕ → AllocIndex → Type 0
PrevReady w i = Neighbour w i (node_at w i).prev (node_at w i).prev i
