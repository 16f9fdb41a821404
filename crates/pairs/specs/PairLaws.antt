-- After slots were taken the others can be, and stores keep what the table holds.
-- Assumes nothing.
use Rattle.std.specs.Prelude.{◌≡◌, List, ℕ, suc}
use Rattle.stores.specs.Stores.{Store, stored}
use Rattle.slots.specs.declared.AllocIndex.{AllocIndex}
use Rattle.stores.proofs.StoreLaws.{has_stored}
use Rattle.steps.specs.Spares.{Fresh, new_node}
use Rattle.steps.specs.declared.Head.{Head}
use Rattle.pairs.specs.Pairs.{Pair, two_nodes, CanTake, LinkHas}

-- After one slot was taken, or two, the others can be.
pub can_more : (k : ℕ) (w g : List ℕ) (h : Head) (f : Fresh) → f ≡ new_node w g h → CanTake (suc k) w g h → CanTake k w f.generations f.head
can_more k w g h f e c = rw e c.1

pub can_two_more : (k : ℕ) (w g : List ℕ) (h : Head) (t : Pair) → t ≡ two_nodes w g h → CanTake (suc (suc k)) w g h → CanTake k w t.generations t.head
unfolding two_nodes
can_two_more k w g h t e c = rw e c.1.1

-- Two of more.
pub can_two : (k : ℕ) (w g : List ℕ) (h : Head) → CanTake (suc (suc k)) w g h → CanTake 2 w g h
can_two k w g h c = (c.0, (c.1.0, tt))

-- A link that names a slot of the table names one of the table after a store.
pub link_stored : (w w' : List ℕ) (i j : AllocIndex) (s : Store) → w' ≡ stored w i s → LinkHas w j → LinkHas w' j
link_stored w w' i j s e h n = rw e (has_stored w i j s (h n))
