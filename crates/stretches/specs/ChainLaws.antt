-- The laws by which a chain is followed: the last slot and the new parents, a link at a time.
-- Assumes nothing.
use Rattle.std.specs.Prelude.{◌≡◌, refl, true, false, List, ℕ, zero, suc, ◌-◌, ◌≤◌, ◌<◌, length}
use Rattle.std.proofs.Common.{ap, ◌∙◌, arith}
use Rattle.std.proofs.Math.Decide.{ℕ_discrete}
use Rattle.slots.specs.Slots.{slot, is_none}
use Rattle.slots.specs.declared.AllocIndex.{AllocIndex}
use Rattle.slots.specs.declared.Node.{Node}
use Rattle.table.specs.Table.{node_at, HasSlot}
use Rattle.stores.specs.Stores.{stored, to_parent}
use Rattle.stores.proofs.StoreLaws.{length_stored, has_stored, node_at_stored_same, node_at_stored_other}
use Rattle.grows.specs.Grows.{last_from, reparented}
use Rattle.stretches.specs.Chains.{ChainHas}

-- Where something is left, there is one less.
one_less : (k : ℕ) → 0 < k → k ≡ suc (k - 1)
one_less k h = omega (arith, h)

-- The chain's slot, and the chain from its next.
chain_next : (k : ℕ) (w : List ℕ) (i : AllocIndex) → is_none i ≡ false → ChainHas (suc k) w i → HasSlot w i × ChainHas k w (node_at w i).next
unfolding ChainHas
chain_next k w i n c = c n

pub chain_on : (k : ℕ) (w : List ℕ) (i : AllocIndex) → 0 < k → is_none i ≡ false → ChainHas k w i → HasSlot w i × ChainHas (k - 1) w (node_at w i).next
chain_on k w i h n c = chain_next (k - 1) w i n (again (one_less k h) c)
  where
    again : {a b : ℕ} → a ≡ b → ChainHas a w i → ChainHas b w i
    again e x = rw (← e) x

-- A new parent changes no link onwards.
next_parent : (w : List ℕ) (j p i : AllocIndex) → HasSlot w i → (node_at (stored w j (to_parent p)) i).next ≡ (node_at w i).next
next_parent w j p i h = go (ℕ_discrete i.0 j.0)
  where
    go : Dec (i.0 ≡ j.0) → (node_at (stored w j (to_parent p)) i).next ≡ (node_at w i).next
    go (yes e) = same (ap (λ (n : ℕ). slot n) e)
      where
        same : i ≡ j → (node_at (stored w j (to_parent p)) i).next ≡ (node_at w i).next
        same q = rw (← q) (ap (λ (y : Node). y.next) (node_at_stored_same w i (to_parent p) h))
    go (no n) = ap (λ (y : Node). y.next) (node_at_stored_other w j i (to_parent p) n)

-- so the chain stays in the table.
pub chain_parent : (k : ℕ) (w : List ℕ) (j p i : AllocIndex) → ChainHas k w i → ChainHas k (stored w j (to_parent p)) i
unfolding ChainHas
chain_parent zero w j p i c = c
chain_parent (suc k) w j p i c = λ n.
    let z = c n in
    (has_stored w j i (to_parent p) z.0, rw (next_parent w j p i z.0) (chain_parent k w j p (node_at w i).next z.1))

-- THE LAST SLOT: none are left to follow, this is the last, or it is the last from the next.
pub last_here : (k : ℕ) (w : List ℕ) (i : AllocIndex) → k ≤ 0 → i ≡ last_from k w i
unfolding last_from
last_here zero w i h = refl
last_here (suc k) w i h = absurd (omega (arith, h))

last_ends_suc : (k : ℕ) (w : List ℕ) (i : AllocIndex) → is_none (node_at w i).next ≡ true → i ≡ last_from (suc k) w i
unfolding last_from
last_ends_suc k w i e = rw e

last_goes_suc : (k : ℕ) (w : List ℕ) (i : AllocIndex) → is_none (node_at w i).next ≡ false → last_from k w (node_at w i).next ≡ last_from (suc k) w i
unfolding last_from
last_goes_suc k w i e = rw e

pub last_ends : (k : ℕ) (w : List ℕ) (i : AllocIndex) → 0 < k → is_none (node_at w i).next ≡ true → i ≡ last_from k w i
last_ends k w i h e = again (one_less k h) (last_ends_suc (k - 1) w i e)
  where
    again : {a b : ℕ} → a ≡ b → i ≡ last_from b w i → i ≡ last_from a w i
    again q x = rw q x

pub last_goes : (k : ℕ) (w : List ℕ) (i : AllocIndex) → 0 < k → is_none (node_at w i).next ≡ false → last_from (k - 1) w (node_at w i).next ≡ last_from k w i
last_goes k w i h e = again (one_less k h) (last_goes_suc (k - 1) w i e)
  where
    again : {x : AllocIndex} {a b : ℕ} → a ≡ b → x ≡ last_from b w i → x ≡ last_from a w i
    again q x = rw q x

-- A turn of the walk to the last slot, which is m.
pub last_on : (k : ℕ) (w : List ℕ) (i : AllocIndex) (v : Node) (m : AllocIndex) → 0 < k → v ≡ node_at w i → is_none v.next ≡ false
    → (last_from k w i ≡ m) × (is_none i ≡ false) × ChainHas k w i → (last_from (k - 1) w v.next ≡ m) × (is_none v.next ≡ false) × ChainHas (k - 1) w v.next
last_on k w i v m h e n t =
    (ap (λ (x : Node). last_from (k - 1) w x.next) e ∙ last_goes k w i h (rw e at n) ∙ t.0, n, rw e (chain_on k w i h t.1 t.2).1)

pub last_out : (k : ℕ) (w : List ℕ) (i : AllocIndex) (v : Node) (m : AllocIndex) → 0 < k → v ≡ node_at w i → is_none v.next ≡ true → last_from k w i ≡ m → i ≡ m
last_out k w i v m h e n t = last_ends k w i h (rw e at n) ∙ t

-- NEW PARENTS, in the same way.
pub parents_here : (k : ℕ) (w : List ℕ) (p i : AllocIndex) → k ≤ 0 → w ≡ reparented k w p i
unfolding reparented
parents_here zero w p i h = refl
parents_here (suc k) w p i h = absurd (omega (arith, h))

parents_goes_suc : (k : ℕ) (w : List ℕ) (p i : AllocIndex) → is_none i ≡ false → reparented k (stored w i (to_parent p)) p (node_at w i).next ≡ reparented (suc k) w p i
unfolding reparented
parents_goes_suc k w p i e = rw e

pub parents_end : (k : ℕ) (w : List ℕ) (p i : AllocIndex) → is_none i ≡ true → w ≡ reparented k w p i
unfolding reparented
parents_end zero w p i e = refl
parents_end (suc k) w p i e = rw e

pub parents_go : (k : ℕ) (w : List ℕ) (p i : AllocIndex) → 0 < k → is_none i ≡ false
    → reparented (k - 1) (stored w i (to_parent p)) p (node_at w i).next ≡ reparented k w p i
parents_go k w p i h e = again (one_less k h) (parents_goes_suc (k - 1) w p i e)
  where
    again : {x : List ℕ} {a b : ℕ} → a ≡ b → x ≡ reparented b w p i → x ≡ reparented a w p i
    again q x = rw q x

-- A turn of the walk that gives new parents, by which the table becomes m.
pub parents_on : (k : ℕ) (w u : List ℕ) (p i : AllocIndex) (v : Node) (m : List ℕ) (l : ℕ) → 0 < k → is_none i ≡ false → v ≡ node_at w i → u ≡ stored w i (to_parent p)
    → (reparented k w p i ≡ m) × ChainHas k w i × (length w ≡ l) → (reparented (k - 1) u p v.next ≡ m) × ChainHas (k - 1) u v.next × (length u ≡ l)
parents_on k w u p i v m l h n e f t =
    rw (f, e)
    (parents_go k w p i h n ∙ t.0, chain_parent (k - 1) w i p (node_at w i).next (chain_on k w i h n t.1).1, length_stored w i (to_parent p) ∙ t.2)
