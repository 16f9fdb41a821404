-- What a turn of each loop makes of its model, and what the tests of a slot's links allow to be fetched: for the proofs of the functions.
-- Assumes nothing.
use Rattle.std.specs.Prelude.{◌≡◌, true, false, ◌&&◌, not, List, length, ltb}
use Rattle.std.proofs.Math.Path.{refl}
use Prim.Native.Nat.{ℕ, zero, suc, ◌+◌, ◌-◌, ◌≤◌, ◌<◌}
use Rattle.std.proofs.Common.{add-one, length-set, ltb-true, lt-ltb, le-ltb}
use native.Mathlib.Omega.{arith}
use Rattle.geometry.specs.Choice.{pick_elim}
use Rattle.geometry.specs.TestLaws.{and_true_each}
use Rattle.slots.specs.Slots.{slot, is_none, same_kind}
use Rattle.table.specs.Table.{node_at}
use Rattle.slots.specs.declared.AllocIndex.{AllocIndex}
use Rattle.slots.specs.declared.Node.{Node}
use Rattle.slots.specs.declared.NodeKind.TheVariants.{Unused}
use Rattle.links.specs.Links.{Table, NamesSlot, live_at, link_at, links_sane, spare_walk, is_first, entered, firsts_to}

-- The walk with slots left to pass: at an Unused slot it goes on, at any other and at no slot it has failed.
module _ (w : List ℕ) (n : ℕ) (l : AllocIndex) where
  walk_turn : (left : ℕ) → 0 < left → spare_walk w n left l ≡ (ltb l.0 n && (same_kind (node_at w l).kind Unused && spare_walk w n (left - 1) (node_at w l).next))
  unfolding spare_walk
  walk_turn zero h = absurd (omega arith)
  walk_turn (suc k) h = let e : suc k - 1 ≡ k = omega arith in rw e

  pub walk_on : (left : ℕ) → 0 < left → l.0 < n → same_kind (node_at w l).kind Unused ≡ true → spare_walk w n (left - 1) (node_at w l).next ≡ spare_walk w n left l
  walk_on left h b u = rw (walk_turn left h, lt-ltb l.0 n b, u)

  pub walk_at_live : (left : ℕ) → 0 < left → l.0 < n → same_kind (node_at w l).kind Unused ≡ false → false ≡ spare_walk w n left l
  walk_at_live left h b u = rw (walk_turn left h, lt-ltb l.0 n b, u)

  pub walk_past : (left : ℕ) → 0 < left → n ≤ l.0 → false ≡ spare_walk w n left l
  walk_past left h b = rw (walk_turn left h, le-ltb l.0 n b)

  pub walk_done : (left : ℕ) → left ≤ 0 → is_none l ≡ spare_walk w n left l
  unfolding spare_walk
  walk_done zero h = refl
  walk_done (suc k) h = absurd (omega arith)

-- One slot more entered.
pub firsts_more : (w : List ℕ) (n k : ℕ) (fs : List ℕ) → entered w n k (firsts_to w n k fs) ≡ firsts_to w n (k + 1) fs
unfolding firsts_to
firsts_more w n k fs = rw add-one

pub length_entered : (w : List ℕ) (n i : ℕ) (fs : List ℕ) → length (entered w n i fs) ≡ length fs
unfolding entered
length_entered w n i fs = pick_elim (λ (l : List ℕ). length l ≡ length fs) (is_first w n i) _ fs (λ h. simp length-set) (λ h. refl)

-- A first child's parent is below n.
pub first_parent : (w : List ℕ) (n i : ℕ) → is_first w n i ≡ true → (node_at w (slot i)).parent.0 < n
unfolding is_first
first_parent w n i h =
    ltb-true _ _ (and_true_each (is_none (node_at w (slot i)).prev) _ (and_true_each (not (same_kind (node_at w (slot i)).kind Unused)) _ h).1).1

-- A link that passes its test names a live slot unless it is none, and so a slot of the table.
pub link_below : (w : List ℕ) (n : ℕ) (l : AllocIndex) → link_at w n l ≡ true → is_none l ≡ false → l.0 < n
unfolding link_at live_at
link_below w n l h e = ltb-true _ _ (and_true_each _ _ (rw e at h)).0

pub link_names_slot : (w : List ℕ) (n : ℕ) (l : AllocIndex) → Table w n → link_at w n l ≡ true → NamesSlot w l
link_names_slot w n l t h e = omega (arith, t.slots, link_below w n l h e)

-- What passed of each link of a slot.
pub sane_each : (w : List ℕ) (n : ℕ) (m : Node) → links_sane w n m ≡ true → (link_at w n m.parent ≡ true) × (link_at w n m.next ≡ true) × (link_at w n m.prev ≡ true)
unfolding links_sane
sane_each w n m h =
    let a = and_true_each (link_at w n m.parent) _ h in
    let b = and_true_each (link_at w n m.next) _ a.1 in
    (a.0, b.0, b.1)
