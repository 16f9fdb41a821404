-- What one slot adds to the sum, and that the sum over a forest's slots is the sum over its tree's leaves.
-- Assumes nothing.
use Rattle.std.specs.Prelude.{◌≡◌, Bool, true, false, ◌&&◌, ℕ, ◌+◌, ◌≤◌, ◌<◌}
use Rattle.std.proofs.Math.Path.{refl}
use Rattle.std.proofs.Common.{inl, inr}
use native.Mathlib.Omega.{arith}
use Rattle.geometry.specs.Choice.{pick}
use Rattle.geometry.specs.Rectangles.{flip}
use Rattle.geometry.specs.Measures.{within, covers}
use Rattle.geometry.proofs.MeasureLaws.{covers_one}
use Rattle.geometry.specs.declared.Orientation.{Orientation}
use Rattle.geometry.specs.declared.Rectangle.{Rectangle}
use Rattle.slots.specs.Slots.{same_kind}
use Rattle.slots.specs.declared.NodeKind.{NodeKind}
use Rattle.slots.specs.declared.NodeKind.TheVariants.{Container, Alloc, Free, Unused}
use Rattle.sound.specs.View.{Link, none, to, Seen, in_use}
use Rattle.sound.specs.Rules.{Leaf}
use Rattle.forest.specs.Forest.{Forest, empty, slot, slots, Shape, Rep}
use Rattle.forest.specs.Tree.{Tree, before, tree_of, total}
use Rattle.cover.specs.Sums.{is_leaf, alloc_measure, free_measure, leaf_measure, InRect}
use Rattle.cover.proofs.SumLaws.{sum_over, over_append}

-- An Alloc or Free slot is one of the two.
pub leaf_either : (μ : Rectangle → ℕ) (m : Seen) → leaf_measure μ m ≡ alloc_measure μ m + free_measure μ m
unfolding leaf_measure alloc_measure free_measure
leaf_either μ m = go m.kind refl
  where
    go : (k : NodeKind) → m.kind ≡ k → leaf_measure μ m ≡ alloc_measure μ m + free_measure μ m
    go Container e = rw e (omega arith)
    go Alloc e = rw e (omega arith)
    go Free e = rw e (omega arith)
    go Unused e = rw e (omega arith)

-- A slot that is not live adds nothing.
pub leaf_in_use : (μ : Rectangle → ℕ) (m : Seen) → (in_use m.kind ≡ true → ⊥) → leaf_measure μ m ≡ 0
unfolding leaf_measure
leaf_in_use μ m h = go m.kind refl
  where
    go : (k : NodeKind) → m.kind ≡ k → leaf_measure μ m ≡ 0
    go Container e = rw e refl
    go Alloc e = absurd (h (rw e refl))
    go Free e = absurd (h (rw e refl))
    go Unused e = rw e refl

-- An Alloc or Free slot is live.
pub leaf_live : {k : NodeKind} → Leaf k → in_use k ≡ true
leaf_live (inl e) = rw e refl
leaf_live (inr e) = rw e refl

-- An Alloc or Free slot adds the measure of its rectangle.
pub leaf_adds : (μ : Rectangle → ℕ) (m : Seen) → Leaf m.kind → leaf_measure μ m ≡ μ m.rect
unfolding leaf_measure
leaf_adds μ m (inl e) = rw e refl
leaf_adds μ m (inr e) = rw e refl

-- A slot that adds something is one of these.
pub adds_leaf : (μ : Rectangle → ℕ) (m : Seen) → 0 < leaf_measure μ m → Leaf m.kind
unfolding leaf_measure
adds_leaf μ m h = go m.kind refl
  where
    go : (k : NodeKind) → m.kind ≡ k → Leaf m.kind
    go Container e = absurd (let z = rw e at h in omega arith)
    go Alloc e = inl e
    go Free e = inr e
    go Unused e = absurd (let z = rw e at h in omega arith)

module _ (get : ℕ → Seen) (n : ℕ) (μ : Rectangle → ℕ) where
  -- What slot i adds.
  abbrev part : ℕ → ℕ
  part i = leaf_measure μ (get i)

  -- One slot, over its children and before a chain.
  slot_total : (k : NodeKind) (i : ℕ) (r : Rectangle) (C : Forest) (c t : Tree) → Shape k C → sum_over part (slots C) ≡ total μ c
      → pick (is_leaf k) (μ r) 0 + (sum_over part (slots C) + total μ t) ≡ total μ (before k i r c t)
  unfolding total sum_over
  slot_total Container i r C c t sh e = omega arith
  slot_total Alloc i r empty c t sh e = omega arith
  slot_total Alloc i r (slot j B S) c t sh e = absurd sh
  slot_total Free i r empty c t sh e = omega arith
  slot_total Free i r (slot j B S) c t sh e = absurd sh
  slot_total Unused i r C c t sh e = absurd sh

  -- The sum over the slots of a represented forest is that over the leaves of its tree.
  pub slots_total : (p v : Link) (o : Orientation) (F : Forest) → Rep get n p v o F → sum_over part (slots F) ≡ total μ (tree_of get F)
  unfolding total sum_over leaf_measure
  slots_total p v o empty r = refl
  slots_total p v o (slot i C S) r =
      rw (over_append part (slots C) (slots S), slots_total p (to i) o S r.2)
      (slot_total (get i).kind i (get i).rect C (tree_of get C) (tree_of get S) r.0.shape (slots_total (to i) none (flip o) C r.1))

-- A rectangle covers a point once or not at all.
pub covers_most : (x y : ℕ) (r : Rectangle) → covers x y r ≤ 1
unfolding covers
covers_most x y r = go (within r.x0 r.x1 x && within r.y0 r.y1 y)
  where
    go : (b : Bool) → pick b 1 0 ≤ 1
    go true = omega arith
    go false = omega arith

-- Where it covers it, the point lies in it.
pub covers_in : (x y : ℕ) (r : Rectangle) → 0 < covers x y r → InRect x y r
covers_in x y r h = (covers_one x y r).0 (omega (arith, covers_most x y r))
