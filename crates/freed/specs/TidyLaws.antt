-- Rule 4 makes the tree of a table tidy.
-- Assumes nothing.
use Rattle.std.specs.Prelude.{ℕ, ◌≡◌, refl, true}
use Rattle.std.proofs.lemmas.Bool.{false≢true}
use Rattle.geometry.specs.Rectangles.{flip}
use Rattle.geometry.specs.declared.Orientation.{Orientation}
use Rattle.geometry.specs.declared.Rectangle.{Rectangle}
use Rattle.slots.specs.declared.NodeKind.{NodeKind}
use Rattle.slots.specs.declared.NodeKind.TheVariants.{Container, Alloc, Free, Unused}
use Rattle.sound.specs.View.{Link, none, to, Seen, in_use}
use Rattle.sound.specs.Sound.{Merged}
use Rattle.forest.specs.Forest.{Forest, empty, slot, Rep, shape_live}
use Rattle.forest.specs.Tree.{Tree, before, tree_of}
use Rattle.freed.specs.Folds.{NotFree, Some, Kids, Tidy}

-- One slot in use, before a chain and over its children.
some_before : (k : NodeKind) (i : ℕ) (r : Rectangle) (c t : Tree) → in_use k ≡ true → Some (before k i r c t)
some_before Container i r c t u = tt
some_before Alloc i r c t u = tt
some_before Free i r c t u = tt
some_before Unused i r c t u = absurd (false≢true u)

not_free_before : (k : NodeKind) (i : ℕ) (r : Rectangle) (c t : Tree) → in_use k ≡ true → (k ≡ Free → ⊥) → NotFree (before k i r c t)
not_free_before Container i r c t u h = tt
not_free_before Alloc i r c t u h = tt
not_free_before Free i r c t u h = h refl
not_free_before Unused i r c t u h = absurd (false≢true u)

kids_before : (k : NodeKind) (i : ℕ) (r : Rectangle) (c t : Tree) → in_use k ≡ true → (k ≡ Free → Some t) → Kids (before k i r c t)
kids_before Container i r c t u h = tt
kids_before Alloc i r c t u h = tt
kids_before Free i r c t u h = h refl
kids_before Unused i r c t u h = absurd (false≢true u)

tidy_before : (k : NodeKind) (i : ℕ) (r : Rectangle) (c t : Tree) → (k ≡ Container → Kids c) → (k ≡ Free → NotFree t) → Tidy c → Tidy t
    → Tidy (before k i r c t)
tidy_before Container i r c t a b x y = (a refl, x, y)
tidy_before Alloc i r c t a b x y = y
tidy_before Free i r c t a b x y = (b refl, y)
tidy_before Unused i r c t a b x y = y

module _ (get : ℕ → Seen) (n : ℕ) (M : Merged get n) where
  -- The chain after a slot, and its children.
  after_tidy : (p v : Link) (o : Orientation) (a : ℕ) (C S : Forest) → Rep get n p v o (slot a C S) → (get a).kind ≡ Free → NotFree (tree_of get S)
  after_tidy p v o a C empty r k = tt
  after_tidy p v o a C (slot b B U) r k =
      not_free_before (get b).kind b (get b).rect (tree_of get B) (tree_of get U) (shape_live (get b).kind B r.2.0.shape)
      (M.apart a b (r.0.below, shape_live (get a).kind C r.0.shape) r.0.next k)

  below_tidy : (p v : Link) (o : Orientation) (a : ℕ) (C S : Forest) → Rep get n p v o (slot a C S) → (get a).kind ≡ Container → Kids (tree_of get C)
  below_tidy p v o a empty S r k = absurd (rw k at r.0.shape)
  below_tidy p v o a (slot b B U) S r k =
      kids_before (get b).kind b (get b).rect (tree_of get B) (tree_of get U) (shape_live (get b).kind B r.1.0.shape) (rest U r.1)
    where
      rest : (U : Forest) → Rep get n (to a) none (flip o) (slot b B U) → (get b).kind ≡ Free → Some (tree_of get U)
      rest empty q f = absurd (M.sibling b a (q.0.below, shape_live (get b).kind B q.0.shape) f q.0.parent q.0.next q.0.prev)
      rest (slot d D W) q f = some_before (get d).kind d (get d).rect (tree_of get D) (tree_of get W) (shape_live (get d).kind D q.2.0.shape)

  pub tree_tidy : (p v : Link) (o : Orientation) (F : Forest) → Rep get n p v o F → Tidy (tree_of get F)
  tree_tidy p v o empty r = tt
  tree_tidy p v o (slot a C S) r =
      tidy_before (get a).kind a (get a).rect (tree_of get C) (tree_of get S) (below_tidy p v o a C S r) (after_tidy p v o a C S r)
      (tree_tidy (to a) none (flip o) C r.1) (tree_tidy p (to a) o S r.2)
