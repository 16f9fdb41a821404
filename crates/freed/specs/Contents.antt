-- A tree tells the forest, and what each slot of it holds.
-- Assumes nothing.
use Rattle.std.specs.Prelude.{ℕ, ◌≡◌}
use Rattle.std.proofs.Math.Path.{refl}
use Rattle.std.proofs.Common.{sym, ◌∙◌, ap}
use Rattle.geometry.specs.Rectangles.{flip, no_rect}
use Rattle.geometry.specs.declared.Orientation.{Orientation}
use Rattle.geometry.specs.declared.Rectangle.{Rectangle}
use Rattle.slots.specs.declared.NodeKind.{NodeKind}
use Rattle.slots.specs.declared.NodeKind.TheVariants.{Container, Alloc, Free, Unused}
use Rattle.sound.specs.View.{Link, none, to, Seen}
use Rattle.forest.specs.Pigeon.{In}
use Rattle.forest.specs.Forest.{Forest, empty, slot, slots, Shape, Here, Rep}
use Rattle.forest.specs.Back.{by_place}
use Rattle.forest.specs.Tree.{Tree, end, alloc, free, box, before, tree_of}
use Rattle.changes.specs.Stands.{cell}

-- The forest of a tree.
unfoldable pub forest_of : Tree → Forest
forest_of end = empty
forest_of (alloc i r t) = slot i empty (forest_of t)
forest_of (free i r t) = slot i empty (forest_of t)
forest_of (box i r c t) = slot i (forest_of c) (forest_of t)

-- The first slot of a chain: its kind, its rectangle, its children and the chain after it.
unfoldable pub kind_first : Tree → NodeKind
kind_first end = Unused
kind_first (alloc i r t) = Alloc
kind_first (free i r t) = Free
kind_first (box i r c t) = Container

unfoldable rect_first : Tree → Rectangle
rect_first end = no_rect
rect_first (alloc i r t) = r
rect_first (free i r t) = r
rect_first (box i r c t) = r

unfoldable below_first : Tree → Tree
below_first end = end
below_first (alloc i r t) = end
below_first (free i r t) = end
below_first (box i r c t) = c

unfoldable after_first : Tree → Tree
after_first end = end
after_first (alloc i r t) = t
after_first (free i r t) = t
after_first (box i r c t) = t

-- What they are of a slot before a chain, over children C.
module _ (get : ℕ → Seen) (i : ℕ) (r : Rectangle) (t : Tree) where
  pub kind_first_lem : (k : NodeKind) (C : Forest) → Shape k C → kind_first (before k i r (tree_of get C) t) ≡ k
  unfolding kind_first
  kind_first_lem Container C h = refl
  kind_first_lem Alloc C h = refl
  kind_first_lem Free C h = refl
  kind_first_lem Unused C h = absurd h

  rect_first_lem : (k : NodeKind) (C : Forest) → Shape k C → rect_first (before k i r (tree_of get C) t) ≡ r
  unfolding rect_first
  rect_first_lem Container C h = refl
  rect_first_lem Alloc C h = refl
  rect_first_lem Free C h = refl
  rect_first_lem Unused C h = absurd h

  after_first_lem : (k : NodeKind) (C : Forest) → Shape k C → after_first (before k i r (tree_of get C) t) ≡ t
  unfolding after_first
  after_first_lem Container C h = refl
  after_first_lem Alloc C h = refl
  after_first_lem Free C h = refl
  after_first_lem Unused C h = absurd h

  below_first_lem : (k : NodeKind) (C : Forest) → Shape k C → below_first (before k i r (tree_of get C) t) ≡ tree_of get C
  unfolding below_first
  below_first_lem Container C h = refl
  below_first_lem Alloc empty h = refl
  below_first_lem Alloc (slot a B S) h = absurd h
  below_first_lem Free empty h = refl
  below_first_lem Free (slot a B S) h = absurd h
  below_first_lem Unused C h = absurd h

  forest_first : (k : NodeKind) (C : Forest) → Shape k C → forest_of (tree_of get C) ≡ C → forest_of (before k i r (tree_of get C) t) ≡ slot i C (forest_of t)
  unfolding forest_of
  forest_first Container C h e = rw e
  forest_first Alloc empty h e = refl
  forest_first Alloc (slot a B S) h e = absurd h
  forest_first Free empty h e = refl
  forest_first Free (slot a B S) h e = absurd h
  forest_first Unused C h e = absurd h

-- A represented forest is that of its tree.
pub forest_tree : (get : ℕ → Seen) (n : ℕ) (p v : Link) (o : Orientation) (F : Forest) → Rep get n p v o F → forest_of (tree_of get F) ≡ F
unfolding forest_of
forest_tree get n p v o empty r = refl
forest_tree get n p v o (slot a C S) r =
    forest_first get a (get a).rect (tree_of get S) (get a).kind C r.0.shape (forest_tree get n (to a) none (flip o) C r.1)
    ∙ ap (slot a C) (forest_tree get n p (to a) o S r.2)

-- Contents with the same parts are the same.
same_seen : (m m' : Seen) → m'.parent ≡ m.parent → m'.next ≡ m.next → m'.prev ≡ m.prev → m'.kind ≡ m.kind → m'.orientation ≡ m.orientation
    → m'.rect ≡ m.rect → m' ≡ m
same_seen m m' a b c d e f =
    let z : cell m'.parent m'.next m'.prev m'.kind m'.orientation m'.rect ≡ cell m.parent m.next m.prev m.kind m.orientation m.rect =
    rw (a, b, c, d, e, f) refl in z

module _ (get get' : ℕ → Seen) (n n' : ℕ) where
  -- One slot that stands in both tables at the same place.
  here_same : {p v l : Link} {o : Orientation} {a : ℕ} {C : Forest} → Here n (get a) p v o a C l → Here n' (get' a) p v o a C l
      → (get' a).kind ≡ (get a).kind → (get' a).rect ≡ (get a).rect → get' a ≡ get a
  here_same {a = a} h h' k r =
      same_seen (get a) (get' a) (h'.parent ∙ sym h.parent) (h'.next ∙ sym h.next) (h'.prev ∙ sym h.prev) k (h'.orientation ∙ sym h.orientation) r

  -- Two tables that hold the same forest, and of which the trees are the same, have the same in each slot of it.
  pub same_contents : (p v : Link) (o : Orientation) (F : Forest) → Rep get n p v o F → Rep get' n' p v o F → tree_of get' F ≡ tree_of get F
      → (j : ℕ) → In j (slots F) → get' j ≡ get j
  same_contents p v o empty r r' e j m = absurd m
  same_contents p v o (slot a C S) r r' e j m =
      let s = r.0.shape in
      let s' = r'.0.shape in
      let k : (get' a).kind ≡ (get a).kind =
      sym (kind_first_lem get' a (get' a).rect (tree_of get' S) (get' a).kind C s') ∙ (ap kind_first e ∙ kind_first_lem get a (get a).rect (tree_of get S) (get a).kind C s) in
      let q : (get' a).rect ≡ (get a).rect =
      sym (rect_first_lem get' a (get' a).rect (tree_of get' S) (get' a).kind C s') ∙ (ap rect_first e ∙ rect_first_lem get a (get a).rect (tree_of get S) (get a).kind C s) in
      let c : tree_of get' C ≡ tree_of get C =
      sym (below_first_lem get' a (get' a).rect (tree_of get' S) (get' a).kind C s') ∙ (ap below_first e ∙ below_first_lem get a (get a).rect (tree_of get S) (get a).kind C s) in
      let t : tree_of get' S ≡ tree_of get S =
      sym (after_first_lem get' a (get' a).rect (tree_of get' S) (get' a).kind C s') ∙ (ap after_first e ∙ after_first_lem get a (get a).rect (tree_of get S) (get a).kind C s) in
      by_place {G = get' j ≡ get j} j a C S (λ z. rw z (here_same r.0 r'.0 k q))
      (same_contents (to a) none (flip o) C r.1 r'.1 c j) (same_contents p (to a) o S r.2 r'.2 t j) m
