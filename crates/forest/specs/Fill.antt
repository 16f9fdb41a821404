-- The tree of a represented forest fits the forest's place, so that a measure of the place is the sum over the leaves; and
-- neither a place nor a leaf is empty.
-- Assumes nothing.
use Rattle.std.specs.Prelude.{ℕ, ◌<◌, ◌≡◌, refl}
use Rattle.std.proofs.Common.{sym, ◌∙◌, ap, inl, inr, arith}
use Rattle.geometry.specs.Rectangles.{flip}
use Rattle.geometry.specs.Measures.{span, start, end, Adds}
use Rattle.geometry.proofs.MeasureLaws.{span_flip}
use Rattle.geometry.specs.declared.Orientation.{Orientation}
use Rattle.geometry.specs.declared.Orientation.TheVariants.{Vertical, Horizontal}
use Rattle.geometry.specs.declared.Rectangle.{Rectangle}
use Rattle.slots.specs.declared.NodeKind.{NodeKind}
use Rattle.slots.specs.declared.NodeKind.TheVariants.{Container, Alloc, Free, Unused}
use Rattle.sound.specs.View.{Link, none, to, Seen}
use Rattle.sound.specs.Rules.{Leaf, NotEmpty, Adjoin, join}
use Rattle.forest.specs.Pigeon.{In}
use Rattle.forest.specs.Forest.{Forest, empty, slot, slots, Shape, Rep}
use Rattle.forest.specs.Back.{by_place}
use Rattle.forest.specs.Place.{SlotAt, Then, PlaceF}
use Rattle.forest.specs.Tree.{Tree, before, tree_of, Fits, total, fits_measured}

-- The join of two that are not empty is not.
pub join_not_empty : (o : Orientation) (q s : Rectangle) → Adjoin o q s → NotEmpty q → NotEmpty s → NotEmpty (join q s)
join_not_empty Vertical q s h x y = (omega arith, omega arith)
join_not_empty Horizontal q s h x y = (omega arith, omega arith)

-- A slot's place is not, where its children's is not.
slot_not_empty : (k : NodeKind) (mine q : Rectangle) (P : Rectangle → Type 0) → (P q → NotEmpty q) → SlotAt k mine P q → NotEmpty q
slot_not_empty Container mine q P f h = f h
slot_not_empty Alloc mine q P f h = rw h.1 h.0
slot_not_empty Free mine q P f h = rw h.1 h.0
slot_not_empty Unused mine q P f h = absurd h

-- A leaf's own rectangle is not.
no_leaf : Leaf Container → ⊥
no_leaf (inl e) = let z : ◌≡◌ {A = ℕ} 0 1 = cc in omega arith
no_leaf (inr e) = let z : ◌≡◌ {A = ℕ} 0 1 = cc in omega arith

slot_leaf : (k : NodeKind) (mine q : Rectangle) (P : Rectangle → Type 0) → Leaf k → SlotAt k mine P q → NotEmpty mine
slot_leaf Container mine q P l h = absurd (no_leaf l)
slot_leaf Alloc mine q P l h = h.0
slot_leaf Free mine q P l h = h.0
slot_leaf Unused mine q P l h = absurd h

module _ (get : ℕ → Seen) where
  -- No place is empty.
  pub place_not_empty : (F : Forest) (r : Rectangle) → PlaceF get F r → NotEmpty r
  place_not_empty empty r h = absurd h
  place_not_empty (slot i C S) r h =
      go S h.2 (place_not_empty S)
      (slot_not_empty (get i).kind (get i).rect h.0 (PlaceF get C) (place_not_empty C h.0) h.1)
    where
      go : (T : Forest) → Then T (get i).orientation h.0 (PlaceF get T) r → ((s : Rectangle) → PlaceF get T s → NotEmpty s)
          → NotEmpty h.0 → NotEmpty r
      go empty e rec x = rw e x
      go (slot j B U) e rec x = rw e.3 (join_not_empty (get i).orientation h.0 e.0 e.2 x (rec e.0 e.1))

-- A rectangle by an orientation.
pub as_span : (o : Orientation) (r : Rectangle) → r ≡ span o (start o r) (end o r) (start (flip o) r) (end (flip o) r)
as_span Vertical r = refl
as_span Horizontal r = refl

-- Two rectangles are one where their corners are the same.
abbrev SameCorners : Rectangle → Rectangle → Type 0
SameCorners q r = (q.x0 ≡ r.x0) × (q.y0 ≡ r.y0) × (q.x1 ≡ r.x1) × (q.y1 ≡ r.y1)

same_corners : (q r : Rectangle) → SameCorners q r → q ≡ r
same_corners q r h = rw (← h.0, ← h.1, ← h.2, ← h.3) refl

corners_same : {q r : Rectangle} → q ≡ r → SameCorners q r
corners_same e = rw e (refl, refl, refl, refl)

-- Where a rectangle is the join of two that adjoin, they are its parts.
join_parts : (o : Orientation) (q s : Rectangle) (a b c d : ℕ) → Adjoin o q s → span o a b c d ≡ join q s
    → (m : ℕ) × (q ≡ span o a m c d) × (s ≡ span o m b c d)
join_parts Vertical q s a b c d h e =
    let k = corners_same e in
    (q.y1, same_corners q _ (omega arith, omega arith, omega arith, refl), same_corners s _ (omega arith, omega arith, omega arith, omega arith))
join_parts Horizontal q s a b c d h e =
    let k = corners_same e in
    (q.x1, same_corners q _ (omega arith, omega arith, refl, omega arith), same_corners s _ (omega arith, omega arith, omega arith, omega arith))

-- Along an orientation, one that is not empty ends after it starts.
span_runs : (o : Orientation) (a b c d : ℕ) → NotEmpty (span o a b c d) → a < b
span_runs Vertical a b c d h = h.1
span_runs Horizontal a b c d h = h.0

module _ (get : ℕ → Seen) (n : ℕ) where
  -- One slot that goes from a to m, before a chain that goes on from m.
  slot_fits : (k : NodeKind) (i : ℕ) (r : Rectangle) (C : Forest) (t : Tree) (o : Orientation) (a m b c d : ℕ)
      → (PlaceF get C (span (flip o) c d a m) → Fits (flip o) c d a m (tree_of get C)) → SlotAt k r (PlaceF get C) (span o a m c d)
      → a < m → Fits o m b c d t → Fits o a b c d (before k i r (tree_of get C) t)
  slot_fits Container i r C t o a m b c d rec h l f = (m, l, rec (rw (span_flip o a m c d) h), f)
  slot_fits Alloc i r C t o a m b c d rec h l f = (m, l, sym h.1, f)
  slot_fits Free i r C t o a m b c d rec h l f = (m, l, sym h.1, f)
  slot_fits Unused i r C t o a m b c d rec h l f = absurd h

  -- The tree of a represented forest fits the forest's place.
  pub place_fits : (p v : Link) (o : Orientation) (F : Forest) → Rep get n p v o F → (a b c d : ℕ)
      → PlaceF get F (span o a b c d) → Fits o a b c d (tree_of get F)
  place_fits p v o empty r a b c d h = absurd h
  place_fits p v o (slot i C S) r a b c d h =
      let x = after S (rw r.0.orientation at h.2) (place_fits p (to i) o S r.2) in
      let q = span o a x.0 c d in
      let me : SlotAt (get i).kind (get i).rect (PlaceF get C) q = rw (← x.1) h.1 in
      let some = slot_not_empty (get i).kind (get i).rect q (PlaceF get C) (place_not_empty get C q) me in
      slot_fits (get i).kind i (get i).rect C (tree_of get S) o a x.0 b c d
      (place_fits (to i) none (flip o) C r.1 c d a x.0) me (span_runs o a x.0 c d some) x.2
    where
      after : (T : Forest) → Then T o h.0 (PlaceF get T) (span o a b c d)
          → ((a b c d : ℕ) → PlaceF get T (span o a b c d) → Fits o a b c d (tree_of get T))
          → (m : ℕ) × (h.0 ≡ span o a m c d) × Fits o m b c d (tree_of get T)
      after empty e rec = (b, sym e, refl)
      after (slot j B U) e rec =
          let w = join_parts o h.0 e.0 a b c d e.2 e.3 in
          (w.0, w.1, rec w.0 b c d (rw w.2 at e.1))

  -- So a measure that adds up is, of the place, the sum over the leaves.
  pub place_measured : (μ : Rectangle → ℕ) → Adds μ → (p v : Link) (o : Orientation) (F : Forest) → Rep get n p v o F
      → (r : Rectangle) → PlaceF get F r → total μ (tree_of get F) ≡ μ r
  place_measured μ adds p v o F R r h =
      let e = as_span o r in
      fits_measured μ adds (tree_of get F) o _ _ _ _ (place_fits p v o F R _ _ _ _ (rw e at h)) ∙ ap μ (sym e)

  -- What hangs below a slot has a place.
  pub below_placed : (k : NodeKind) (C : Forest) (mine q : Rectangle) (i : ℕ) → Shape k C → In i (slots C) → SlotAt k mine (PlaceF get C) q → PlaceF get C q
  below_placed Container C mine q i sh m h = h
  below_placed Alloc empty mine q i sh m h = absurd m
  below_placed Alloc (slot j B T) mine q i sh m h = absurd sh
  below_placed Free empty mine q i sh m h = absurd m
  below_placed Free (slot j B T) mine q i sh m h = absurd sh
  below_placed Unused C mine q i sh m h = absurd h

  -- So has what comes after it.
  pub after_placed : (T : Forest) (o : Orientation) (q r : Rectangle) (i : ℕ) → In i (slots T) → Then T o q (PlaceF get T) r
      → (s : Rectangle) × PlaceF get T s
  after_placed empty o q r i m h = absurd m
  after_placed (slot j B U) o q r i m h = (h.0, h.1)

  -- No leaf is empty.
  pub leaf_not_empty : (p v : Link) (o : Orientation) (F : Forest) → Rep get n p v o F → (r : Rectangle) → PlaceF get F r
      → (i : ℕ) → In i (slots F) → Leaf (get i).kind → NotEmpty (get i).rect
  leaf_not_empty p v o empty R r h i m l = absurd m
  leaf_not_empty p v o (slot j C S) R r h i m l =
      let here : i ≡ j → NotEmpty (get i).rect = λ e. slot_leaf (get i).kind (get i).rect h.0 (PlaceF get C) l (rw e h.1) in
      let placed : In i (slots C) → PlaceF get C h.0 = λ c. below_placed (get j).kind C (get j).rect h.0 i R.0.shape c h.1 in
      let rest : In i (slots S) → (q : Rectangle) × PlaceF get S q = λ a. after_placed S (get j).orientation h.0 r i a h.2 in
      by_place {G = NotEmpty (get i).rect} i j C S here
      (λ c. leaf_not_empty (to j) none (flip o) C R.1 h.0 (placed c) i c l)
      (λ a. leaf_not_empty p (to j) o S R.2 (rest a).0 (rest a).1 i a l) m
