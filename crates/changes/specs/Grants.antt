-- Allocate's shapes. A chosen Free slot i, wherever it stands, turns Alloc where the request fills it (`rekind_keeps`); else its
-- rectangle is cut in two along its orientation, or across it, and the first part is the request alone or, with a leftover,
-- a Container over the two. Each keeps rules 3, 5 and 7.
-- Assumes nothing.
use Rattle.std.specs.Prelude.{ℕ, ◌≤◌, ◌<◌, ◌≡◌, refl, ◌⊎◌, List, [], ◌∷◌}
use Rattle.std.proofs.Common.{◌∙◌, ap, inl, inr, arith}
use Rattle.geometry.specs.Rectangles.{flip}
use Rattle.geometry.specs.declared.Orientation.{Orientation}
use Rattle.geometry.specs.declared.Rectangle.{Rectangle}
use Rattle.slots.specs.declared.NodeKind.TheVariants.{Container, Alloc, Free}
use Rattle.sound.specs.View.{none, to, Seen, Live}
use Rattle.sound.specs.Rules.{NotEmpty, Adjoin, join, PlaceChain}
use Rattle.sound.specs.Sound.{Linked}
use Rattle.forest.specs.Flips.{flip_flip}
use Rattle.forest.specs.Pigeon.{In}
use Rattle.forest.specs.Forest.{Forest, empty, slot, slots}
use Rattle.changes.specs.Joins.{Parts}
use Rattle.changes.specs.Swaps.{Elsewhere, Taken, Swapped, Kept}
use Rattle.changes.specs.Stands.{cell, Stands, leaf_stands, box_stands, leaf_was, leaf_step_keeps}
use Rattle.changes.specs.Trades.{one_swapped, two_swapped}

-- THE SHAPES, with o the chosen slot's orientation

-- Cut along o, no leftover: i turns Alloc, and a new Free slot s follows it.
pub record Along (get get' : ℕ → Seen) (i s : ℕ) (q t : Rectangle) : Type 0 where
  pub chosen : get' i ≡ cell (get i).parent (to s) (get i).prev Alloc (get i).orientation q
  pub split : get' s ≡ cell (get i).parent (get i).next (to i) Free (get i).orientation t
  pub rest : Elsewhere get get' (i ∷ s ∷ []) (get i).next (to s)
  pub cut : Parts (get i).orientation (get i).rect q t

-- Cut along o, with a leftover: i turns Container over a new Alloc a and a new Free l, and a new Free slot s follows it.
pub record AlongLeft (get get' : ℕ → Seen) (i s a l : ℕ) (q u t : Rectangle) : Type 0 where
  pub chosen : get' i ≡ cell (get i).parent (to s) (get i).prev Container (get i).orientation (get i).rect
  pub split : get' s ≡ cell (get i).parent (get i).next (to i) Free (get i).orientation t
  pub alloc : get' a ≡ cell (to i) (to l) none Alloc (flip (get i).orientation) q
  pub left : get' l ≡ cell (to i) none (to a) Free (flip (get i).orientation) u
  pub rest : Elsewhere get get' (i ∷ s ∷ a ∷ l ∷ []) (get i).next (to s)
  pub cut : Parts (get i).orientation (get i).rect (join q u) t
  pub inner : Adjoin (flip (get i).orientation) q u

-- Cut across o, no leftover: i turns Container over a new Alloc a and a new Free s.
pub record Across (get get' : ℕ → Seen) (i s a : ℕ) (q t : Rectangle) : Type 0 where
  pub chosen : get' i ≡ cell (get i).parent (get i).next (get i).prev Container (get i).orientation (get i).rect
  pub split : get' s ≡ cell (to i) none (to a) Free (flip (get i).orientation) t
  pub alloc : get' a ≡ cell (to i) (to s) none Alloc (flip (get i).orientation) q
  pub other : (j : ℕ) → (In j (i ∷ a ∷ s ∷ []) → ⊥) → get' j ≡ get j
  pub cut : Parts (flip (get i).orientation) (get i).rect q t

-- Cut across o, with a leftover: i turns Container over a new Container c and a new Free s, and c stands over a new Alloc a
-- and a new Free l. Whatever rectangle c stores, its place is theirs.
pub record AcrossLeft (get get' : ℕ → Seen) (i s c a l : ℕ) (z q u t : Rectangle) : Type 0 where
  pub chosen : get' i ≡ cell (get i).parent (get i).next (get i).prev Container (get i).orientation (get i).rect
  pub split : get' s ≡ cell (to i) none (to c) Free (flip (get i).orientation) t
  pub box : get' c ≡ cell (to i) (to s) none Container (flip (get i).orientation) z
  pub alloc : get' a ≡ cell (to c) (to l) none Alloc (get i).orientation q
  pub left : get' l ≡ cell (to c) none (to a) Free (get i).orientation u
  pub other : (j : ℕ) → (In j (i ∷ c ∷ a ∷ l ∷ s ∷ []) → ⊥) → get' j ≡ get j
  pub cut : Parts (flip (get i).orientation) (get i).rect (join q u) t
  pub inner : Adjoin (get i).orientation q u

-- WHAT THEY SWAP
module _ (get get' : ℕ → Seen) (n n' i : ℕ) (lv : Live get n i) (free : (get i).kind ≡ Free) where
  -- Along: slot i stands before a new Free slot s, and their places make up i's rectangle.
  along : (s : ℕ) (new : List ℕ) (C : Forest) (q t : Rectangle) → Taken get n n' new → Elsewhere get get' (i ∷ new) (get i).next (to s)
      → get' s ≡ cell (get i).parent (get i).next (to i) Free (get i).orientation t → s < n' → NotEmpty t → Parts (get i).orientation (get i).rect q t
      → Stands get' n' (get i).parent (get i).prev (get i).orientation i C (to s) q
      → ((j : ℕ) → In j new → (j ≡ s) ⊎ In j (slots C)) → (S : Forest) → Swapped get get' n n' (slot i empty S) (slot i C (slot s empty S))
  along s new C q t W E e b some cut st new_in S p v o r D w h =
      two_swapped get get' n n' p v o i s new W C S r D E q t
      (λ x y. leaf_was get i empty (get i).kind refl (inr free) x y ∙ cut.joined)
      (rw (← r.0.parent, ← r.0.prev, ← r.0.orientation) st)
      (rw (← r.0.parent, ← r.0.orientation, ← r.0.next)
      (leaf_stands get' n' s (get i).parent (get i).next (to i) Free (get i).orientation t e b (inr refl) some))
      (rw (← r.0.orientation) cut.adjoin) (ap (λ m. m.kind) e) new_in

  -- Across: slot i turns Container over new slots whose place is i's rectangle.
  across : (new : List ℕ) (C : Forest) → Taken get n n' new → ((j : ℕ) → (In j (i ∷ new) → ⊥) → get' j ≡ get j)
      → (get' i).rect ≡ (get i).rect → Stands get' n' (get i).parent (get i).prev (get i).orientation i C (get i).next (get i).rect
      → ((j : ℕ) → In j new → In j (slots C)) → (S : Forest) → Swapped get get' n n' (slot i empty S) (slot i C S)
  across new C W other e st new_in S p v o r D w h =
      one_swapped get get' n n' p v o i (i ∷ []) new W empty C S r D other (λ j m. m) (get i).rect
      (leaf_was get i empty (get i).kind refl (inr free))
      (rw (← r.0.parent, ← r.0.prev, ← r.0.orientation, ← r.0.next) st) (λ k. e) new_in (λ j m l. absurd m)

  below : n ≤ n' → i < n'
  below grow = omega (arith, lv.0)

  -- Cut along, no leftover.
  pub along_swapped : (s : ℕ) (q t : Rectangle) → Taken get n n' (s ∷ []) → NotEmpty q → NotEmpty t → Along get get' i s q t
      → (S : Forest) → Swapped get get' n n' (slot i empty S) (slot i empty (slot s empty S))
  along_swapped s q t W some-q some-t op =
      along s (s ∷ []) empty q t W op.rest op.split (W.below s (inl refl)) some-t op.cut
      (leaf_stands get' n' i (get i).parent (to s) (get i).prev Alloc (get i).orientation q op.chosen (below W.grow) (inl refl) some-q) (λ j m. m)

  -- Cut along, with a leftover.
  pub along_left_swapped : (s a l : ℕ) (q u t : Rectangle) → Taken get n n' (s ∷ a ∷ l ∷ []) → NotEmpty q → NotEmpty u → NotEmpty t
      → AlongLeft get get' i s a l q u t
      → (S : Forest) → Swapped get get' n n' (slot i empty S) (slot i (slot a empty (slot l empty empty)) (slot s empty S))
  along_left_swapped s a l q u t W some-q some-u some-t op =
      along s (s ∷ a ∷ l ∷ []) (slot a empty (slot l empty empty)) (join q u) t W op.rest op.split (W.below s (inl refl)) some-t op.cut
      (box_stands get' n' i a l (get i).parent (to s) (get i).prev (get i).orientation (get i).rect empty empty q u op.chosen (below W.grow)
      (leaf_stands get' n' a (to i) (to l) none Alloc (flip (get i).orientation) q op.alloc (W.below a (inr (inl refl))) (inl refl) some-q)
      (leaf_stands get' n' l (to i) none (to a) Free (flip (get i).orientation) u op.left (W.below l (inr (inr (inl refl)))) (inr refl) some-u)
      op.inner) (λ j m. m)

  -- Cut across, no leftover.
  pub across_swapped : (s a : ℕ) (q t : Rectangle) → Taken get n n' (a ∷ s ∷ []) → NotEmpty q → NotEmpty t → Across get get' i s a q t
      → (S : Forest) → Swapped get get' n n' (slot i empty S) (slot i (slot a empty (slot s empty empty)) S)
  across_swapped s a q t W some-q some-t op =
      across (a ∷ s ∷ []) (slot a empty (slot s empty empty)) W op.other (ap (λ m. m.rect) op.chosen)
      (rw op.cut.joined
      (box_stands get' n' i a s (get i).parent (get i).next (get i).prev (get i).orientation (get i).rect empty empty q t op.chosen (below W.grow)
      (leaf_stands get' n' a (to i) (to s) none Alloc (flip (get i).orientation) q op.alloc (W.below a (inl refl)) (inl refl) some-q)
      (leaf_stands get' n' s (to i) none (to a) Free (flip (get i).orientation) t op.split (W.below s (inr (inl refl))) (inr refl) some-t)
      op.cut.adjoin)) (λ j m. m)

  -- Cut across, with a leftover.
  pub across_left_swapped : (s c a l : ℕ) (z q u t : Rectangle) → Taken get n n' (c ∷ a ∷ l ∷ s ∷ []) → NotEmpty q → NotEmpty u → NotEmpty t
      → AcrossLeft get get' i s c a l z q u t
      → (S : Forest) → Swapped get get' n n' (slot i empty S) (slot i (slot c (slot a empty (slot l empty empty)) (slot s empty empty)) S)
  across_left_swapped s c a l z q u t W some-q some-u some-t op =
      across (c ∷ a ∷ l ∷ s ∷ []) (slot c (slot a empty (slot l empty empty)) (slot s empty empty)) W op.other (ap (λ m. m.rect) op.chosen)
      (rw op.cut.joined
      (box_stands get' n' i c s (get i).parent (get i).next (get i).prev o (get i).rect (slot a empty (slot l empty empty)) empty (join q u) t op.chosen (below W.grow)
      (box_stands get' n' c a l (to i) (to s) none (flip o) z empty empty q u op.box (W.below c (inl refl))
      (rw (flip_flip o) (leaf_stands get' n' a (to c) (to l) none Alloc o q op.alloc (W.below a (inr (inl refl))) (inl refl) some-q))
      (rw (flip_flip o) (leaf_stands get' n' l (to c) none (to a) Free o u op.left (W.below l (inr (inr (inl refl)))) (inr refl) some-u))
      (rw (flip_flip o) op.inner))
      (leaf_stands get' n' s (to i) none (to c) Free (flip o) t op.split (W.below s (inr (inr (inr (inl refl))))) (inr refl) some-t)
      op.cut.adjoin)) (λ j m. m)
    where
      o : Orientation
      o = (get i).orientation

-- EACH KEEPS THE RULES
module _ (get get' : ℕ → Seen) (n n' root i : ℕ) (L : Linked get n root) (all : Rectangle) (P : PlaceChain get n root all)
    (lv : Live get n i) (free : (get i).kind ≡ Free) where
  -- A cut along, no leftover, keeps the rules.
  pub along_keeps : (s : ℕ) (q t : Rectangle) → Taken get n n' (s ∷ []) → NotEmpty q → NotEmpty t → Along get get' i s q t → Kept get get' n n' root
  along_keeps s q t W x y op =
      leaf_step_keeps get get' n n' root i W.grow L all P lv (inr free) (λ S. (_, along_swapped get get' n n' i lv free s q t W x y op S))

  -- So does one along with a leftover,
  pub along_left_keeps : (s a l : ℕ) (q u t : Rectangle) → Taken get n n' (s ∷ a ∷ l ∷ []) → NotEmpty q → NotEmpty u → NotEmpty t
      → AlongLeft get get' i s a l q u t → Kept get get' n n' root
  along_left_keeps s a l q u t W x y z op =
      leaf_step_keeps get get' n n' root i W.grow L all P lv (inr free) (λ S. (_, along_left_swapped get get' n n' i lv free s a l q u t W x y z op S))

  -- one across, no leftover,
  pub across_keeps : (s a : ℕ) (q t : Rectangle) → Taken get n n' (a ∷ s ∷ []) → NotEmpty q → NotEmpty t → Across get get' i s a q t → Kept get get' n n' root
  across_keeps s a q t W x y op =
      leaf_step_keeps get get' n n' root i W.grow L all P lv (inr free) (λ S. (_, across_swapped get get' n n' i lv free s a q t W x y op S))

  -- and one across with a leftover.
  pub across_left_keeps : (s c a l : ℕ) (z q u t : Rectangle) → Taken get n n' (c ∷ a ∷ l ∷ s ∷ []) → NotEmpty q → NotEmpty u → NotEmpty t
      → AcrossLeft get get' i s c a l z q u t → Kept get get' n n' root
  across_left_keeps s c a l z q u t W x y k op =
      leaf_step_keeps get get' n n' root i W.grow L all P lv (inr free) (λ S. (_, across_left_swapped get get' n n' i lv free s c a l z q u t W x y k op S))
