-- THE FRAME: where one part of a represented forest is replaced by another that starts at the same slot, and nothing round
-- the gap changed, the table after is a forest again, of the same place.
-- Assumes nothing.
use Rattle.std.specs.Prelude.{ℕ, ◌≤◌, ◌≡◌, refl, ◌⊎◌}
use Rattle.std.proofs.Common.{sym, ◌∙◌, inl, inr, ⊎_elim, arith}
use Rattle.geometry.specs.Rectangles.{flip}
use Rattle.geometry.specs.declared.Orientation.{Orientation}
use Rattle.geometry.specs.declared.Rectangle.{Rectangle}
use Rattle.slots.specs.declared.NodeKind.{NodeKind}
use Rattle.slots.specs.declared.NodeKind.TheVariants.{Container, Alloc, Free, Unused}
use Rattle.sound.specs.View.{Link, none, to, Seen, Live}
use Rattle.sound.specs.Rules.{PlaceChain}
use Rattle.sound.specs.ViewLaws.{to_inj, no_link}
use Rattle.forest.specs.Pigeon.{In}
use Rattle.forest.specs.Forest.{Forest, empty, slot, head, slots, Shape, Here, Rep, Represents, in_left, in_right, in_children, in_after}
use Rattle.forest.specs.Back.{linked}
use Rattle.forest.specs.Place.{SlotAt, Then, PlaceF, place_table, table_place}
use Rattle.forest.specs.Fill.{below_placed, after_placed}
use Rattle.changes.specs.Gaps.{Gap, here, under, past, plug, rim, parent_at, prev_at, orientation_at, fill_in, rim_in, plug_head}

-- LINKS

-- What a kind asks of the children, it asks of where they start.
shape_head : (k : NodeKind) (C D : Forest) → head D ≡ head C → Shape k C → Shape k D
shape_head k empty empty e h = h
shape_head k empty (slot a B S) e h = absurd (no_link (sym e))
shape_head k (slot a B S) empty e h = absurd (no_link e)
shape_head Container (slot a B S) (slot a' B' S') e h = tt
shape_head Alloc (slot a B S) (slot a' B' S') e h = h
shape_head Free (slot a B S) (slot a' B' S') e h = h
shape_head Unused (slot a B S) (slot a' B' S') e h = h

-- One slot that did not change, over children and before a chain that start where they did.
here_same : {n n' i : ℕ} {m m' : Seen} {p v l l' : Link} {o : Orientation} (C D : Forest) → n ≤ n' → m' ≡ m → head D ≡ head C → l' ≡ l
    → Here n m p v o i C l → Here n' m' p v o i D l'
here_same {m = m} C D le e hc hl h =
    rw (e, hl)
    (record {
      below = omega (arith, h.below);
      parent = h.parent;
      prev = h.prev;
      orientation = h.orientation;
      next = h.next;
      shape = shape_head m.kind C D hc h.shape;
    })

module _ (get get' : ℕ → Seen) (n n' : ℕ) (grow : n ≤ n') where
  -- A forest none of whose slots changed is held as it was.
  pub rep_same : (p v : Link) (o : Orientation) (F : Forest) → ((j : ℕ) → In j (slots F) → get' j ≡ get j) → Rep get n p v o F → Rep get' n' p v o F
  rep_same p v o empty h r = tt
  rep_same p v o (slot a C S) h r = (
    here_same C C grow (h a (inl refl)) refl refl r.0,
    rep_same (to a) none (flip o) C (λ j m. h j (in_children j a C S m)) r.1,
    rep_same p (to a) o S (λ j m. h j (in_after j a C S m)) r.2,
  )

  -- What fills the gap may change, so long as it starts at the same slot and nothing round the gap changed.
  pub rep_replace : (K : Gap) (T T' : Forest) → head T' ≡ head T → ((j : ℕ) → In j (rim K) → get' j ≡ get j)
      → (p v : Link) (o : Orientation) → Rep get n p v o (plug K T)
      → Rep get' n' (parent_at K p) (prev_at K v) (orientation_at K o) T' → Rep get' n' p v o (plug K T')
  rep_replace here T T' e h p v o r t = t
  rep_replace (under a K S) T T' e h p v o r t = (
    here_same (plug K T) (plug K T') grow (h a (inl refl)) (plug_head K T T' e) refl r.0,
    rep_replace K T T' e (λ j m. h j (inr (in_left (rim K) (slots S) j m))) (to a) none (flip o) r.1 t,
    rep_same p (to a) o S (λ j m. h j (inr (in_right (rim K) (slots S) j m))) r.2,
  )
  rep_replace (past a C K) T T' e h p v o r t = (
    here_same C C grow (h a (inl refl)) refl (plug_head K T T' e) r.0,
    rep_same (to a) none (flip o) C (λ j m. h j (inr (in_left (slots C) (rim K) j m))) r.1,
    rep_replace K T T' e (λ j m. h j (inr (in_right (slots C) (rim K) j m))) p (to a) o r.2 t,
  )

-- The table is a forest that it holds from root on, whatever the orientation, if every live slot stands in it.
pub held_represents : (get : ℕ → Seen) (n root : ℕ) (o : Orientation) (F : Forest) → head F ≡ to root → Rep get n none none o F
    → ((i : ℕ) → Live get n i → In i (slots F)) → Represents get n root F
held_represents get n root o empty e r all = absurd (no_link e)
held_represents get n root o (slot a C S) e r all =
    let q : (get root).orientation ≡ o = rw (← to_inj e) r.0.orientation in
    record { from_root = e; along = rw q r; all = all }

-- PLACES

-- What places read of a slot.
pub record SameBody (m m' : Seen) : Type 0 where
  pub kind : m'.kind ≡ m.kind
  pub orientation : m'.orientation ≡ m.orientation
  pub rect : m'.rect ≡ m.rect

-- A slot that did not change has the same body.
pub same_body : {m m' : Seen} → m' ≡ m → SameBody m m'
same_body e = rw e (record { kind = refl; orientation = refl; rect = refl })

-- A slot's place stays if its children's does,
pub slot_more : (k : NodeKind) (m : Rectangle) (P Q : Rectangle → Type 0) → ((r : Rectangle) → P r → Q r) → (q : Rectangle) → SlotAt k m P q → SlotAt k m Q q
slot_more Container m P Q f q h = f q h
slot_more Alloc m P Q f q h = h
slot_more Free m P Q f q h = h
slot_more Unused m P Q f q h = h

-- and a chain's if that of the rest does.
pub then_more : (S T : Forest) → head T ≡ head S → (o : Orientation) (q : Rectangle) (P Q : Rectangle → Type 0) → ((r : Rectangle) → P r → Q r)
    → (r : Rectangle) → Then S o q P r → Then T o q Q r
then_more empty empty e o q P Q f r h = h
then_more empty (slot a B U) e o q P Q f r h = absurd (no_link (sym e))
then_more (slot a B U) empty e o q P Q f r h = absurd (no_link e)
then_more (slot a B U) (slot a' B' U') e o q P Q f r h = (h.0, f h.0 h.1, h.2, h.3)

module _ (get get' : ℕ → Seen) where
  -- One slot of the same body, over children and before a chain whose places stay.
  place_slot : (a : ℕ) (C C' S S' : Forest) → SameBody (get a) (get' a) → head S' ≡ head S
      → ((r : Rectangle) → PlaceF get C r → PlaceF get' C' r) → ((r : Rectangle) → PlaceF get S r → PlaceF get' S' r)
      → (r : Rectangle) → PlaceF get (slot a C S) r → PlaceF get' (slot a C' S') r
  place_slot a C C' S S' b e f g r w = (
    w.0,
    rw (b.kind, b.rect) (slot_more (get a).kind (get a).rect (PlaceF get C) (PlaceF get' C') f w.0 w.1),
    rw b.orientation (then_more S S' e (get a).orientation w.0 (PlaceF get S) (PlaceF get' S') g r w.2),
  )

  -- A forest whose slots have the bodies that they had has the place that it had.
  pub place_same : (F : Forest) → ((j : ℕ) → In j (slots F) → SameBody (get j) (get' j)) → (r : Rectangle) → PlaceF get F r → PlaceF get' F r
  place_same empty h r w = w
  place_same (slot a C S) h r w =
      place_slot a C C S S (h a (inl refl)) refl
      (place_same C (λ j m. h j (in_children j a C S m))) (place_same S (λ j m. h j (in_after j a C S m))) r w

  -- What fills the gap may change, so long as its place stays.
  pub place_replace : (K : Gap) (T T' : Forest) → head T' ≡ head T → ((j : ℕ) → In j (rim K) → SameBody (get j) (get' j))
      → ((r : Rectangle) → PlaceF get T r → PlaceF get' T' r) → (r : Rectangle) → PlaceF get (plug K T) r → PlaceF get' (plug K T') r
  place_replace here T T' e h f r w = f r w
  place_replace (under a K S) T T' e h f r w =
      place_slot a (plug K T) (plug K T') S S (h a (inl refl)) refl
      (place_replace K T T' e (λ j m. h j (inr (in_left (rim K) (slots S) j m))) f)
      (place_same S (λ j m. h j (inr (in_right (rim K) (slots S) j m)))) r w
  place_replace (past a C K) T T' e h f r w =
      place_slot a C C (plug K T) (plug K T') (h a (inl refl)) (plug_head K T T' e)
      (place_same C (λ j m. h j (inr (in_left (slots C) (rim K) j m))))
      (place_replace K T T' e (λ j m. h j (inr (in_right (slots C) (rim K) j m))) f) r w

-- Where the whole has a place, so has what fills the gap.
pub place_fill : (get : ℕ → Seen) (n : ℕ) (K : Gap) (T : Forest) (i : ℕ) → In i (slots T) → (p v : Link) (o : Orientation) → Rep get n p v o (plug K T)
    → (r : Rectangle) → PlaceF get (plug K T) r → (w : Rectangle) × PlaceF get T w
place_fill get n here T i m p v o R r h = (r, h)
place_fill get n (under a K S) T i m p v o R r h =
    place_fill get n K T i m (to a) none (flip o) R.1 h.0
    (below_placed get n (get a).kind (plug K T) (get a).rect h.0 i R.0.shape (fill_in K T i m) h.1)
place_fill get n (past a C K) T i m p v o R r h =
    let w = after_placed get n (plug K T) (get a).orientation h.0 r i (fill_in K T i m) h.2 in
    place_fill get n K T i m p (to a) o R.2 w.0 w.1

-- The place of a represented forest is the place that rule 5 gives the chain from root.
pub chain_placed : (get : ℕ → Seen) (n root : ℕ) (F : Forest) → Represents get n root F → (r : Rectangle) → PlaceF get F r → PlaceChain get n root r
chain_placed get n root F R r w = place_table get n none none (get root).orientation F R.along root R.from_root r w

-- The place that rule 5 gives the chain from root is the forest's.
pub placed_chain : (get : ℕ → Seen) (n root : ℕ) (F : Forest) → Represents get n root F → (r : Rectangle) → PlaceChain get n root r → PlaceF get F r
placed_chain get n root F R r w =
    table_place get n (linked get n root F R).near.one_child none none (get root).orientation F R.along root R.from_root r w

-- THE FRAME
module _ (get get' : ℕ → Seen) (n n' root : ℕ) (grow : n ≤ n') (K : Gap) (T T' : Forest) (R : Represents get n root (plug K T))
    (starts : head T' ≡ head T) (round : (j : ℕ) → In j (rim K) → get' j ≡ get j)
    (holds : Rep get' n' (parent_at K none) (prev_at K none) (orientation_at K (get root).orientation) T')
    (all : (j : ℕ) → Live get' n' j → In j (rim K) ⊎ In j (slots T')) where
  -- The table after is the forest with its part replaced.
  pub frame : Represents get' n' root (plug K T')
  frame =
      held_represents get' n' root (get root).orientation (plug K T') (plug_head K T T' starts ∙ R.from_root)
      (rep_replace get get' n n' grow K T T' starts round none none (get root).orientation R.along holds)
      (λ j l. ⊎_elim {C = In j (slots (plug K T'))} (rim_in K T' j) (fill_in K T' j) (all j l))

  -- Where the part keeps its place, so does the whole.
  pub frame_placed : ((r : Rectangle) → PlaceF get T r → PlaceF get' T' r) → (r : Rectangle) → PlaceChain get n root r → PlaceChain get' n' root r
  frame_placed f r w =
      chain_placed get' n' root (plug K T') frame r
      (place_replace get get' K T T' starts (λ j m. same_body (round j m)) f r (placed_chain get n root (plug K T) R r w))
