-- The place of a forest, and that it is the place that rule 5 gives the table's chain.
-- Assumes nothing.
use Rattle.std.specs.Prelude.{ℕ, zero, suc, ◌+◌, ◌-◌, ◌≤◌, ◌<◌, ◌≡◌, refl, Bool, true, false, ◌⊎◌}
use Rattle.std.proofs.Common.{sym, ◌∙◌, ap, inl, inr, ⊎_elim, arith}
use Rattle.std.proofs.lemmas.Bool.{false≢true}
use Rattle.geometry.specs.Rectangles.{flip}
use Rattle.geometry.specs.declared.Orientation.{Orientation}
use Rattle.geometry.specs.declared.Rectangle.{Rectangle}
use Rattle.slots.specs.declared.NodeKind.{NodeKind}
use Rattle.slots.specs.declared.NodeKind.TheVariants.{Container, Alloc, Free, Unused}
use Rattle.sound.specs.View.{Link, none, to, Seen, Live, in_use}
use Rattle.sound.specs.ViewLaws.{to_inj, no_link}
use Rattle.sound.specs.Rules.{FirstChild, Leaf, NotEmpty, Adjoin, join, PlaceSlot, own, children, PlaceChain, last, more}
use Rattle.forest.specs.Flips.{flip_flip}
use Rattle.forest.specs.Forest.{Forest, empty, slot, head, slots, Bare, Full, Shape, Here, Rep, shape_live}

-- A slot's place, from its own rectangle or from its children's place.
abbrev pub SlotAt : NodeKind → Rectangle → (Rectangle → Type 0) → Rectangle → Type 0
SlotAt Container mine kids r = kids r
SlotAt Alloc mine kids r = NotEmpty mine × (r ≡ mine)
SlotAt Free mine kids r = NotEmpty mine × (r ≡ mine)
SlotAt Unused mine kids r = ⊥

-- A chain's place, from the place of its first slot and that of the rest.
abbrev pub Then : Forest → Orientation → Rectangle → (Rectangle → Type 0) → Rectangle → Type 0
Then empty o q rest r = r ≡ q
Then (slot j B T) o q rest r = (s : Rectangle) × rest s × Adjoin o q s × (r ≡ join q s)

abbrev pub PlaceF : (ℕ → Seen) → Forest → Rectangle → Type 0
PlaceF get empty r = ⊥
PlaceF get (slot i C S) r =
    (q : Rectangle) × SlotAt (get i).kind (get i).rect (PlaceF get C) q × Then S (get i).orientation q (PlaceF get S) r

module _ (get : ℕ → Seen) (n : ℕ) where
  first_of : (i c : ℕ) (o : Orientation) (B U : Forest) → Rep get n (to i) none o (slot c B U) → FirstChild get n i c
  first_of i c o B U r =
      record { live = (r.0.below, shape_live (get c).kind B r.0.shape); parent = r.0.parent; prev = r.0.prev }

  -- One slot, given that its children's place is the table's.
  slot_table : (a : ℕ) (o : Orientation) (C : Forest) → Rep get n (to a) none o C
      → ((j : ℕ) → head C ≡ to j → (t : Rectangle) → PlaceF get C t → PlaceChain get n j t)
      → (k : NodeKind) → (get a).kind ≡ k → (q : Rectangle) → SlotAt k (get a).rect (PlaceF get C) q → PlaceSlot get n a q
  slot_table a o empty r rec Container e q h = absurd h
  slot_table a o (slot c B U) r rec Container e q h = children e (first_of a c o B U r) (rec c refl q h)
  slot_table a o empty r rec Alloc e q h = rw h.1 (own (inl e) h.0)
  slot_table a o (slot c B U) r rec Alloc e q h = rw h.1 (own (inl e) h.0)
  slot_table a o empty r rec Free e q h = rw h.1 (own (inr e) h.0)
  slot_table a o (slot c B U) r rec Free e q h = rw h.1 (own (inr e) h.0)
  slot_table a o empty r rec Unused e q h = absurd h
  slot_table a o (slot c B U) r rec Unused e q h = absurd h

  pub place_table : (p v : Link) (o : Orientation) (F : Forest) → Rep get n p v o F → (i : ℕ) → head F ≡ to i
      → (r : Rectangle) → PlaceF get F r → PlaceChain get n i r
  place_table p v o empty r i e w h = absurd h
  place_table p v o (slot a C S) r i e w h =
      let same : a ≡ i = cc in
      rw (← same)
      (after S r.0.next r.2 h.2 (λ j q t x. place_table p (to a) o S r.2 j q t x)
      (slot_table a (flip o) C r.1 (λ j q t x. place_table (to a) none (flip o) C r.1 j q t x) (get a).kind refl h.0 h.1))
    where
      after : (T : Forest) → (get a).next ≡ head T → Rep get n p (to a) o T → Then T (get a).orientation h.0 (PlaceF get T) w
          → ((j : ℕ) → head T ≡ to j → (t : Rectangle) → PlaceF get T t → PlaceChain get n j t) → PlaceSlot get n a h.0 → PlaceChain get n a w
      after empty q s x rec me = rw x (last q me)
      after (slot j B U) q s x rec me = rw x.3 (more q me (rec j refl x.0 x.1) x.2)

  -- The forest's place of one slot is the rule's.
  pub slot_table_place : (p v : Link) (o : Orientation) (a : ℕ) (C S : Forest) → Rep get n p v o (slot a C S)
      → (q : Rectangle) → SlotAt (get a).kind (get a).rect (PlaceF get C) q → PlaceSlot get n a q
  slot_table_place p v o a C S r q h =
      slot_table a (flip o) C r.1 (λ j e t x. place_table (to a) none (flip o) C r.1 j e t x) (get a).kind refl q h

  -- The other way: the rule's place of a slot or a chain, taken apart.
  abbrev SlotParts : ℕ → Rectangle → Type 0
  SlotParts i r = (Leaf (get i).kind × NotEmpty (get i).rect × (r ≡ (get i).rect))
      ⊎ (((get i).kind ≡ Container) × ((c : ℕ) × FirstChild get n i c × PlaceChain get n c r))

  slot_parts : {i : ℕ} {r : Rectangle} → PlaceSlot get n i r → SlotParts i r
  slot_parts (own l e) = inl (l, e, refl)
  slot_parts (children {c = c} k f p) = inr (k, (c, f, p))

  abbrev ChainParts : ℕ → Rectangle → Type 0
  ChainParts i r = (((get i).next ≡ none) × PlaceSlot get n i r)
      ⊎ ((j : ℕ) × (q : Rectangle) × (s : Rectangle) × ((get i).next ≡ to j) × PlaceSlot get n i q × PlaceChain get n j s × Adjoin (get i).orientation q s × (r ≡ join q s))

  chain_parts : {i : ℕ} {r : Rectangle} → PlaceChain get n i r → ChainParts i r
  chain_parts (last e p) = inl (e, p)
  chain_parts (more {j = j} {r = q} {s = s} e p c a) = inr (j, q, s, e, p, c, a, refl)

  -- Given that a Container has one first child.
  module _ (single : (i c d : ℕ) → FirstChild get n i c → FirstChild get n i d → c ≡ d) where
    leaf_slot : (a : ℕ) (P : Rectangle → Type 0) (q : Rectangle) → Leaf (get a).kind → NotEmpty (get a).rect → q ≡ (get a).rect
        → (k : NodeKind) → (get a).kind ≡ k → SlotAt k (get a).rect P q
    leaf_slot a P q l x y Container e = absurd (⊎_elim (λ w. let z : ◌≡◌ {A = ℕ} 0 1 = cc in omega arith) (λ w. let z : ◌≡◌ {A = ℕ} 0 1 = cc in omega arith) l)
    leaf_slot a P q l x y Alloc e = (x, y)
    leaf_slot a P q l x y Free e = (x, y)
    leaf_slot a P q l x y Unused e = absurd (⊎_elim (λ w. let z : ◌≡◌ {A = ℕ} 0 1 = cc in omega arith) (λ w. let z : ◌≡◌ {A = ℕ} 0 1 = cc in omega arith) l)

    node_slot : (a : ℕ) (o : Orientation) (C : Forest) → Rep get n (to a) none o C
        → ((j : ℕ) → head C ≡ to j → (t : Rectangle) → PlaceChain get n j t → PlaceF get C t)
        → Shape Container C → (q : Rectangle) (c : ℕ) → FirstChild get n a c → PlaceChain get n c q → PlaceF get C q
    node_slot a o empty r rec sh q c f p = absurd sh
    node_slot a o (slot b B U) r rec sh q c f p = rec b refl q (rw (single a b c (first_of a b o B U r) f) p)

    table_slot : (a : ℕ) (o : Orientation) (C : Forest) → Rep get n (to a) none o C
        → ((j : ℕ) → head C ≡ to j → (t : Rectangle) → PlaceChain get n j t → PlaceF get C t)
        → Shape (get a).kind C → (q : Rectangle) → SlotParts a q → SlotAt (get a).kind (get a).rect (PlaceF get C) q
    table_slot a o C r rec sh q (inl l) = leaf_slot a (PlaceF get C) q l.0 l.1 l.2 (get a).kind refl
    table_slot a o C r rec sh q (inr w) =
        rw w.0 (node_slot a o C r rec (rw w.0 at sh) q w.1.0 w.1.1 w.1.2)

    pub table_place : (p v : Link) (o : Orientation) (F : Forest) → Rep get n p v o F → (i : ℕ) → head F ≡ to i
        → (r : Rectangle) → PlaceChain get n i r → PlaceF get F r
    table_place p v o empty r i e w h = absurd (no_link e)
    table_place p v o (slot a C S) r i e w h =
        let same : i ≡ a = cc in
        go (chain_parts (rw same at h))
        (λ q x. table_slot a (flip o) C r.1 (λ j z t y. table_place (to a) none (flip o) C r.1 j z t y) r.0.shape q (slot_parts x))
        S r.0.next (λ j z t y. table_place p (to a) o S r.2 j z t y)
      where
        go : ChainParts a w → ((q : Rectangle) → PlaceSlot get n a q → SlotAt (get a).kind (get a).rect (PlaceF get C) q)
            → (T : Forest) → (get a).next ≡ head T → ((j : ℕ) → head T ≡ to j → (t : Rectangle) → PlaceChain get n j t → PlaceF get T t)
            → (q : Rectangle) × SlotAt (get a).kind (get a).rect (PlaceF get C) q × Then T (get a).orientation q (PlaceF get T) w
        go (inl x) me empty nx rec = (w, me w x.1, refl)
        go (inl x) me (slot j B U) nx rec = absurd (no_link (sym x.0 ∙ nx))
        go (inr x) me empty nx rec = absurd (no_link (sym nx ∙ x.3))
        go (inr x) me (slot j B U) nx rec = (
          x.1,
          me x.1 x.4,
          (x.2, rec j refl x.2 (rw (to_inj (sym nx ∙ x.3)) x.5), x.6, x.7),
        )

    -- The rule's place of one slot is the forest's.
    pub table_slot_place : (p v : Link) (o : Orientation) (a : ℕ) (C S : Forest) → Rep get n p v o (slot a C S)
        → (q : Rectangle) → PlaceSlot get n a q → SlotAt (get a).kind (get a).rect (PlaceF get C) q
    table_slot_place p v o a C S r q x =
        table_slot a (flip o) C r.1 (λ j e t y. table_place (to a) none (flip o) C r.1 j e t y) r.0.shape q (slot_parts x)
