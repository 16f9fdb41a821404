-- A top chain whose last part gets longer: the whole gets longer by as much.
-- Assumes nothing.
use Rattle.std.specs.Prelude.{ℕ, ◌≤◌, ◌≡◌, refl}
use Rattle.std.proofs.Common.{sym, ◌∙◌, subst, inl, inr, arith}
use Rattle.geometry.specs.declared.Orientation.{Orientation}
use Rattle.geometry.specs.declared.Rectangle.{Rectangle}
use Rattle.slots.specs.declared.NodeKind.{NodeKind}
use Rattle.slots.specs.declared.NodeKind.TheVariants.{Container, Alloc, Free, Unused}
use Rattle.sound.specs.View.{Link, none, to, Seen, Live}
use Rattle.sound.specs.Rules.{Adjoin, join, PlaceChain}
use Rattle.sound.specs.Sound.{Linked, LastTrue}
use Rattle.sound.specs.ViewLaws.{no_link}
use Rattle.forest.specs.Pigeon.{In, Distinct}
use Rattle.forest.specs.Forest.{Forest, empty, slot, head, slots, Rep, in_left, in_right, rep_distinct}
use Rattle.forest.specs.Back.{linked}
use Rattle.forest.specs.Place.{SlotAt, Then, PlaceF}
use Rattle.changes.specs.Gaps.{Gap, here, under, past, plug, rim, parent_at, prev_at, orientation_at, fill_in, plug_head, distinct_fill, rep_fill}
use Rattle.changes.specs.Joins.{join_adjoins, adjoins_join}
use Rattle.changes.specs.Frame.{SameBody, same_body, slot_more, place_same, chain_placed, placed_chain}
use Rattle.changes.specs.Lasts.{LastF, forest_last}
use Rattle.changes.specs.Swaps.{Swap, round, swap_represents, at_slot}

-- A gap below a slot has a parent.
deep_parent : (K : Gap) (a : ℕ) → parent_at K (to a) ≡ none → ⊥
deep_parent here a e = no_link (sym e)
deep_parent (under b K S) a e = deep_parent K b e
deep_parent (past b C K) a e = deep_parent K a e

-- A gap without one has the orientation of the top chain.
top_orientation : (K : Gap) → parent_at K none ≡ none → (o : Orientation) → orientation_at K o ≡ o
top_orientation here e o = refl
top_orientation (under a K S) e o = absurd (deep_parent K a e)
top_orientation (past a C K) e o = top_orientation K e o

-- A slot has one place, if its children have,
slot_once : (k : NodeKind) (m : Rectangle) (P : Rectangle → Type 0) → ((q r : Rectangle) → P q → P r → q ≡ r) → (q r : Rectangle) → SlotAt k m P q → SlotAt k m P r → q ≡ r
slot_once Container m P f q r x y = f q r x y
slot_once Alloc m P f q r x y = x.1 ∙ sym y.1
slot_once Free m P f q r x y = x.1 ∙ sym y.1
slot_once Unused m P f q r x y = absurd x

-- and a chain, if its rest has.
then_once : (S : Forest) (o : Orientation) (u w : Rectangle) (P : Rectangle → Type 0) → u ≡ w → ((q r : Rectangle) → P q → P r → q ≡ r)
    → (q r : Rectangle) → Then S o u P q → Then S o w P r → q ≡ r
then_once empty o u w P e f q r x y = x ∙ (e ∙ sym y)
then_once (slot j B U) o u w P e f q r x y = rw (x.3, y.3, e, f x.0 y.0 x.1 y.1) refl

-- So a forest has one place.
pub place_once : (get : ℕ → Seen) (F : Forest) (q r : Rectangle) → PlaceF get F q → PlaceF get F r → q ≡ r
place_once get empty q r x y = absurd x
place_once get (slot i C S) q r x y =
    then_once S (get i).orientation x.0 y.0 (PlaceF get S)
    (slot_once (get i).kind (get i).rect (PlaceF get C) (place_once get C) x.0 y.0 x.1 y.1) (place_once get S) q r x.2 y.2

-- One slot before a chain that gets longer by t.
then_longer : (S S' : Forest) (i : ℕ) → In i (slots S) → head S' ≡ head S → (o : Orientation) (q t : Rectangle) (P Q : Rectangle → Type 0)
    → ((s : Rectangle) → P s → Adjoin o s t × Q (join s t)) → (r : Rectangle) → Then S o q P r → Adjoin o r t × Then S' o q Q (join r t)
then_longer empty S' i m e o q t P Q f r h = absurd m
then_longer (slot x B U) empty i m e o q t P Q f r h = absurd (no_link e)
then_longer (slot x B U) (slot x' B' U') i m e o q t P Q f r h =
    let g = f h.0 h.1 in
    rw h.3 (join_adjoins o q h.0 t h.2 g.0, (join h.0 t, g.1, adjoins_join o q h.0 t h.2 g.0, refl))

-- What fills a gap of the top chain, its last part, gets longer by t, and so does the whole.
place_longer : (get get' : ℕ → Seen) (n : ℕ) (K : Gap) (T T' : Forest) (i : ℕ) → In i (slots T) → head T' ≡ head T
    → ((j : ℕ) → In j (rim K) → SameBody (get j) (get' j)) → parent_at K none ≡ none → (t : Rectangle) (v : Link) (o : Orientation)
    → Rep get n none v o (plug K T) → ((w : Rectangle) → PlaceF get T w → Adjoin o w t × PlaceF get' T' (join w t))
    → (r : Rectangle) → PlaceF get (plug K T) r → Adjoin o r t × PlaceF get' (plug K T') (join r t)
place_longer get get' n here T T' i m e b top t v o R f r h = f r h
place_longer get get' n (under a K S) T T' i m e b top t v o R f r h = absurd (deep_parent K a top)
place_longer get get' n (past a C K) T T' i m e b top t v o R f r h =
    let body = b a (inl refl) in
    let rest = place_longer get get' n K T T' i m e (λ j x. b j (inr (in_right (slots C) (rim K) j x))) top t (to a) o R.2 f in
    let g = then_longer (plug K T) (plug K T') i (fill_in K T i m) (plug_head K T T' e) o h.0 t (PlaceF get (plug K T)) (PlaceF get' (plug K T')) rest r
    (rw R.0.orientation at h.2) in (
      g.0,
      (
        h.0,
        rw (body.kind, body.rect) (slot_more (get a).kind (get a).rect (PlaceF get C) (PlaceF get' C)
            (place_same get get' C (λ j x. b j (inr (in_left (slots C) (rim K) j x)))) h.0 h.1),
        rw (body.orientation, R.0.orientation) g.1,
      ),
    )

-- Rule 7 speaks of the last part alone.
last_past : (get : ℕ → Seen) (a : ℕ) (C S : Forest) (i : ℕ) → In i (slots S) → LastF get S → LastF get (slot a C S)
last_past get a C empty i m l = absurd m
last_past get a C (slot j B U) i m l = l

-- So a top chain obeys it whose last part does.
last_top : (get : ℕ → Seen) (K : Gap) (T : Forest) (i : ℕ) → In i (slots T) → parent_at K none ≡ none → LastF get T → LastF get (plug K T)
last_top get here T i m top l = l
last_top get (under a K S) T i m top l = absurd (deep_parent K a top)
last_top get (past a C K) T i m top l = last_past get a C (plug K T) i (fill_in K T i m) (last_top get K T i m top l)

-- No slot is both Free and a Container.
pub free_box : {k : NodeKind} {G : Type 0} → k ≡ Free → k ≡ Container → G
free_box e q = absurd (let z : ◌≡◌ {A = ℕ} 0 1 = cc in omega arith)

-- What growing keeps: rule 3, with the top chain's new place, and rule 7.
pub record Grown (get : ℕ → Seen) (n root : ℕ) (r : Rectangle) : Type 0 where
  pub links : Linked get n root
  pub placed : PlaceChain get n root r
  pub lasts : LastTrue get n

-- The chain T, the last part of a top chain, is swapped for one that is longer by t.
abbrev pub Lengthens : (ℕ → Seen) → (ℕ → Seen) → ℕ → ℕ → Rectangle → Forest → Type 0
Lengthens get get' n n' t T = (p v : Link) (o : Orientation) → p ≡ none → Rep get n p v o T → Distinct (slots T) → (q : Rectangle) → PlaceF get T q
    → (T' : Forest) × (i : ℕ) × In i (slots T') × Swap get get' n n' p v o T T'
    × ((w : Rectangle) → PlaceF get T w → Adjoin o w t × PlaceF get' T' (join w t)) × LastF get' T'

-- Then so is the top chain.
pub top_longer : (get get' : ℕ → Seen) (n n' root i : ℕ) → n ≤ n' → Linked get n root → (r : Rectangle) → PlaceChain get n root r → Live get n i
    → (get i).parent ≡ none → (t : Rectangle) → ((C S : Forest) → Lengthens get get' n n' t (slot i C S))
    → Adjoin (get root).orientation r t × Grown get' n' root (join r t)
top_longer get get' n n' root i grow L r P lv pi t f =
    let a = at_slot get n root i L r P lv in
    let T = slot i a.below a.after in
    let K = a.gap in
    let D = rep_distinct get n none none (get root).orientation (plug K T) a.whole.along 0 refl in
    let R = rep_fill get n K T none none (get root).orientation a.whole.along in
    let top : parent_at K none ≡ none = sym R.0.parent ∙ pi in
    let s = f a.below a.after (parent_at K none) (prev_at K none) (orientation_at K (get root).orientation) top R (distinct_fill K T D) a.place a.placed in
    let longer : (w : Rectangle) → PlaceF get T w → Adjoin (get root).orientation w t × PlaceF get' s.0 (join w t) =
    λ w h. let g = s.4 w h in (subst (λ (x : Orientation). Adjoin x w t) (top_orientation K top (get root).orientation) g.0, g.1) in
    let R' = swap_represents get get' n n' root grow K T s.0 a.whole s.3 in
    let g = place_longer get get' n K T s.0 i (inl refl) s.3.starts (λ j m. same_body (round get get' n n' root grow K T s.0 a.whole s.3 j m)) top t
    none (get root).orientation a.whole.along longer r (placed_chain get n root (plug K T) a.whole r P) in (
      g.0,
      record {
        links = linked get' n' root (plug K s.0) R';
        placed = chain_placed get' n' root (plug K s.0) R' (join r t) g.1;
        lasts = forest_last get' n' root (plug K s.0) R' (last_top get' K s.0 s.1 s.2 top s.5);
      },
    )
