-- Rule 7 over the forest: if the last slot of the top chain is a Container, its stored rectangle is its place.
-- Assumes nothing.
use Rattle.std.specs.Prelude.{ℕ, ◌≡◌, refl}
use Rattle.std.proofs.Common.{sym, ◌∙◌, ap, inl, inr}
use Rattle.geometry.specs.Rectangles.{flip}
use Rattle.geometry.specs.declared.Orientation.{Orientation}
use Rattle.geometry.specs.declared.Rectangle.{Rectangle}
use Rattle.slots.specs.declared.NodeKind.TheVariants.{Container}
use Rattle.sound.specs.View.{Link, none, to, Seen}
use Rattle.sound.specs.Rules.{PlaceSlot}
use Rattle.sound.specs.Sound.{LastTrue}
use Rattle.sound.specs.ViewLaws.{no_link}
use Rattle.forest.specs.Pigeon.{In}
use Rattle.forest.specs.Forest.{Forest, empty, slot, head, slots, Rep, Represents, in_left, in_right, in_children, in_after, shape_live}
use Rattle.forest.specs.Back.{by_place, linked}
use Rattle.forest.specs.Place.{SlotAt, PlaceF, slot_table_place, table_slot_place}
use Rattle.changes.specs.Gaps.{Gap, here, under, past, plug, rim, plug_head}
use Rattle.changes.specs.Frame.{SameBody, place_same, place_replace}

-- If the last slot of the chain is a Container, its stored rectangle is its place.
abbrev pub LastF : (ℕ → Seen) → Forest → Type 0
LastF get empty = Unit {0}
LastF get (slot i C empty) = (get i).kind ≡ Container → PlaceF get C (get i).rect
LastF get (slot i C (slot j B U)) = LastF get (slot j B U)

module _ (get get' : ℕ → Seen) where
  -- One slot of the same body, over children whose places stay and before a chain that obeys if it did.
  last_slot : (a : ℕ) (C C' S S' : Forest) → SameBody (get a) (get' a) → head S' ≡ head S
      → ((r : Rectangle) → PlaceF get C r → PlaceF get' C' r) → (LastF get S → LastF get' S')
      → LastF get (slot a C S) → LastF get' (slot a C' S')
  last_slot a C C' empty empty b e f g h = λ k. rw b.rect (f (get a).rect (h (sym b.kind ∙ k)))
  last_slot a C C' empty (slot x B U) b e f g h = absurd (no_link (sym e))
  last_slot a C C' (slot x B U) empty b e f g h = absurd (no_link e)
  last_slot a C C' (slot x B U) (slot x' B' U') b e f g h = g h

  -- A chain whose slots have the bodies that they had obeys rule 7 if it did.
  pub last_same : (F : Forest) → ((j : ℕ) → In j (slots F) → SameBody (get j) (get' j)) → LastF get F → LastF get' F
  last_same empty h l = l
  last_same (slot a C S) h l =
      last_slot a C C S S (h a (inl refl)) refl (place_same get get' C (λ j m. h j (in_children j a C S m)))
      (last_same S (λ j m. h j (in_after j a C S m))) l

  -- What fills a gap may change, so long as its place stays and it obeys.
  pub last_replace : (K : Gap) (T T' : Forest) → head T' ≡ head T → ((j : ℕ) → In j (rim K) → SameBody (get j) (get' j))
      → ((r : Rectangle) → PlaceF get T r → PlaceF get' T' r) → (LastF get T → LastF get' T') → LastF get (plug K T) → LastF get' (plug K T')
  last_replace here T T' e h f g l = g l
  last_replace (under a K S) T T' e h f g l =
      last_slot a (plug K T) (plug K T') S S (h a (inl refl)) refl
      (place_replace get get' K T T' e (λ j m. h j (inr (in_left (rim K) (slots S) j m))) f)
      (last_same S (λ j m. h j (inr (in_right (rim K) (slots S) j m)))) l
  last_replace (past a C K) T T' e h f g l =
      last_slot a C C (plug K T) (plug K T') (h a (inl refl)) (plug_head K T T' e)
      (place_same get get' C (λ j m. h j (inr (in_left (slots C) (rim K) j m))))
      (last_replace K T T' e (λ j m. h j (inr (in_right (slots C) (rim K) j m))) f g) l

-- A slot below another has a parent.
pub below_parent : (get : ℕ → Seen) (n a : ℕ) (v : Link) (o : Orientation) (C : Forest) → Rep get n (to a) v o C
    → (i : ℕ) → In i (slots C) → (get i).parent ≡ none → ⊥
below_parent get n a v o empty r i h e = h
below_parent get n a v o (slot c B S) r i h e =
    by_place {G = ⊥} i c B S (λ q. no_link (sym e ∙ (ap (λ x. (get x).parent) q ∙ r.0.parent)))
    (λ m. below_parent get n c none (flip o) B r.1 i m e) (λ m. below_parent get n a (to c) o S r.2 i m e) h

module _ (get : ℕ → Seen) (n root : ℕ) (F : Forest) (R : Represents get n root F) where
  -- A table that obeys rule 7 is a forest that does.
  pub last_forest : LastTrue get n → LastF get F
  last_forest L = go none (get root).orientation F R.along
    where
      go : (v : Link) (o : Orientation) (T : Forest) → Rep get n none v o T → LastF get T
      go v o empty r = tt
      go v o (slot i C empty) r = λ k.
          rw k at (table_slot_place get n (linked get n root F R).near.one_child none v o i C empty r (get i).rect
          (L i (r.0.below, shape_live (get i).kind C r.0.shape) r.0.parent r.0.next k))
      go v o (slot i C (slot j B U)) r = go (to i) o (slot j B U) r.2

  -- And the other way.
  pub forest_last : LastF get F → LastTrue get n
  forest_last l i lv p x k = go none (get root).orientation F R.along l (R.all i lv)
    where
      go : (v : Link) (o : Orientation) (T : Forest) → Rep get n none v o T → LastF get T → In i (slots T) → PlaceSlot get n i (get i).rect
      go v o empty r l m = absurd m
      go v o (slot a C empty) r l m =
          by_place {G = PlaceSlot get n i (get i).rect} i a C empty
          (λ e. rw e (slot_table_place get n none v o a C empty r (get a).rect (at_last (rw e at k))))
          (λ c. absurd (below_parent get n a none (flip o) C r.1 i c p)) (λ s. absurd s) m
        where
          at_last : (get a).kind ≡ Container → SlotAt (get a).kind (get a).rect (PlaceF get C) (get a).rect
          at_last q = rw q (l q)
      go v o (slot a C (slot j B U)) r l m = go' (go (to a) o (slot j B U) r.2 l)
        where
          go' : (In i (slots (slot j B U)) → PlaceSlot get n i (get i).rect) → PlaceSlot get n i (get i).rect
          go' rec =
              by_place {G = PlaceSlot get n i (get i).rect} i a C (slot j B U)
              (λ e. absurd (no_link (sym x ∙ (ap (λ z. (get z).next) e ∙ r.0.next))))
              (λ c. absurd (below_parent get n a none (flip o) C r.1 i c p)) rec m
