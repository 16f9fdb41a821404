-- What the walk from the root decides of the rules, with as many slots to spend as are live: rule 3, and where it holds rules 5 and 7.
-- Assumes nothing.
use Rattle.std.specs.Prelude.{◌≡◌, refl, true, List, ℕ, length, get_or}
use Rattle.std.proofs.Common.{sym, ◌∙◌, ap, arith}
use Rattle.geometry.specs.Rectangles.{flip}
use Rattle.geometry.specs.declared.Orientation.{Orientation}
use Rattle.geometry.specs.declared.Rectangle.{Rectangle}
use Rattle.slots.specs.declared.NodeKind.TheVariants.{Container}
use Rattle.sound.specs.View.{Link, none, to, Seen, seen, in_use, Live}
use Rattle.sound.specs.Rules.{FirstChild, PlaceSlot, PlaceChain}
use Rattle.sound.specs.Sound.{Linked, LastTrue}
use Rattle.sound.specs.ViewLaws.{no_link}
use Rattle.forest.specs.Pigeon.{In, pigeon_all}
use Rattle.forest.specs.Forest.{Forest, empty, slot, head, slots, Rep, Represents, rep_distinct, shape_live}
use Rattle.forest.specs.Back.{by_place, in_live, linked}
use Rattle.forest.specs.Follows.{size, live, kids_of, next_of, size_slots, linked_follows, follows_represents}
use Rattle.forest.specs.Place.{place_table, table_place, slot_table_place, table_slot_place}
use Rattle.links.specs.TestLaws.{Says, says_as}
use Rattle.places.specs.Places.{kids_at, next_at, Standing, StoredAt, AtLast, StoredF, Chained}
use Rattle.places.specs.RuleLaws.{live_slots, FirstsRight}
use Rattle.places.proofs.PlaceLaws.{standing_ended, fits_placed, fits_stored, placed_fits}
use Rattle.joins.specs.declared.Placed.{Placed}

-- RULE 7 OF A FOREST: it speaks of the last slot of the top chain.
module _ (get : ℕ → Seen) (n : ℕ) where
  -- A slot under a parent has one.
  has_parent : (a : ℕ) (v : Link) (o : Orientation) (F : Forest) → Rep get n (to a) v o F → (i : ℕ) → In i (slots F) → (get i).parent ≡ none → ⊥
  has_parent a v o empty r i h z = absurd h
  has_parent a v o (slot b C S) r i h z =
      by_place {G = ⊥} i b C S (λ q. no_link (sym z ∙ (ap (λ x. (get x).parent) q ∙ r.0.parent))) (λ m. has_parent b none (flip o) C r.1 i m z)
      (λ m. has_parent a (to b) o S r.2 i m z) h

  stored_last : (v : Link) (o : Orientation) (F : Forest) → Rep get n none v o F → StoredF get F
      → (i : ℕ) → In i (slots F) → (get i).parent ≡ none → (get i).next ≡ none → (get i).kind ≡ Container → PlaceSlot get n i (get i).rect
  stored_last v o empty r s i h p x k = absurd h
  stored_last v o (slot a C S) r s i h p x k =
      by_place {G = PlaceSlot get n i (get i).rect} i a C S (λ q. rw q (here S r s (rw q at x) (rw q at k)))
      (λ m. absurd (has_parent a none (flip o) C r.1 i m p)) (λ m. stored_last (to a) o S r.2 (later S s m) i m p x k) h
    where
      here : (T : Forest) → Rep get n none v o (slot a C T) → AtLast T (StoredAt get a C) (StoredF get T) → (get a).next ≡ none → (get a).kind ≡ Container
          → PlaceSlot get n a (get a).rect
      here empty t y z c = slot_table_place get n none v o a C empty t (get a).rect (rw c (y c))
      here (slot j B T) t y z c = absurd (no_link (sym z ∙ t.0.next))

      later : (T : Forest) → AtLast T (StoredAt get a C) (StoredF get T) → In i (slots T) → StoredF get T
      later empty y m = absurd m
      later (slot j B T) y m = y

  last_stored : ((i c d : ℕ) → FirstChild get n i c → FirstChild get n i d → c ≡ d) → LastTrue get n
      → (v : Link) (o : Orientation) (F : Forest) → Rep get n none v o F → StoredF get F
  last_stored one t v o empty r = tt
  last_stored one t v o (slot a C S) r = go S r (last_stored one t (to a) o S r.2)
    where
      go : (T : Forest) → Rep get n none v o (slot a C T) → StoredF get T → AtLast T (StoredAt get a C) (StoredF get T)
      go empty x y =
          λ k. rw k at (table_slot_place get n one none v o a C empty x (get a).rect
          (t a (x.0.below, shape_live (get a).kind C x.0.shape) x.0.parent x.0.next k))
      go (slot j B T) x y = y

module _ (w fs : List ℕ) (root : ℕ) where
  -- A forest of all live slots that stands from root on is what the table is.
  represented : (F : Forest) → head F ≡ to root → Rep (seen w) (length fs) none none (seen w root).orientation F → size F ≡ live_slots w (length fs)
      → Represents (seen w) (length fs) root F
  unfolding live_slots
  represented F h R z =
      record {
        from_root = h;
        along = R;
        all = λ i lv. pigeon_all (λ j. in_use (seen w j).kind) (length fs) (slots F)
            (rep_distinct (seen w) (length fs) none none (seen w root).orientation F R 0 refl)
            (λ a m. in_live (seen w) (length fs) none none (seen w root).orientation F R a m)
            (omega (arith, size_slots F)) i lv.0 lv.1;
      }

  -- The answer p for the chain that starts at root, with as many slots to spend as are live.
  module _ {p : Placed} (c : Chained w fs root none none (seen w root).orientation (live_slots w (length fs)) p) where
    -- Where it ended with nothing left, rule 3 holds.
    pub walk_linked : p.ended ≡ true → p.left ≡ 0 → Linked (seen w) (length fs) root
    walk_linked e z =
        let g = c.ended e in
        linked (seen w) (length fs) root g.0 (represented g.0 g.1 g.2.1 (omega (arith, g.3)))

    module _ (R : FirstsRight w fs) (K : Linked (seen w) (length fs) root) where
      right : (i c : ℕ) → Live (seen w) (length fs) i → (seen w i).kind ≡ Container → FirstChild (seen w) (length fs) i c → to (get_or fs i 0) ≡ to c
      right i c l k f = ap to (R i c l k f)

      -- Where rule 3 holds, the live slots are a forest that stands from root on.
      whole : (F : Forest) × (head F ≡ to root) × Standing w fs none none (seen w root).orientation F × (size F ≡ live_slots w (length fs))
      unfolding kids_of next_of live kids_at next_at live_slots
      whole =
          let g = linked_follows (seen w) (length fs) root (λ i. to (get_or fs i 0)) K.near right K in
          let r = follows_represents (seen w) (length fs) root (λ i. to (get_or fs i 0)) K.near right g.0 g.1 g.2 g.3 in
          (g.0, g.1, (g.2, r.along), g.3)

      -- It ended with nothing left.
      pub linked_walk : (p.ended ≡ true) × (p.left ≡ 0)
      linked_walk =
          let g = whole in
          let s = standing_ended c g.0 g.1 g.2 (omega (arith, g.3)) in
          (s.0, omega (arith, s.1, g.3))

      -- Where it fits, the top chain has the place p .at.
      pub walk_placed : p.fits ≡ true → PlaceChain (seen w) (length fs) root p.at
      walk_placed e =
          let g = whole in
          place_table (seen w) (length fs) none none (seen w root).orientation g.0 g.2.1 root g.1 p.at
          (fits_placed c g.0 g.1 g.2 (omega (arith, g.3)) e)

      -- Where the top chain has a place, it fits, and p.at is that place.
      pub placed_walk : (r : Rectangle) → PlaceChain (seen w) (length fs) root r → (p.fits ≡ true) × (p.at ≡ r)
      placed_walk q h =
          let g = whole in
          placed_fits c g.0 g.1 g.2 (omega (arith, g.3)) q
          (table_place (seen w) (length fs) K.near.one_child none none (seen w root).orientation g.0 g.2.1 root g.1 q h)

      -- Where it fits, its word on the last slot is rule 7.
      pub walk_stored : p.fits ≡ true → Says p.stored (LastTrue (seen w) (length fs))
      walk_stored e =
          let g = whole in
          let r = represented g.0 g.1 g.2.1 g.3 in
          says_as (fits_stored c g.0 g.1 g.2 (omega (arith, g.3)) e) (
            λ s i lv. stored_last (seen w) (length fs) none (seen w root).orientation g.0 g.2.1 s i (r.all i lv),
            λ t. last_stored (seen w) (length fs) K.near.one_child t none (seen w root).orientation g.0 g.2.1,
          )
