-- How one slot stands in a table, with its place.
-- Assumes nothing.
use Rattle.std.specs.Prelude.{ℕ, ◌≤◌, ◌<◌, ◌≡◌, refl}
use Rattle.std.proofs.Common.{inl, inr}
use Rattle.geometry.specs.Rectangles.{flip}
use Rattle.geometry.specs.declared.Orientation.{Orientation}
use Rattle.geometry.specs.declared.Rectangle.{Rectangle}
use Rattle.slots.specs.declared.NodeKind.{NodeKind}
use Rattle.slots.specs.declared.NodeKind.TheVariants.{Container, Alloc, Free}
use Rattle.sound.specs.View.{Link, none, to, Seen, Live}
use Rattle.sound.specs.Rules.{Leaf, NotEmpty, Adjoin, join, PlaceChain}
use Rattle.sound.specs.Sound.{Linked}
use Rattle.forest.specs.Forest.{Forest, empty, slot, slots, Bare, Shape, Here, Rep}
use Rattle.forest.specs.Place.{SlotAt, Then, PlaceF}
use Rattle.changes.specs.Joins.{adjoins_first}
use Rattle.changes.specs.Swaps.{Swapped, Kept, step_keeps}

-- The contents of a slot.
abbrev pub cell : Link → Link → Link → NodeKind → Orientation → Rectangle → Seen
cell p x v k o r = record { parent = p; next = x; prev = v; kind = k; orientation = o; rect = r }

-- Slot i stands under p, after v, along o and before x, over children C, and has the place q.
pub record Stands (get : ℕ → Seen) (n : ℕ) (p v : Link) (o : Orientation) (i : ℕ) (C : Forest) (x : Link) (q : Rectangle) : Type 0 where
  pub here : Here n (get i) p v o i C x
  pub kids : Rep get n (to i) none (flip o) C
  pub place : SlotAt (get i).kind (get i).rect (PlaceF get C) q

-- An Alloc or Free slot stands where its links say, with its rectangle for its place.
pub leaf_stands : (get : ℕ → Seen) (n i : ℕ) (p x v : Link) (k : NodeKind) (o : Orientation) (q : Rectangle)
    → get i ≡ cell p x v k o q → i < n → Leaf k → NotEmpty q → Stands get n p v o i empty x q
leaf_stands get n i p x v k o q e b (inl l) w = record {
  here = rw (e, l) (record { below = b; parent = refl; prev = refl; orientation = refl; next = refl; shape = tt });
  kids = tt;
  place = rw (e, l) (w, refl);
}
leaf_stands get n i p x v k o q e b (inr l) w = record {
  here = rw (e, l) (record { below = b; parent = refl; prev = refl; orientation = refl; next = refl; shape = tt });
  kids = tt;
  place = rw (e, l) (w, refl);
}

-- A Container over two slots that stand below it and adjoin has their join for its place.
pub box_stands : (get : ℕ → Seen) (n i a b : ℕ) (p x v : Link) (o : Orientation) (w : Rectangle) (A B : Forest) (q t : Rectangle)
    → get i ≡ cell p x v Container o w → i < n
    → Stands get n (to i) none (flip o) a A (to b) q → Stands get n (to i) (to a) (flip o) b B none t → Adjoin (flip o) q t
    → Stands get n p v o i (slot a A (slot b B empty)) x (join q t)
box_stands get n i a b p x v o w A B q t e l s u h = record {
  here = rw e (record { below = l; parent = refl; prev = refl; orientation = refl; next = refl; shape = tt });
  kids = (s.here, s.kids, (u.here, u.kids, tt));
  place = rw e (q, s.place, (t, (t, u.place, refl), rw s.here.orientation h, refl));
}

-- The place that a slot had.
abbrev pub Was : (ℕ → Seen) → ℕ → Forest → Rectangle → Type 0
Was get i C q = (x : Rectangle) → SlotAt (get i).kind (get i).rect (PlaceF get C) x → x ≡ q

-- That of an Alloc or Free slot was its rectangle.
pub leaf_was : (get : ℕ → Seen) (i : ℕ) (C : Forest) (k : NodeKind) → (get i).kind ≡ k → Leaf k → Was get i C (get i).rect
leaf_was get i C k e (inl l) x h = (rw (e, l) at h).1
leaf_was get i C k e (inr l) x h = (rw (e, l) at h).1

-- It has nothing below it,
pub leaf_bare : (k : NodeKind) (C : Forest) → Leaf k → Shape k C → Bare C
leaf_bare k C (inl e) h = rw e at h
leaf_bare k C (inr e) h = rw e at h

-- and is not empty, where it has a place.
pub leaf_some : (k : NodeKind) (mine q : Rectangle) (P : Rectangle → Type 0) → Leaf k → SlotAt k mine P q → NotEmpty mine
leaf_some k mine q P (inl e) h = (rw e at h).0
leaf_some k mine q P (inr e) h = (rw e at h).0

-- A step that swaps the chain that starts at an Alloc or Free slot keeps the rules.
pub leaf_step_keeps : (get get' : ℕ → Seen) (n n' root i : ℕ) → n ≤ n' → Linked get n root → (r : Rectangle) → PlaceChain get n root r → Live get n i
    → Leaf (get i).kind → ((S : Forest) → (T' : Forest) × Swapped get get' n n' (slot i empty S) T') → Kept get get' n n' root
leaf_step_keeps get get' n n' root i grow L all P lv l f = step_keeps get get' n n' root i grow L all P lv go
  where
    go : (C S : Forest) → (T' : Forest) × Swapped get get' n n' (slot i C S) T'
    go empty S = f S
    go (slot c B U) S = (empty, λ p v o r D w h. absurd (leaf_bare (get i).kind (slot c B U) l r.0.shape))

-- Two leaves in a row adjoin, and neither is empty.
pub leaves_adjoin : (get : ℕ → Seen) (i j : ℕ) (S : Forest) (w : Rectangle) → Leaf (get i).kind → Leaf (get j).kind → (get j).orientation ≡ (get i).orientation
    → PlaceF get (slot i empty (slot j empty S)) w → Adjoin (get i).orientation (get i).rect (get j).rect
leaves_adjoin get i j S w l m e h =
    let s = h.2 in
    let a : Adjoin (get i).orientation (get i).rect s.0 = rw (leaf_was get i empty (get i).kind refl l h.0 h.1) at s.2 in
    go S s.0 (rw (e, leaf_was get j empty (get j).kind refl m s.1.0 s.1.1) at s.1.2) a
  where
    go : (U : Forest) (y : Rectangle) → Then U (get i).orientation (get j).rect (PlaceF get U) y → Adjoin (get i).orientation (get i).rect y
        → Adjoin (get i).orientation (get i).rect (get j).rect
    go empty y t a = rw t at a
    go (slot k B U) y t a = adjoins_first (get i).orientation (get i).rect (get j).rect t.0 (rw t.3 at a) t.2
