-- What the place functions promise: the forest that stands in the tables from a slot on, within the count, and its place.
-- Assumes nothing.
use Rattle.std.specs.Prelude.{◌≡◌, Bool, true, false, List, ℕ, suc, ◌+◌, ◌≤◌, ◌<◌, length, get_or}
use Rattle.geometry.specs.Rectangles.{flip}
use Rattle.geometry.specs.declared.Orientation.{Orientation}
use Rattle.geometry.specs.declared.Rectangle.{Rectangle}
use Rattle.slots.specs.Slots as slots
use Rattle.table.specs.Table.{node_at}
use Rattle.slots.specs.declared.Node.{Node}
use Rattle.slots.specs.declared.NodeKind.TheVariants.{Container}
use Rattle.sound.specs.View.{Link, none, to, Seen, seen, in_use}
use Rattle.forest.specs.Forest.{Forest, empty, slot, head, Rep}
use Rattle.forest.specs.Follows.{Follows, size, down}
use Rattle.forest.specs.Place.{SlotAt, PlaceF}
use Rattle.links.specs.Links.{Table}
use Rattle.links.specs.TestLaws.{Says}
use Rattle.joins.specs.declared.Placed.{Placed}

-- The links that the walk follows: a Container's first child, by the table of first children, and next.
unfoldable pub kids_at : List ℕ → List ℕ → ℕ → Link
kids_at w fs i = down (seen w i).kind (to (get_or fs i 0))

unfoldable pub next_at : List ℕ → ℕ → Link
next_at w i = (seen w i).next

-- What the functions ask: the slot table holds as many slots as the table of first children.
abbrev pub Ready : List ℕ → List ℕ → Type 0
Ready w fs = Table w (length fs)

-- Slot i is one of them, in use, with contents m, and the count has a slot left for it.
pub record Held (w fs : List ℕ) (i : ℕ) (m : Node) (left : ℕ) : Type 0 where
  pub below : i < length fs
  pub is : m ≡ node_at w (slots.slot i)
  pub used : in_use m.kind ≡ true
  pub some : 0 < left

-- What a verdict says: the place where it fits, and that there is none where it doesn't.
abbrev pub Fitting : Bool → (Rectangle → Type 0) → Rectangle → Type 0
Fitting true P r = P r
Fitting false P r = (q : Rectangle) → P q → ⊥

-- The chain F stands in the tables: the links lead from slot to slot of it, and each slot has its parent, prev and orientation.
abbrev pub Standing : List ℕ → List ℕ → Link → Link → Orientation → Forest → Type 0
Standing w fs p v o F = Follows (kids_at w fs) (next_at w) F × Rep (seen w) (length fs) p v o F

-- A slot's stored rectangle is its place, if it is a Container over the chain C.
abbrev pub StoredAt : (ℕ → Seen) → ℕ → Forest → Type 0
StoredAt get i C = (get i).kind ≡ Container → PlaceF get C (get i).rect

-- The same of a chain's last slot.
abbrev pub AtLast : Forest → Type 0 → Type 0 → Type 0
AtLast empty here later = here
AtLast (slot j B T) here later = later

abbrev pub StoredF : (ℕ → Seen) → Forest → Type 0
StoredF get empty = Unit {0}
StoredF get (slot i C S) = AtLast S (StoredAt get i C) (StoredF get S)

-- The chain that starts at slot i, under parent p, after v, along o.
pub record Chained (w fs : List ℕ) (i : ℕ) (p v : Link) (o : Orientation) (left : ℕ) (r : Placed) : Type 0 where
  pub ended : r.ended ≡ true → (F : Forest) × (head F ≡ to i) × Standing w fs p v o F × (size F + r.left ≡ left)
      × Fitting r.fits (PlaceF (seen w) F) r.at × (r.fits ≡ true → Says r.stored (StoredF (seen w) F))
  pub out : r.ended ≡ false → (F : Forest) → head F ≡ to i → Standing w fs p v o F → size F ≤ left → ⊥

-- The chain of children of Container i, which runs along o.
pub record Contained (w fs : List ℕ) (i : ℕ) (o : Orientation) (left : ℕ) (r : Placed) : Type 0 where
  pub ended : r.ended ≡ true → (C : Forest) × (to (get_or fs i 0) ≡ head C) × Standing w fs (to i) none o C × (size C + r.left ≡ left)
      × Fitting r.fits (PlaceF (seen w) C) r.at
  pub out : r.ended ≡ false → (C : Forest) → to (get_or fs i 0) ≡ head C → Standing w fs (to i) none o C → size C ≤ left → ⊥

-- Slot i alone, along o, with what is below it.
pub record Slotted (w fs : List ℕ) (i : ℕ) (o : Orientation) (left : ℕ) (r : Placed) : Type 0 where
  pub ended : r.ended ≡ true → (C : Forest) × (kids_at w fs i ≡ head C) × Standing w fs (to i) none (flip o) C × (suc (size C) + r.left ≡ left)
      × Fitting r.fits (SlotAt (seen w i).kind (seen w i).rect (PlaceF (seen w) C)) r.at
      × (r.fits ≡ true → Says r.stored (StoredAt (seen w) i C))
  pub out : r.ended ≡ false → (C : Forest) → kids_at w fs i ≡ head C → Standing w fs (to i) none (flip o) C → suc (size C) ≤ left → ⊥

-- What is below Container j, along d and within `rest` slots, is what is below Container i, along o and within `left`, with all between.
pub record Lined (w fs : List ℕ) (i : ℕ) (o : Orientation) (left j : ℕ) (d : Orientation) (rest : ℕ) : Type 0 where
  pub below : j < length fs
  pub less : rest ≤ left
  pub same : (r : Placed) → Contained w fs j d rest r → Contained w fs i o left r
