-- What the rules speak of: following links, first children, and places.
-- Assumes nothing.
use Rattle.std.specs.Prelude.{◌≡◌, ◌⊎◌, ℕ, ◌<◌}
use Rattle.geometry.specs.declared.Orientation.{Orientation}
use Rattle.geometry.specs.declared.Orientation.TheVariants.{Vertical, Horizontal}
use Rattle.geometry.specs.declared.Rectangle.{Rectangle}
use Rattle.slots.specs.declared.NodeKind.{NodeKind}
use Rattle.slots.specs.declared.NodeKind.TheVariants.{Container, Alloc, Free, Unused}
use Rattle.sound.specs.View.{Link, none, to, Seen, Live}

-- Following f from a link ends: it comes to none.
pub data Ends (f : ℕ → Link) : Link → Type 0 where
  arrived : Ends f none
  onward : {i : ℕ} → Ends f (f i) → Ends f (to i)

-- Following f from a link visits slot a.
pub data Visits (f : ℕ → Link) (a : ℕ) : Link → Type 0 where
  it : Visits f a (to a)
  later : {i : ℕ} → Visits f a (f i) → Visits f a (to i)

-- c is a child of i without prev. (A child is live: an Unused slot's parent means nothing.)
pub record FirstChild (get : ℕ → Seen) (n i c : ℕ) : Type 0 where
  pub live : Live get n c
  pub parent : (get c).parent ≡ to i
  pub prev : (get c).prev ≡ none

-- An Alloc or Free slot.
abbrev pub Leaf : NodeKind → Type 0
Leaf k = (k ≡ Alloc) ⊎ (k ≡ Free)

-- A rectangle that is not empty.
abbrev pub NotEmpty : Rectangle → Type 0
NotEmpty r = (r.x0 < r.x1) × (r.y0 < r.y1)

-- s adjoins r along an orientation, with equal span across: Vertical runs down y, Horizontal along x.
abbrev pub Adjoin : Orientation → Rectangle → Rectangle → Type 0
Adjoin Vertical r s = (r.y1 ≡ s.y0) × (r.x0 ≡ s.x0) × (r.x1 ≡ s.x1)
Adjoin Horizontal r s = (r.x1 ≡ s.x0) × (r.y0 ≡ s.y0) × (r.y1 ≡ s.y1)

-- The join of two that adjoin.
abbrev pub join : Rectangle → Rectangle → Rectangle
join r s = record { x0 = r.x0; y0 = r.y0; x1 = s.x1; y1 = s.y1 }

-- The place of a slot, and of the chain that starts at a slot. An Alloc or Free slot's place is its rectangle, never
-- empty. A Container's place is the join of its chain of children, and members adjoin in link order.
mutual
  pub data PlaceSlot (get : ℕ → Seen) (n : ℕ) : ℕ → Rectangle → Type 0 where
    own : {i : ℕ} → Leaf (get i).kind → NotEmpty (get i).rect → PlaceSlot get n i (get i).rect
    children : {i c : ℕ} {r : Rectangle} → (get i).kind ≡ Container → FirstChild get n i c → PlaceChain get n c r → PlaceSlot get n i r

  pub data PlaceChain (get : ℕ → Seen) (n : ℕ) : ℕ → Rectangle → Type 0 where
    last : {i : ℕ} {r : Rectangle} → (get i).next ≡ none → PlaceSlot get n i r → PlaceChain get n i r
    more : {i j : ℕ} {r s : Rectangle} → (get i).next ≡ to j → PlaceSlot get n i r → PlaceChain get n j s → Adjoin (get i).orientation r s → PlaceChain get n i (join r s)
