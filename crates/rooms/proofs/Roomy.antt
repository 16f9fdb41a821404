-- What a sheet has room for, it has room for after a deallocate.
-- Assumes nothing.
use Rattle.std.specs.Prelude.{ℕ, ◌<◌, ◌≡◌, refl, ◌⊎◌, eqb}
use Rattle.std.proofs.Math.Path.{ap}
use Rattle.std.proofs.Common.{inl, inr, ⊎_elim, arith}
use Rattle.geometry.specs.Rectangles.{flip}
use Rattle.geometry.specs.declared.Extent.{Extent}
use Rattle.geometry.specs.declared.Orientation.{Orientation}
use Rattle.geometry.specs.declared.Rectangle.{Rectangle}
use Rattle.slots.specs.declared.NodeKind.{NodeKind}
use Rattle.slots.specs.declared.NodeKind.TheVariants.{Container, Alloc, Free, Unused}
use Rattle.tickets.specs.Tickets.{slot_of}
use Rattle.tickets.specs.declared.AllocId.{AllocId}
use Rattle.steps.specs.State.{State}
use Rattle.lent.specs.Lent.{LentOf}
use Rattle.sound.specs.View.{Link, none, to, Seen, seen, in_use, Live}
use Rattle.sound.specs.Sound.{Sound, sheet_of}
use Rattle.sound.specs.LiveTickets.{LiveTicket}
use Rattle.forest.specs.Pigeon.{In}
use Rattle.forest.specs.Forest.{Forest, empty, slot, slots, Shape, Rep, in_slot}
use Rattle.forest.specs.Bridge.{forest}
use Rattle.forest.specs.Place.{table_place}
use Rattle.forest.specs.Fill.{as_span, place_fits}
use Rattle.forest.specs.Tree.{Tree, before, tree_of}
use Rattle.granted.specs.Terms.{Roomy}
use Rattle.frees.specs.Frees.{released}
use Rattle.freed.specs.Folds.{freeing}
use Rattle.freed.proofs.Many.{alloc_seen}
use Rattle.freed.proofs.Released.{release_frees}
use Rattle.rooms.specs.Rooms.{Takes, Room, freeing_room}

module _ (w h : ℕ) where
  -- ONE SLOT before a chain, over its children: it has room where a Free one takes the size, where the children of a Container have room, or where the chain has.
  here_room : (k : NodeKind) (i : ℕ) (r : Rectangle) (c t : Tree) → k ≡ Free → Takes w h r → Room w h (before k i r c t)
  here_room Container i r c t e z = absurd (let z : ◌≡◌ {A = ℕ} 0 1 = cc in omega arith)
  here_room Alloc i r c t e z = absurd (let z : ◌≡◌ {A = ℕ} 0 1 = cc in omega arith)
  here_room Free i r c t e z = inl z
  here_room Unused i r c t e z = absurd (let z : ◌≡◌ {A = ℕ} 0 1 = cc in omega arith)

  after_room : (k : NodeKind) (i : ℕ) (r : Rectangle) (c t : Tree) → Room w h t → Room w h (before k i r c t)
  after_room Container i r c t z = inr z
  after_room Alloc i r c t z = z
  after_room Free i r c t z = inr z
  after_room Unused i r c t z = z

  room_cases : (k : NodeKind) (i : ℕ) (r : Rectangle) (c t : Tree) → Room w h (before k i r c t) → ((k ≡ Free) × Takes w h r) ⊎ (Room w h c ⊎ Room w h t)
  room_cases Container i r c t z = inr z
  room_cases Alloc i r c t z = inr (inr z)
  room_cases Free i r c t z = ⊎_elim (λ x. inl (refl, x)) (λ x. inr (inr x)) z
  room_cases Unused i r c t z = inr (inr z)

  module _ (get : ℕ → Seen) (n : ℕ) where
    under_room : (k : NodeKind) (C : Forest) (i x : ℕ) (r : Rectangle) (t : Tree) → Shape k C → In x (slots C) → Room w h (tree_of get C)
        → Room w h (before k i r (tree_of get C) t)
    under_room Container C i x r t s m z = inl z
    under_room Alloc empty i x r t s m z = absurd m
    under_room Alloc (slot a B U) i x r t s m z = absurd s
    under_room Free empty i x r t s m z = absurd m
    under_room Free (slot a B U) i x r t s m z = absurd s
    under_room Unused C i x r t s m z = absurd s

    -- A FOREST: its tree has room exactly where a Free slot of it takes the size.
    slot_room : (p v : Link) (o : Orientation) (F : Forest) → Rep get n p v o F → (x : ℕ) → In x (slots F) → (get x).kind ≡ Free → Takes w h (get x).rect
        → Room w h (tree_of get F)
    slot_room p v o empty r x m k z = absurd m
    slot_room p v o (slot a C S) r x m k z =
        ⊎_elim (λ e. here_room (get a).kind a (get a).rect (tree_of get C) (tree_of get S) (rw e at k) (rw e at z))
        (λ y. ⊎_elim (λ u. under_room (get a).kind C a x (get a).rect (tree_of get S) r.0.shape u (slot_room (to a) none (flip o) C r.1 x u k z))
        (λ u. after_room (get a).kind a (get a).rect (tree_of get C) (tree_of get S) (slot_room p (to a) o S r.2 x u k z)) y)
        (in_slot x a C S m)

    room_slot : (p v : Link) (o : Orientation) (F : Forest) → Rep get n p v o F → Room w h (tree_of get F)
        → (x : ℕ) × (x < n) × ((get x).kind ≡ Free) × Takes w h (get x).rect
    room_slot p v o empty r z = absurd z
    room_slot p v o (slot a C S) r z =
        ⊎_elim (λ y. (a, r.0.below, y.0, y.1))
        (λ y. ⊎_elim (λ u. room_slot (to a) none (flip o) C r.1 u) (λ u. room_slot p (to a) o S r.2 u) y)
        (room_cases (get a).kind a (get a).rect (tree_of get C) (tree_of get S) z)

module _ (s : State) (L : LentOf s) (S : Sound s) (i : AllocId) (v : LiveTicket s i) (e : Extent) where
  abbrev get : ℕ → Seen
  get = seen s.words

  abbrev n : ℕ
  n = s.head.count

  abbrev root : ℕ
  root = s.head.root.0

  -- FREEING NEVER HURTS: where a Free slot takes a request, one does after a live ticket is freed.
  pub release_roomy : (x : ℕ) → Roomy s e x → (y : ℕ) × Roomy (released s (slot_of i)) e y
  unfolding seen
  release_roomy x (b, z) =
      let (F, R) = forest get n root S.rule3 in
      let o = (get root).orientation in
      let all = sheet_of s.head.sheet in
      let place = table_place get n S.rule3.near.one_child none none o F R.along root R.from_root all S.rule5 in
      let fits = place_fits get n none none o F R.along _ _ _ _ (rw (as_span o all) at place) in
      let free : (get x).kind ≡ Free = z.free in
      let room = slot_room e.width e.height get n none none o F R.along x (R.all x (b, ap in_use free)) free (z.wide, z.tall) in
      let (G, Q, same) = (release_frees s L S (slot_of i) v.below (alloc_seen v) F R).tree in
      let (y, below, kind, takes) = room_slot e.width e.height (seen (released s (slot_of i)).words) (released s (slot_of i)).head.count none none _ G Q.along
      (rw same (freeing_room e.width e.height (eqb (slot_of i).0) (tree_of get F) o _ _ _ _ fits room)) in
      (y, (below, record { free = kind; wide = takes.0; tall = takes.1 }))
