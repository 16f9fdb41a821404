-- Deallocate's steps: a slot gets another kind, a Free slot absorbs its Free next, and a Container takes its only child's
-- rectangle. Each keeps rules 3, 5 and 7.
-- Assumes nothing.
use Rattle.std.specs.Prelude.{ℕ, ◌≡◌, refl, [], ◌∷◌}
use Rattle.std.proofs.Common.{sym, ◌∙◌, ap, inl, inr, ⊎_elim, arith}
use Rattle.std.proofs.lemmas.Bool.{false≢true}
use Rattle.geometry.specs.declared.Orientation.{Orientation}
use Rattle.geometry.specs.declared.Rectangle.{Rectangle}
use Rattle.slots.specs.declared.NodeKind.{NodeKind}
use Rattle.slots.specs.declared.NodeKind.TheVariants.{Container, Alloc, Free, Unused}
use Rattle.sound.specs.View.{Link, none, to, Seen, Live, in_use}
use Rattle.sound.specs.Rules.{Leaf, join, PlaceChain}
use Rattle.sound.specs.Sound.{Linked}
use Rattle.sound.specs.ViewLaws.{to_inj, no_link}
use Rattle.forest.specs.Pigeon.{In}
use Rattle.forest.specs.Forest.{Forest, empty, slot, head, Rep, shape_live}
use Rattle.forest.specs.Place.{PlaceF}
use Rattle.forest.specs.Fill.{join_not_empty}
use Rattle.changes.specs.Swaps.{Elsewhere, none_taken, Swapped, Kept, step_keeps}
use Rattle.changes.specs.Stands.{cell, leaf_stands, leaf_was, leaf_bare, leaf_some, leaf_step_keeps, leaves_adjoin}
use Rattle.changes.specs.Trades.{one_swapped, one_of_two}

-- THE STEPS

-- Slot i gets another kind.
pub record Rekind (get get' : ℕ → Seen) (i : ℕ) (k : NodeKind) : Type 0 where
  pub chosen : get' i ≡ cell (get i).parent (get i).next (get i).prev k (get i).orientation (get i).rect
  pub other : (j : ℕ) → (In j (i ∷ []) → ⊥) → get' j ≡ get j

-- Slot i absorbs its next j: it takes the join of their rectangles and j's next, which gets i for its prev; j goes out of use.
pub record Absorb (get get' : ℕ → Seen) (i j : ℕ) : Type 0 where
  pub taker : get' i ≡ cell (get i).parent (get j).next (get i).prev Free (get i).orientation (join (get i).rect (get j).rect)
  pub gone : (get' j).kind ≡ Unused
  pub rest : Elsewhere get get' (i ∷ j ∷ []) (get j).next (to i)

-- Container i takes the rectangle of its only child c and is Free; c goes out of use.
pub record GiveUp (get get' : ℕ → Seen) (i c : ℕ) : Type 0 where
  pub taker : get' i ≡ cell (get i).parent (get i).next (get i).prev Free (get i).orientation (get c).rect
  pub gone : (get' c).kind ≡ Unused
  pub other : (j : ℕ) → (In j (i ∷ c ∷ []) → ⊥) → get' j ≡ get j

-- WHAT THEY SWAP
module _ (get get' : ℕ → Seen) (n : ℕ) where
  -- An Alloc slot may turn Free, and a Free one Alloc: the forest stays.
  pub rekind_swapped : (i : ℕ) (k : NodeKind) → Rekind get get' i k → Leaf (get i).kind → Leaf k → (S : Forest)
      → Swapped get get' n n (slot i empty S) (slot i empty S)
  rekind_swapped i k op l l' S p v o r D w h =
      let e : get' i ≡ cell p (head S) v k o (get i).rect = rw (← r.0.parent, ← r.0.next, ← r.0.prev, ← r.0.orientation) op.chosen in
      let some = leaf_some (get i).kind (get i).rect h.0 (PlaceF get empty) l h.1 in
      one_swapped get get' n n p v o i (i ∷ []) [] (none_taken get n) empty empty S r D op.other (λ j m. m)
      (get i).rect (leaf_was get i empty (get i).kind refl l) (leaf_stands get' n i p (head S) v k o (get i).rect e r.0.below l' some)
      (λ q. absurd (not_box k l' (sym (ap (λ m. m.kind) e) ∙ q))) (λ j m. m) (λ j m x. m)
    where
      not_box : (k : NodeKind) → Leaf k → k ≡ Container → ⊥
      not_box k (inl e) q = let z : ◌≡◌ {A = ℕ} 0 1 = cc in omega arith
      not_box k (inr e) q = let z : ◌≡◌ {A = ℕ} 0 1 = cc in omega arith

  -- A Free slot may absorb its Free next: the next goes.
  pub absorb_swapped : (i j : ℕ) → Absorb get get' i j → (get i).kind ≡ Free → (get j).kind ≡ Free → (S : Forest)
      → Swapped get get' n n (slot i empty (slot j empty S)) (slot i empty S)
  absorb_swapped i j op k kj S p v o r D w h =
      let l : Leaf (get i).kind = inr k in
      let l' : Leaf (get j).kind = inr kj in
      let ad = leaves_adjoin get i j S w l l' (r.2.0.orientation ∙ sym r.0.orientation) h in
      let some = join_not_empty (get i).orientation (get i).rect (get j).rect ad
      (leaf_some (get i).kind (get i).rect h.0 (PlaceF get empty) l h.1)
      (leaf_some (get j).kind (get j).rect h.2.1.0 (PlaceF get empty) l' h.2.1.1) in
      let e : get' i ≡ cell p (head S) v Free o (join (get i).rect (get j).rect) =
      rw (← r.0.parent, ← r.2.0.next, ← r.0.prev, ← r.0.orientation) op.taker in
      one_of_two get get' n n p v o i j S r D (none_taken get n) op.rest (get i).rect (get j).rect
      (leaf_was get i empty (get i).kind refl l) (leaf_was get j empty (get j).kind refl l')
      (leaf_stands get' n i p (head S) v Free o (join (get i).rect (get j).rect) e r.0.below (inr refl) some)
      (ap (λ m. m.kind) e) op.gone

  -- A Container may take the rectangle of its only child, a Free slot: the child goes.
  pub give_up_swapped : (i c : ℕ) → GiveUp get get' i c → (get i).kind ≡ Container → (get c).kind ≡ Free → (S : Forest)
      → Swapped get get' n n (slot i (slot c empty empty) S) (slot i empty S)
  give_up_swapped i c op box k S p v o r D w h =
      let l : Leaf (get c).kind = inr k in
      let inner : PlaceF get (slot c empty empty) h.0 = rw box at h.1 in
      let some = leaf_some (get c).kind (get c).rect inner.0 (PlaceF get empty) l inner.1 in
      let e : get' i ≡ cell p (head S) v Free o (get c).rect = rw (← r.0.parent, ← r.0.next, ← r.0.prev, ← r.0.orientation) op.taker in
      one_swapped get get' n n p v o i (i ∷ c ∷ []) [] (none_taken get n) (slot c empty empty) empty S r D op.other (λ j m. m)
      (get c).rect (λ y t. let z = rw box at t in z.2 ∙ leaf_was get c empty (get c).kind refl l z.0 z.1)
      (leaf_stands get' n i p (head S) v Free o (get c).rect e r.0.below (inr refl) some)
      (λ t. absurd (let z : ◌≡◌ {A = ℕ} 0 1 = cc (ap (λ m. m.kind) e) in omega arith)) (λ j m. m)
      (λ j m y. absurd (⊎_elim (λ a. false≢true (sym (ap (λ z. in_use (get' z).kind) a ∙ ap in_use op.gone) ∙ y.1)) (λ b. b) m))

-- EACH KEEPS THE RULES
module _ (get get' : ℕ → Seen) (n root : ℕ) (L : Linked get n root) (all : Rectangle) (P : PlaceChain get n root all) where
  -- An Alloc slot that turns Free, or a Free one that turns Alloc, keeps the rules.
  pub rekind_keeps : (i : ℕ) (k : NodeKind) → Rekind get get' i k → Live get n i → Leaf (get i).kind → Leaf k → Kept get get' n n root
  rekind_keeps i k op lv l l' =
      leaf_step_keeps get get' n n root i (omega arith) L all P lv l (λ S. (slot i empty S, rekind_swapped get get' n i k op l l' S))

  -- So does a Free slot that absorbs its Free next,
  pub absorb_keeps : (i j : ℕ) → Absorb get get' i j → Live get n i → (get i).kind ≡ Free → (get i).next ≡ to j → (get j).kind ≡ Free → Kept get get' n n root
  absorb_keeps i j op lv k nx kj = leaf_step_keeps get get' n n root i (omega arith) L all P lv (inr k) go
    where
      go : (S : Forest) → (T' : Forest) × Swapped get get' n n (slot i empty S) T'
      go empty = (empty, λ p v o r D w h. absurd (no_link (sym r.0.next ∙ nx)))
      go (slot x (slot c B U) S) = (
        empty,
        λ p v o r D w h.
            absurd (leaf_bare (get x).kind (slot c B U) (inr (rw (to_inj (sym nx ∙ r.0.next)) at kj)) r.2.0.shape),
      )
      go (slot x empty S) = (
        slot i empty S,
        λ p v o r D w h.
            let q : j ≡ x = to_inj (sym nx ∙ r.0.next) in
            absorb_swapped get get' n i x (rw q at op) k (rw q at kj) S p v o r D w h,
      )

  -- and a Container that takes the rectangle of its only child, a Free slot.
  pub give_up_keeps : (i c : ℕ) → GiveUp get get' i c → Live get n c → (get c).kind ≡ Free
      → (get c).parent ≡ to i → (get c).prev ≡ none → (get c).next ≡ none → Kept get get' n n root
  give_up_keeps i c op lv k pc vc nc = step_keeps get get' n n root i (omega arith) L all P (L.near.parent_live c i lv pc) go
    where
      box : (get i).kind ≡ Container
      box = L.near.parent_kind c i lv pc

      only : (x : ℕ) (B U S : Forest) (p v : Link) (o : Orientation) → Rep get n p v o (slot i (slot x B U) S) → c ≡ x
      only x B U S p v o r =
          let f = r.1.0 in
          L.near.one_child i c x (record { live = lv; parent = pc; prev = vc })
          (record { live = (f.below, shape_live (get x).kind B f.shape); parent = f.parent; prev = f.prev })

      go : (C S : Forest) → (T' : Forest) × Swapped get get' n n (slot i C S) T'
      go empty S = (empty, λ p v o r D w h. absurd (rw box at r.0.shape))
      go (slot x (slot b A U) Y) S = (
        empty,
        λ p v o r D w h.
            absurd (leaf_bare (get x).kind (slot b A U) (inr (rw (only x (slot b A U) Y S p v o r) at k)) r.1.0.shape),
      )
      go (slot x empty (slot b A U)) S = (
        empty,
        λ p v o r D w h.
            absurd (no_link (sym nc ∙ (ap (λ z. (get z).next) (only x empty (slot b A U) S p v o r) ∙ r.1.0.next))),
      )
      go (slot x empty empty) S = (
        slot i empty S,
        λ p v o r D w h.
            let q : c ≡ x = only x empty empty S p v o r in
            give_up_swapped get get' n i x (rw q at op) box (rw q at k) S p v o r D w h,
      )
