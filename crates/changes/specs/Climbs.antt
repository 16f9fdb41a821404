-- Rule 4 and deallocate's climb: all along it the rule holds but at the slot that the climb stands at, and where that slot has
-- no Free neighbour, and a sibling or no parent, it holds there too.
-- Assumes nothing.
use Rattle.std.specs.Prelude.{ℕ, ◌≡◌, ◌⊎◌}
use Rattle.std.proofs.Common.{sym, ◌∙◌, ap, ⊎_elim, arith}
use Rattle.std.proofs.Math.Decide.{ℕ_discrete}
use Rattle.slots.specs.declared.NodeKind.{NodeKind}
use Rattle.slots.specs.declared.NodeKind.TheVariants.{Free, Unused}
use Rattle.sound.specs.View.{none, to, Seen, Live}
use Rattle.sound.specs.Rules.{it, later}
use Rattle.sound.specs.Sound.{Linked, Merged}
use Rattle.forest.specs.Spare.{chain_visits_once}
use Rattle.changes.specs.Merges.{Rekind, Absorb, GiveUp}
use Rattle.changes.specs.Tidy.{Alike, same_alike, elsewhere_alike}

-- Rule 4 but at slot x: of no pair with x, and not of x alone.
pub record MergedBut (get : ℕ → Seen) (n x : ℕ) : Type 0 where
  pub apart : (i j : ℕ) → Live get n i → (i ≡ x → ⊥) → (j ≡ x → ⊥) → (get i).next ≡ to j → (get i).kind ≡ Free → (get j).kind ≡ Free → ⊥
  pub sibling : (i j : ℕ) → Live get n i → (i ≡ x → ⊥) → (get i).kind ≡ Free → (get i).parent ≡ to j → (get i).next ≡ none → (get i).prev ≡ none → ⊥

-- A slot out of use is not Free.
unused_free : {k : NodeKind} → k ≡ Unused → k ≡ Free → ⊥
unused_free e f = let z : ◌≡◌ {A = ℕ} 0 1 = cc in omega arith

-- One step of the climb, from x to y: of the slots but y, those that are Free now are as they were, and none of them is x.
step_but : (get get' : ℕ → Seen) (n x y : ℕ) → ((j : ℕ) → (j ≡ y → ⊥) → (get' j).kind ≡ Free → (j ≡ x → ⊥) × Alike (get j) (get' j))
    → MergedBut get n x → MergedBut get' n y
step_but get get' n x y h M = record {
  apart = λ i j l a b nx f g.
      let u = h i a f in
      let w = h j b g in
      M.apart i j (l.0, rw (← u.1.kind) l.1) u.0 w.0 (sym u.1.next ∙ nx) (sym u.1.kind ∙ f) (sym w.1.kind ∙ g);
  sibling = λ i j l a f p nx v.
      let u = h i a f in
      M.sibling i j (l.0, rw (← u.1.kind) l.1) u.0 (sym u.1.kind ∙ f) (sym u.1.parent ∙ p) (sym u.1.next ∙ nx) (u.1.prev v);
}

-- A slot that gets another kind starts the climb,
pub rekind_merged : (get get' : ℕ → Seen) (n i : ℕ) (k : NodeKind) → Rekind get get' i k → Merged get n → MergedBut get' n i
rekind_merged get get' n i k op M =
    step_but get get' n i i (λ j a f. (a, same_alike (op.other j (⊎_elim a (λ m. m)))))
    (record { apart = λ a b l x y. M.apart a b l; sibling = λ a b l x. M.sibling a b l })

-- absorbing goes on from the one or the other to the slot that absorbs,
pub absorb_merged : (get get' : ℕ → Seen) (n i j x : ℕ) → Absorb get get' i j → (x ≡ i) ⊎ (x ≡ j) → MergedBut get n x → MergedBut get' n i
absorb_merged get get' n i j x op at M = step_but get get' n x i go M
  where
    go : (u : ℕ) → (u ≡ i → ⊥) → (get' u).kind ≡ Free → (u ≡ x → ⊥) × Alike (get u) (get' u)
    go u a f =
        let b : u ≡ j → ⊥ = λ e. unused_free op.gone (rw e at f) in
        (λ e. ⊎_elim (λ q. a (e ∙ q)) (λ q. b (e ∙ q)) at, elsewhere_alike op.rest u (⊎_elim a (⊎_elim b (λ m. m))))

-- and giving up goes on from the child to its parent.
pub give_up_merged : (get get' : ℕ → Seen) (n i c : ℕ) → GiveUp get get' i c → MergedBut get n c → MergedBut get' n i
give_up_merged get get' n i c op M = step_but get get' n c i go M
  where
    go : (u : ℕ) → (u ≡ i → ⊥) → (get' u).kind ≡ Free → (u ≡ c → ⊥) × Alike (get u) (get' u)
    go u a f =
        let b : u ≡ c → ⊥ = λ e. unused_free op.gone (rw e at f) in
        (b, same_alike (op.other u (⊎_elim a (⊎_elim b (λ m. m)))))

-- A slot whose next and prev are not Free.
pub record Alone (get : ℕ → Seen) (x : ℕ) : Type 0 where
  pub next : (j : ℕ) → (get x).next ≡ to j → (get j).kind ≡ Free → ⊥
  pub prev : (j : ℕ) → (get x).prev ≡ to j → (get j).kind ≡ Free → ⊥

-- The climb ends at a slot without Free neighbours that has a sibling, or no parent.
pub climb_merged : (get : ℕ → Seen) (n root x : ℕ) → Linked get n root → MergedBut get n x → Alone get x
    → ((p : ℕ) → (get x).parent ≡ to p → (get x).next ≡ none → (get x).prev ≡ none → ⊥) → Merged get n
climb_merged get n root x L M a h = record { apart = apart; sibling = sibling }
  where
    apart : (i j : ℕ) → Live get n i → (get i).next ≡ to j → (get i).kind ≡ Free → (get j).kind ≡ Free → ⊥
    apart i j l e f g = go (ℕ_discrete i x) (ℕ_discrete j x)
      where
        go : Dec (i ≡ x) → Dec (j ≡ x) → ⊥
        go (yes p) d = a.next j (rw p at e) g
        go (no p) (yes q) = a.prev i (rw q at (L.near.next_prev i j l e)) f
        go (no p) (no q) = M.apart i j l p q e f g

    sibling : (i j : ℕ) → Live get n i → (get i).kind ≡ Free → (get i).parent ≡ to j → (get i).next ≡ none → (get i).prev ≡ none → ⊥
    sibling i j l f p e v = go (ℕ_discrete i x)
      where
        go : Dec (i ≡ x) → ⊥
        go (yes q) = h j (rw q at p) (rw q at e) (rw q at v)
        go (no q) = M.sibling i j l q f p e v

-- NEIGHBOURS. No slot comes again along next,
module _ (get : ℕ → Seen) (n root : ℕ) (L : Linked get n root) where
  pub next_once : (i j : ℕ) → Live get n i → (get i).next ≡ to j → j ≡ i → ⊥
  next_once i j l e q = chain_visits_once (L.nexts_end i l) i it (rw (e, q) it)

  pub next_twice : (i j k : ℕ) → Live get n i → (get i).next ≡ to j → (get j).next ≡ to k → k ≡ i → ⊥
  next_twice i j k l e f q = chain_visits_once (L.nexts_end i l) i it (rw e (later {i = j} (rw (f, q) it)))

  module _ (x : ℕ) (lv : Live get n x) (M : MergedBut get n x) where
    -- so the slot after a Free next is not Free,
    pub beyond_next : (j k : ℕ) → (get x).next ≡ to j → (get j).kind ≡ Free → (get j).next ≡ to k → (get k).kind ≡ Free → ⊥
    beyond_next j k e f g = M.apart j k (L.near.next_live x j lv e) (next_once x j lv e) (next_twice x j k lv e g) g f

    -- and neither is the slot before a Free prev.
    pub beyond_prev : (j k : ℕ) → (get x).prev ≡ to j → (get j).kind ≡ Free → (get j).prev ≡ to k → (get k).kind ≡ Free → ⊥
    beyond_prev j k e f g h =
        let lj = L.near.prev_live x j lv e in
        let lk = L.near.prev_live j k lj g in
        let nj = L.near.prev_next x j lv e in
        let nk = L.near.prev_next j k lj g in
        M.apart k j lk (λ q. next_twice k j x lk nk nj (sym q)) (λ q. next_once j x lj nj (sym q)) nk h f

  module _ (get' : ℕ → Seen) (i j : ℕ) (lv : Live get n i) (op : Absorb get get' i j) where
    -- Where the slot after the absorbed one is not Free, the next of the one that absorbs is not.
    pub absorb_next : ((k : ℕ) → (get j).next ≡ to k → (get k).kind ≡ Free → ⊥) → (k : ℕ) → (get' i).next ≡ to k → (get' k).kind ≡ Free → ⊥
    absorb_next h k e f =
        let x : (get j).next ≡ to k = sym (ap (λ m. m.next) op.taker) ∙ e in
        h k x (sym (ap (λ m. m.kind) (op.rest.moved k x)) ∙ f)

    -- Its prev is not Free if it was not.
    pub absorb_prev : ((k : ℕ) → (get i).prev ≡ to k → (get k).kind ≡ Free → ⊥) → (k : ℕ) → (get' i).prev ≡ to k → (get' k).kind ≡ Free → ⊥
    absorb_prev h k e f =
        let v : (get i).prev ≡ to k = sym (ap (λ m. m.prev) op.taker) ∙ e in
        let lk = L.near.prev_live i k lv v in
        let a : k ≡ i → ⊥ = λ q. next_once k i lk (L.near.prev_next i k lv v) (sym q) in
        let b : k ≡ j → ⊥ = λ q. unused_free op.gone (rw q at f) in
        h k v (sym (elsewhere_alike op.rest k (⊎_elim a (⊎_elim b (λ m. m)))).kind ∙ f)
