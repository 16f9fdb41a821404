-- One step of the climb, and what holds where the climb stands.
-- Assumes nothing.
use Rattle.std.specs.Prelude.{ℕ, ◌<◌, ◌≡◌, refl, true, false, ◌⊎◌}
use Rattle.std.proofs.Common.{sym, ◌∙◌, ap, inr, ⊎_elim}
use Rattle.std.proofs.lemmas.Bool.{false≢true}
use Rattle.std.proofs.Math.Decide.{ℕ_discrete}
use Rattle.geometry.specs.declared.Rectangle.{Rectangle}
use Rattle.slots.specs.Slots.{same_kind}
use Rattle.slots.specs.SlotLaws.{same_kind_itself}
use Rattle.slots.specs.declared.NodeKind.{NodeKind}
use Rattle.slots.specs.declared.NodeKind.TheVariants.{Alloc, Free, Unused}
use Rattle.lists.specs.Counts.{count}
use Rattle.lists.specs.CountLaws.{count_one_more}
use Rattle.sound.specs.View.{Link, none, to, Seen, in_use, Live}
use Rattle.sound.specs.Rules.{PlaceChain}
use Rattle.sound.specs.Sound.{SpareChain, Linked, LastTrue}
use Rattle.forest.specs.Tree.{Tree}
use Rattle.changes.specs.Swaps.{with_prev, Kept}
use Rattle.changes.specs.Merges.{Absorb, GiveUp, absorb_keeps, give_up_keeps}
use Rattle.changes.specs.Climbs.{MergedBut, absorb_merged, give_up_merged}
use Rattle.granted.specs.Carved.{same_prev, but_prev}
use Rattle.freed.specs.Marks.{mark_spares}
use Rattle.freed.specs.Settles.{Settles, absorb_settles, give_up_settles}

-- How many slots below n are in use.
abbrev pub in_use_below : (ℕ → Seen) → ℕ → ℕ
in_use_below get n = count (λ j. in_use (get j).kind) n

-- Since slot i was marked Free, in the table `was`, the climb has come to x: every other Free slot was Free with that rectangle, the
-- Alloc slots are the same with their rectangles, and no slot in use has turned.
pub record Since (was get : ℕ → Seen) (i x : ℕ) : Type 0 where
  pub frees : (j : ℕ) → (j ≡ x → ⊥) → (get j).kind ≡ Free → (j ≡ i → ⊥) × ((was j).kind ≡ Free) × ((get j).rect ≡ (was j).rect)
  pub allocs : (j : ℕ) → (was j).kind ≡ Alloc → ((get j).kind ≡ Alloc) × ((get j).rect ≡ (was j).rect)
  pub none_new : (j : ℕ) → (get j).kind ≡ Alloc → (was j).kind ≡ Alloc
  pub turned : (j : ℕ) → in_use (get j).kind ≡ true → (get j).orientation ≡ (was j).orientation

-- Where the climb stands: at a Free slot x, with rules 2, 3, 5 and 7, rule 4 but at x, and a tree that merges to T.
pub record Standing (was get : ℕ → Seen) (n root i x : ℕ) (spare : Link) (all : Rectangle) (T : Tree) : Type 0 where
  pub live : Live get n x
  pub free : (get x).kind ≡ Free
  pub chain : SpareChain get n spare
  pub links : Linked get n root
  pub merged : MergedBut get n x
  pub places : PlaceChain get n root all
  pub lasts : LastTrue get n
  pub since : Since was get i x
  pub tree : Settles get n root T

-- A step from x to y: the Free slot b goes out of use, y is Free now, and any other slot is as it was but perhaps for its prev.
pub record Step (get get' : ℕ → Seen) (n x y b : ℕ) : Type 0 where
  pub from : (x ≡ y) ⊎ (x ≡ b)
  pub old : Live get n b × ((get b).kind ≡ Free)
  pub taker : Live get n y × ((get y).kind ≡ Alloc → ⊥)
  pub free : (get' y).kind ≡ Free
  pub turned : (get' y).orientation ≡ (get y).orientation
  pub gone : (get' b).kind ≡ Unused
  pub others : (j : ℕ) → (j ≡ y → ⊥) → (j ≡ b → ⊥) → get' j ≡ with_prev (get j) (get' j).prev

-- No slot is of two kinds that differ.
pub other_kind : {k a b : NodeKind} → same_kind a b ≡ false → k ≡ a → k ≡ b → ⊥
other_kind {a = a} d e f = false≢true (sym d ∙ (ap (same_kind a) (sym f ∙ e) ∙ same_kind_itself a))

module _ {get get' : ℕ → Seen} {n x y b : ℕ} (s : Step get get' n x y b) where
  -- Fewer slots are in use.
  back_in_use : (j : ℕ) → in_use (get' j).kind ≡ true → in_use (get j).kind ≡ true
  back_in_use j u = go (ℕ_discrete j y) (ℕ_discrete j b)
    where
      go : Dec (j ≡ y) → Dec (j ≡ b) → in_use (get j).kind ≡ true
      go (yes e) d = rw e s.taker.0.1
      go (no e) (yes f) = rw f s.old.0.1
      go (no e) (no f) = ap (λ m. in_use m.kind) (sym (s.others j e f)) ∙ u

  pub step_fewer : in_use_below get' n < in_use_below get n
  step_fewer =
      count_one_more (λ j. in_use (get' j).kind) (λ j. in_use (get j).kind) b n s.old.0.0 back_in_use (ap in_use s.gone) s.old.0.1

  -- RULE 2.
  pub step_spares : (l : Link) → SpareChain get n l → (get' b).next ≡ l → SpareChain get' n (to b)
  step_spares l S on =
      mark_spares get get' n b l S s.old.0 s.gone on (λ j e. same j e (ℕ_discrete j y))
      (λ j d. ap (λ m. m.next) (s.others j (λ e. false≢true (sym d.1 ∙ rw e s.taker.0.1)) (λ e. false≢true (sym d.1 ∙ rw e s.old.0.1))))
    where
      same : (j : ℕ) → (j ≡ b → ⊥) → Dec (j ≡ y) → in_use (get' j).kind ≡ in_use (get j).kind
      same j f (yes e) = rw e (ap in_use s.free ∙ sym s.taker.0.1)
      same j f (no e) = ap (λ m. in_use m.kind) (s.others j e f)

  -- What became of the slots since the climb began.
  pub step_since : {was : ℕ → Seen} {i : ℕ} → Since was get i x → Since was get' i y
  step_since {was} {i} h = record { frees = frees; allocs = allocs; none_new = none_new; turned = turned }
    where
      frees : (j : ℕ) → (j ≡ y → ⊥) → (get' j).kind ≡ Free → (j ≡ i → ⊥) × ((was j).kind ≡ Free) × ((get' j).rect ≡ (was j).rect)
      frees j e f =
          let d : j ≡ b → ⊥ = λ q. other_kind refl s.gone (rw q at f) in
          let o = s.others j e d in
          let z = h.frees j (λ q. ⊎_elim (λ p. e (q ∙ p)) (λ p. d (q ∙ p)) s.from) (sym (ap (λ m. m.kind) o) ∙ f) in
          (z.0, z.1, ap (λ m. m.rect) o ∙ z.2)

      allocs : (j : ℕ) → (was j).kind ≡ Alloc → ((get' j).kind ≡ Alloc) × ((get' j).rect ≡ (was j).rect)
      allocs j a =
          let z = h.allocs j a in
          let o = s.others j (λ q. s.taker.1 (rw q at z.0)) (λ q. other_kind refl s.old.1 (rw q at z.0)) in
          (ap (λ m. m.kind) o ∙ z.0, ap (λ m. m.rect) o ∙ z.1)

      none_new : (j : ℕ) → (get' j).kind ≡ Alloc → (was j).kind ≡ Alloc
      none_new j a =
          let o = s.others j (λ q. other_kind refl s.free (rw q at a)) (λ q. other_kind refl s.gone (rw q at a)) in
          h.none_new j (sym (ap (λ m. m.kind) o) ∙ a)

      turned : (j : ℕ) → in_use (get' j).kind ≡ true → (get' j).orientation ≡ (was j).orientation
      turned j u = go (ℕ_discrete j y)
        where
          go : Dec (j ≡ y) → (get' j).orientation ≡ (was j).orientation
          go (yes e) = rw e (s.turned ∙ h.turned y s.taker.0.1)
          go (no e) =
              let o = s.others j e (λ q. false≢true (sym (ap in_use s.gone) ∙ rw q at u)) in
              ap (λ m. m.orientation) o ∙ h.turned j (back_in_use j u)

module _ {was get get' : ℕ → Seen} {n root i x : ℕ} {spare : Link} {all : Rectangle} {T : Tree} (S : Standing was get n root i x spare all T) where
  -- After a step that keeps the rules the climb stands again.
  stands_again : (y b : ℕ) → Step get get' n x y b → (get' b).next ≡ spare → Kept get get' n n root → MergedBut get' n y → Settles get' n root T
      → Standing was get' n root i y (to b) all T
  stands_again y b s on K M t = record {
    live = (s.taker.0.0, ap in_use s.free);
    free = s.free;
    chain = step_spares s spare S.chain on;
    links = K.links;
    merged = M;
    places = K.places all S.places;
    lasts = K.lasts S.lasts;
    since = step_since s S.since;
    tree = t;
  }

  -- ABSORBING: x is one of two Free neighbours a and b.
  absorb_step : (a b : ℕ) → (x ≡ a) ⊎ (x ≡ b) → Live get n a → (get a).kind ≡ Free → (get a).next ≡ to b → (get b).kind ≡ Free
      → Absorb get get' a b → Step get get' n x a b
  absorb_step a b f la ka e kb op = record {
    from = f;
    old = (S.links.near.next_live a b la e, kb);
    taker = (la, other_kind refl ka);
    free = ap (λ m. m.kind) op.taker;
    turned = ap (λ m. m.orientation) op.taker;
    gone = op.gone;
    others = λ j u v. but_prev op.rest j (⊎_elim u (⊎_elim v (λ m. m)));
  }

  -- GIVING UP: x is the only child of p.
  give_step : (p : ℕ) → (get x).parent ≡ to p → GiveUp get get' p x → Step get get' n x p x
  give_step p e op = record {
    from = inr refl;
    old = (S.live, S.free);
    taker = (S.links.near.parent_live x p S.live e, other_kind refl (S.links.near.parent_kind x p S.live e));
    free = ap (λ m. m.kind) op.taker;
    turned = ap (λ m. m.orientation) op.taker;
    gone = op.gone;
    others = λ j u v. same_prev (op.other j (⊎_elim u (⊎_elim v (λ m. m))));
  }

  pub absorb_stands : (a b : ℕ) → (x ≡ a) ⊎ (x ≡ b) → Live get n a → (get a).kind ≡ Free → (get a).next ≡ to b → (get b).kind ≡ Free
      → Absorb get get' a b → (get' b).next ≡ spare → Standing was get' n root i a (to b) all T × (in_use_below get' n < in_use_below get n)
  absorb_stands a b f la ka e kb op on =
      let s = absorb_step a b f la ka e kb op in (
        stands_again a b s on (absorb_keeps get get' n root S.links all S.places a b op la ka e kb)
            (absorb_merged get get' n a b x op f S.merged)
            (absorb_settles get get' n root all S.places T S.tree.0 S.tree.1 S.tree.2 a b op la ka e kb),
        step_fewer s,
      )

  pub give_stands : (p : ℕ) → (get x).parent ≡ to p → (get x).prev ≡ none → (get x).next ≡ none
      → GiveUp get get' p x → (get' x).next ≡ spare → Standing was get' n root i p (to x) all T × (in_use_below get' n < in_use_below get n)
  give_stands p e v nx op on =
      let s = give_step p e op in (
        stands_again p x s on (give_up_keeps get get' n root S.links all S.places p x op S.live S.free e v nx)
            (give_up_merged get get' n p x op S.merged)
            (give_up_settles get get' n root all S.places T S.tree.0 S.tree.1 S.tree.2 p x S.links op S.live S.free e v nx),
        step_fewer s,
      )
