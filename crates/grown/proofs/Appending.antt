-- A new Free slot after the last slot of the top chain.
-- Assumes nothing.
use Rattle.std.specs.Prelude.{ℕ, ◌≤◌, ◌≡◌, refl, true, false, List, [], ◌∷◌, length}
use Rattle.std.proofs.Common.{sym, ◌∙◌, ap, inl, inr, ⊎_elim, arith}
use Rattle.std.proofs.lemmas.Bool.{false≢true}
use Rattle.std.proofs.Math.Decide.{ℕ_discrete}
use Rattle.geometry.specs.declared.Orientation.{Orientation}
use Rattle.geometry.specs.declared.Rectangle.{Rectangle}
use Rattle.slots.specs.declared.AllocIndex.{AllocIndex}
use Rattle.slots.specs.declared.NodeKind.TheVariants.{Free}
use Rattle.table.specs.Table.{HasSlot}
use Rattle.stores.specs.Stores.{stored, toNext, to_node}
use Rattle.stores.proofs.StoreLaws.{length_stored, has_stored}
use Rattle.steps.specs.Spares.{Fresh, new_node}
use Rattle.steps.specs.State.{State, lists_of}
use Rattle.steps.specs.declared.Head.{Head}
use Rattle.sound.specs.View.{none, link_of, Seen, seen, Live}
use Rattle.sound.specs.Rules.{NotEmpty, Adjoin, join}
use Rattle.sound.specs.ViewLaws.{no_link}
use Rattle.forest.specs.Pigeon.{In}
use Rattle.changes.specs.Stretches.{Grown}
use Rattle.changes.specs.Grows.{Append, append_grows}
use Rattle.changes.specs.TidyGrows.{append_merged}
use Rattle.lent.specs.Lent.{LentOf}
use Rattle.granted.specs.NewSlots.{Taking, start_taking, slot_taken, new_has_slot}
use Rattle.granted.specs.SoundFacts.{setup_at, lent_few, lent_slots, lent_room}
use Rattle.granted.specs.Stocked.{Stocked, listed_stocked, push_stocks}
use Rattle.granted.specs.Carved.{piece}
use Rattle.granted.specs.Terms.{spare_at}
use Rattle.granted.specs.Writes.{seen_same, seen_other, slot_link}
use Rattle.grants.specs.Grants.{with_lists}
use Rattle.entries.specs.Entries.{entered}
use Rattle.grows.specs.Grows.{with_root, appended_to, tail_node}
use Rattle.grown.specs.Fills.{Fills, Carries, Lone, Roots}
use Rattle.grown.specs.Changed.{Change}
use Rattle.grown.proofs.Changed.{change_fills, change_carries}
use Rattle.grown.specs.Restock.{more_stocks}
use Rattle.grown.specs.Appending.{linked_after}

pub length_linked : (w : List ℕ) (i f : AllocIndex) (o : Orientation) (t : Rectangle) → length (linked_after w i f o t) ≡ length w
length_linked w i f o t = simp length_stored

-- The two stores.
pub append_writes : (w : List ℕ) → length w ≤ 32768 → (i f : AllocIndex) (t : Rectangle) → HasSlot w i → HasSlot w f → (f.0 ≡ i.0 → ⊥)
    → Append (seen w) (seen (linked_after w i f (seen w i.0).orientation t)) i.0 f.0 t
unfolding seen link_of
append_writes w few i f t hi hf n =
    let u = stored w i (toNext f) in
    let x = to_node (tail_node i (seen w i.0).orientation t) in
    record {
      chosen = seen_other u f x i.0 (λ e. n (sym e)) ∙ (seen_same w i (toNext f) hi ∙ rw (slot_link w few f hf));
      new = seen_same u f x (has_stored w i f (toNext f) hf) ∙ rw (slot_link w few i hi);
      other = λ j m. seen_other u f x j (λ e. m (inr (inl e))) ∙ seen_other w i (toNext f) j (λ e. m (inl e));
    }

module _ (s : State) (all : Rectangle) (L : LentOf s) (S : Fills s all) (i : AllocIndex) (t : Rectangle)
    (lv : Live (seen s.words) s.head.count i.0) (solid : (seen s.words i.0).kind ≡ Free → ⊥)
    (p : (seen s.words i.0).parent ≡ none) (x : (seen s.words i.0).next ≡ none)
    (some : NotEmpty t) (ad : Adjoin (seen s.words i.0).orientation (seen s.words i.0).rect t) (spare : 1 ≤ spare_at s)
    (f : Fresh) (fresh : f ≡ new_node s.words s.generations s.head) where
  abbrev o : Orientation
  o = (seen s.words i.0).orientation

  abbrev w' : List ℕ
  w' = linked_after s.words i f.taken o t

  -- The new slot,
  T : Taking s.words s.generations s.head (f.taken.0 ∷ []) f.generations f.head
  T = slot_taken L.few (start_taking s.words s.generations s.head S.rule2 S.rule1.fits) f fresh (omega arith)

  apart : f.taken.0 ≡ i.0 → ⊥
  apart e = T.taken.idle i.0 (inl (sym e)) lv

  -- the stores,
  writes : Append (seen s.words) (seen w') i.0 f.taken.0 t
  writes =
      append_writes s.words (lent_few s L) i f.taken t (let e = L.eight in let k = S.rule1.fits in let z = lv.0 in omega arith)
      (new_has_slot L.few T (lent_slots s L) f.taken.0 (inl refl)) apart

  -- which leave every other slot its kind and rectangle,
  was : (j : ℕ) → (In j (f.taken.0 ∷ []) → ⊥) → ((seen w' j).kind ≡ (seen s.words j).kind) × ((seen w' j).rect ≡ (seen s.words j).rect)
  was j m = go (ℕ_discrete j i.0)
    where
      go : Dec (j ≡ i.0) → ((seen w' j).kind ≡ (seen s.words j).kind) × ((seen w' j).rect ≡ (seen s.words j).rect)
      go (yes e) = rw (e, writes.chosen) (refl, refl)
      go (no e) = rw (writes.other j (⊎_elim e m)) (refl, refl)

  -- where the top chain is now,
  grows : Adjoin (seen s.words s.head.root.0).orientation all t × Grown (seen w') f.head.count s.head.root.0 (join all t)
  grows =
      append_grows (seen s.words) (seen w') s.head.count s.head.root.0 S.rule3 all S.rule5
      f.head.count i.0 f.taken.0 t T.taken writes S.rule7 lv p x some ad

  -- what changes,
  changes : Change s.words w' f.head.count s.head.root.0 (f.taken.0 ∷ []) (join all t)
  changes = record {
    grown = grows.1;
    merged = append_merged (seen s.words) (seen w') s.head.count f.head.count s.head.root.0 i.0 f.taken.0 t S.rule3 T.taken writes lv x solid S.rule4;
    words = length_linked s.words i f.taken o t;
    new_kind = λ j m. inr (⊎_elim {C = (seen w' j).kind ≡ Free} (λ e. rw e (ap (λ (z : Seen). z.kind) writes.new)) (λ z. absurd z) m);
    kind = λ j m. (was j m).0;
    next = λ j d m. ap (λ (z : Seen). z.next) (writes.other j (⊎_elim (λ e. false≢true (sym d.1 ∙ rw e lv.1)) m));
    rect = λ j m a. (was j m).1;
    wider = λ j m a. rw (was j m).1 (omega arith, omega arith);
  }

  -- and the new entry.
  entry_new : Stocked w' f.head.count (setup_at s) (lists_of s) (entered w' (setup_at s) f.taken t (lists_of s)) []
  entry_new =
      let len = length_linked s.words i f.taken o t in
      push_stocks w' f.head.count (setup_at s) (lists_of s) (rw len (let k = T.fits in omega (arith, lent_slots s L))) (rw len (lent_few s L)) (λ b. rw len (lent_room s L b))
      (piece f.taken.0 t)
      (more_stocks (f.taken.0 ∷ []) (listed_stocked S.rule1 S.rule6) T.taken.grow (λ j b k m. (T.taken.counted j b m, sym (was j m).0 ∙ k, (was j m).1)))
      (T.taken.below f.taken.0 (inl refl)) (ap (λ (z : Seen). z.rect) writes.new)

  appends : Adjoin (seen s.words s.head.root.0).orientation all t
      × Fills (with_lists f.head w' f.generations (entered w' (setup_at s) f.taken t (lists_of s))) (join all t)
      × Carries s (with_lists f.head w' f.generations (entered w' (setup_at s) f.taken t (lists_of s))) 1
  appends =
      let root : f.head.root ≡ s.head.root = ap (λ (z : Head). z.root) T.head in
      (grows.0, rw root (change_fills L S T s.head.root changes entry_new), rw root (change_carries L S T s.head.root changes entry_new))

  roots : (Lone s → ⊥) → Roots s (with_lists f.head w' f.generations (entered w' (setup_at s) f.taken t (lists_of s)))
  roots lone = let root : f.head.root ≡ s.head.root = ap (λ (z : Head). z.root) T.head in rw root (go (ℕ_discrete s.head.root.0 i.0))
    where
      go : Dec (s.head.root.0 ≡ i.0) → Roots s (with_lists (with_root f.head s.head.root) w' f.generations (entered w' (setup_at s) f.taken t (lists_of s)))
      go (yes e) = record {
        orientation = rw (e, writes.chosen) refl;
        lone = λ z. no_link {i = f.taken.0} (sym z.1 ∙ rw (e, writes.chosen) refl);
      }
      go (no e) =
          let same = writes.other s.head.root.0 (⊎_elim e (λ m. T.taken.idle s.head.root.0 m S.rule3.near.root_live)) in
          record { orientation = rw same refl; lone = λ z. lone (rw same at z.0, rw same at z.1) }

-- AN APPEND after the last slot of the top chain keeps every rule.
pub append_steps : (s : State) (all : Rectangle) → LentOf s → Fills s all → (i : AllocIndex) (t : Rectangle) → Live (seen s.words) s.head.count i.0
    → ((seen s.words i.0).kind ≡ Free → ⊥) → (seen s.words i.0).parent ≡ none → (seen s.words i.0).next ≡ none
    → NotEmpty t → Adjoin (seen s.words i.0).orientation (seen s.words i.0).rect t → 1 ≤ spare_at s → (Lone s → ⊥)
    → Adjoin (seen s.words s.head.root.0).orientation all t × Fills (appended_to s i (seen s.words i.0).orientation t) (join all t)
    × Carries s (appended_to s i (seen s.words i.0).orientation t) 1 × Roots s (appended_to s i (seen s.words i.0).orientation t)
unfolding appended_to
append_steps s all L S i t lv solid p x some ad spare lone =
    let a = appends s all L S i t lv solid p x some ad spare _ refl in
    (a.0, a.1, a.2, roots s all L S i t lv solid p x some ad spare _ refl lone)
