-- New slots, taken one after another while the slot table is not yet written: the spare chain without them, and how many are left.
-- Assumes nothing.
use Prim.Native.Nat.{ℕ, zero, suc, ◌+◌, ◌-◌, ◌*◌, ◌≤◌, ◌<◌}
use Rattle.std.specs.Prelude.{◌≡◌, refl, Bool, true, false, List, [], ◌∷◌, ltb, length, get_or, set}
use Rattle.std.proofs.Common.{sym, ◌∙◌, inl, inr, arith, ltb-true, ltb-false}
use Rattle.std.proofs.Math.Path.{ap}
use Rattle.std.proofs.Math.Bool.{false≢true}
use Rattle.std.proofs.Math.Logic.{⊎_elim}
use Rattle.std.proofs.Math.ListN.{length-set}
use Rattle.std.proofs.Math.Seq.{get_or-set_other}
use Rattle.geometry.specs.Choice.{pick_elim}
use Rattle.slots.specs.Slots.{slot, is_none}
use Rattle.table.specs.Table.{node_at, HasSlot}
use Rattle.steps.specs.Spares.{stepped, with_spare, with_count, Fresh, new_node, HasSpare, unused_below, spare_slots}
use Rattle.steps.specs.declared.Head.{Head}
use Rattle.sound.specs.View.{Link, none, to, link_of, Seen, seen, in_use, Dead}
use Rattle.sound.specs.Rules.{Ends, arrived, onward, Visits, it, later}
use Rattle.sound.specs.Sound.{SpareChain}
use Rattle.sound.specs.ViewLaws.{to_inj, no_link}
use Rattle.forest.specs.Pigeon.{In, Distinct}
use Rattle.forest.specs.Ends.{EndsIn, in_ends, ends_unique}
use Rattle.forest.specs.Spare.{none_visits, visits_step, chain_visits_once, spare_steps}
use Rattle.links.specs.LinkLaws.{link_none, link_some, link_of_slot}
use Rattle.links.proofs.SpareLaws.{unused_count}
use Rattle.changes.specs.Swaps.{Taken, none_taken}

-- The spare chain without the new slots: it visits each other Unused slot below n, visits nothing else, and ends.
pub record SpareBut (get : ℕ → Seen) (n : ℕ) (spare : Link) (new : List ℕ) : Type 0 where
  pub each : (i : ℕ) → Dead get n i → (In i new → ⊥) → Visits (λ j. (get j).next) i spare
  pub only : (i : ℕ) → Visits (λ j. (get j).next) i spare → Dead get n i × (In i new → ⊥)
  pub ends : Ends (λ j. (get j).next) spare

-- The new slots so far, the latest first. The head and the generations were h and g, and now are h' and g'.
pub record Taking (w g : List ℕ) (h : Head) (new : List ℕ) (g' : List ℕ) (h' : Head) : Type 0 where
  -- None was live, all are different and below n, and n is at most N.
  pub taken : Taken (seen w) h.count h'.count new
  pub distinct : Distinct new
  pub fits : h'.count ≤ length g
  -- Of the head only the first spare slot and the count changed, and only the new slots' generations did.
  pub head : h' ≡ with_count (with_spare h h'.spare) h'.count
  pub bytes : length g' ≡ length g
  pub others : (j : ℕ) → (In j new → ⊥) → get_or g' j 0 ≡ get_or g j 0
  -- The spare chain goes on without them, and they are as many fewer spare slots.
  pub spare : SpareBut (seen w) h'.count (link_of h'.spare) new
  pub left : (k : ℕ) × EndsIn (λ j. (seen w j).next) (link_of h'.spare) k × (length g - h'.count + k + length new ≡ spare_slots w (length g) h.count)

-- At the start none is taken.
pub start_taking : (w g : List ℕ) (h : Head) → SpareChain (seen w) h.count (link_of h.spare) → h.count ≤ length g → Taking w g h [] g h
start_taking w g h S l =
    record {
      taken = none_taken (seen w) h.count;
      distinct = tt;
      fits = l;
      head = refl;
      bytes = refl;
      others = λ j m. refl;
      spare = record { each = λ i d m. S.each i d; only = λ i v. (S.only i v, λ m. m); ends = S.ends };
      left = (unused_below w h.count, rw unused_count at (spare_steps (seen w) h.count (link_of h.spare) S), omega arith);
    }

-- One step onward.
onward_ends : (f : ℕ → Link) (l : Link) (k i : ℕ) → EndsIn f l k → l ≡ to i → (m : ℕ) × EndsIn f (f i) m × (k ≡ suc m)
onward_ends f l zero i e q = absurd (no_link (sym e ∙ q))
onward_ends f l (suc k) i e q = (k, rw (to_inj (sym e.1 ∙ q)) at e.2, refl)

module _ {w g g' : List ℕ} {h h' : Head} {new : List ℕ} (few : length g ≤ 4096) (T : Taking w g h new g' h') where
  -- A first spare slot that is not below n is none.
  no_spare : h'.count ≤ h'.spare.0 → link_of h'.spare ≡ none
  no_spare l = go (is_none h'.spare) refl
    where
      go : (b : Bool) → is_none h'.spare ≡ b → link_of h'.spare ≡ none
      go true e = (link_none h'.spare).0 e
      go false e =
          let q = link_some h'.spare e in
          let d = (T.spare.only h'.spare.0 (rw q it)).0.0 in
          absurd (omega arith)

  -- Where spare slots are left and none is in the chain, n is below N.
  room : length new < spare_slots w (length g) h.count → h'.count ≤ h'.spare.0 → h'.count < length g
  room some l =
      let z = ends_unique (λ j. (seen w j).next) (link_of h'.spare) T.left.0 0 T.left.1 (no_spare l) in
      let e = T.left.2 in
      omega arith

  -- A new slot is a slot of the table.
  pub new_has_slot : length g * 8 ≤ length w → (x : ℕ) → In x new → HasSlot w (slot x)
  new_has_slot slots x m = omega (arith, T.taken.below x m, T.fits)

  -- With a spare slot left, a new slot can be taken.
  pub has_spare : length g * 8 ≤ length w → length new < spare_slots w (length g) h.count → HasSpare w g' h'
  has_spare slots some = record {
    slots = rw T.bytes slots;
    few = rw T.bytes few;
    counted = rw T.bytes T.fits;
    spare = rw T.bytes (room some);
  }

  -- The head of the spare chain is taken.
  from_chain : h'.spare.0 < h'.count
      → Taking w g h (h'.spare.0 ∷ new) (set g' h'.spare.0 (stepped (get_or g' h'.spare.0 0))) (with_spare h' (node_at w h'.spare).next)
  unfolding seen
  from_chain l =
      record {
        taken = record {
          grow = T.taken.grow;
          below = λ j. ⊎_elim {C = j < h'.count} (λ e. rw e l) (T.taken.below j);
          idle = λ j m lv. ⊎_elim (λ e. false≢true (sym dead.0.1 ∙ (rw e at lv.1))) (λ x. T.taken.idle j x lv) m;
          counted = λ j b m. T.taken.counted j b (λ x. m (inr x));
        };
        distinct = (dead.1, T.distinct);
        fits = T.fits;
        head = ap (λ (z : Head). with_spare z (node_at w h'.spare).next) T.head;
        bytes = simp length-set T.bytes;
        others = λ j m. get_or-set_other g' h'.spare.0 j (stepped (get_or g' h'.spare.0 0)) 0 (λ e. m (inl e)) ∙ T.others j (λ x. m (inr x));
        spare = record {
          each = λ i d m. ⊎_elim {C = Visits f i (f s)} (λ e. absurd (m (inl e))) (λ v. v) (visits_step (T.spare.each i d (λ x. m (inr x))) s link);
          only = λ i v. let o = T.spare.only i (rw link (later {i = s} v)) in (o.0, λ m. ⊎_elim (λ e. again (rw e at v)) o.1 m);
          ends = in_ends f (f s) on.0 on.1;
        };
        left = (on.0, on.1, let e = T.left.2 in let q = on.2 in omega arith);
      }
    where
      s : ℕ
      s = h'.spare.0

      f : ℕ → Link
      f j = (seen w j).next

      link : link_of h'.spare ≡ to s
      link = link_of_slot s (omega (arith, T.fits))

      dead : Dead (seen w) h'.count s × (In s new → ⊥)
      dead = T.spare.only s (rw link it)

      again : Visits f s (f s) → ⊥
      again = chain_visits_once T.spare.ends s (rw link it)

      on : (m : ℕ) × EndsIn f (f s) m × (T.left.0 ≡ suc m)
      on = onward_ends f (link_of h'.spare) T.left.0 s T.left.1 link

  -- Slot n is taken.
  from_count : h'.count < length g → Taking w g h (h'.count ∷ new) (set g' h'.count 0) (with_count h' (h'.count + 1))
  from_count l =
      record {
        taken = record {
          grow = let k = T.taken.grow in omega arith;
          below = λ j. ⊎_elim {C = j < h'.count + 1} (λ e. omega arith) (λ x. let k = T.taken.below j x in omega arith);
          idle = λ j m lv. ⊎_elim (λ e. let k = T.taken.grow in let z = lv.0 in omega arith) (λ x. T.taken.idle j x lv) m;
          counted = λ j b m. T.taken.counted j (below_one j b (λ e. m (inl e))) (λ x. m (inr x));
        };
        distinct = (λ m. let k = T.taken.below h'.count m in omega arith, T.distinct);
        fits = omega arith;
        head = ap (λ (z : Head). with_count z (h'.count + 1)) T.head;
        bytes = simp length-set T.bytes;
        others = λ j m. get_or-set_other g' h'.count j 0 0 (λ e. m (inl e)) ∙ T.others j (λ x. m (inr x));
        spare = record {
          each = λ i d m. T.spare.each i (below_one i d.0 (λ e. m (inl e)), d.1) (λ x. m (inr x));
          only = λ i v. let o = T.spare.only i v in let k = o.0.0 in ((omega arith, o.0.1), λ m. ⊎_elim (λ e. omega arith) o.1 m);
          ends = T.spare.ends;
        };
        left = (T.left.0, T.left.1, let e = T.left.2 in omega arith);
      }
    where
      below_one : (j : ℕ) → j < h'.count + 1 → (j ≡ h'.count → ⊥) → j < h'.count
      below_one j b m = omega arith

  -- A NEW SLOT: the head of the spare chain, or else slot n, is one more of the new slots.
  pub slot_taken : (f : Fresh) → f ≡ new_node w g' h' → length new < spare_slots w (length g) h.count
      → Taking w g h (f.taken.0 ∷ new) f.generations f.head
  unfolding new_node
  slot_taken f e some =
      rw e
      (pick_elim (λ (x : Fresh). Taking w g h (x.taken.0 ∷ new) x.generations x.head) (ltb h'.spare.0 h'.count) _ _
      (λ t. from_chain (ltb-true _ _ t)) (λ t. from_count (room some (ltb-false _ _ t))))

-- A chain that two tables agree on visits the same slots when it is followed in either, and ends in both.
module _ (f f' : ℕ → Link) where
  pub there : (a : ℕ) {m : Link} → ((j : ℕ) → Visits f j m → f' j ≡ f j) → Visits f a m → Visits f' a m
  there a h it = it
  there a h (later {i = i} v) = later {i = i} (rw (h i it) (there a (λ j u. h j (later {i = i} u)) v))

  pub back : {m : Link} (a : ℕ) → Ends f m → ((j : ℕ) → Visits f j m → f' j ≡ f j) → Visits f' a m → Visits f a m
  back a arrived h v = absurd (none_visits v refl)
  back a (onward {i = i} e) h v =
      ⊎_elim {C = Visits f a (to i)} (λ q. rw q it) (λ u. later {i = i} (back a e (λ j y. h j (later {i = i} y)) (rw (h i it) at u))) (visits_step v i refl)

  pub ending : {m : Link} → Ends f m → ((j : ℕ) → Visits f j m → f' j ≡ f j) → Ends f' m
  ending arrived h = arrived
  ending (onward {i = i} e) h = onward {i = i} (rw (h i it) (ending e (λ j y. h j (later {i = i} y))))

-- RULE 2 AGAIN. Once the new slots are in use, the rest being in use or Unused as it was, the chain is the spare chain.
module _ (get get' : ℕ → Seen) (n : ℕ) (l : Link) (new : List ℕ) (S : SpareBut get n l new)
    (used : (j : ℕ) → In j new → in_use (get' j).kind ≡ true)
    (same : (j : ℕ) → (In j new → ⊥) → in_use (get' j).kind ≡ in_use (get j).kind)
    (next : (j : ℕ) → Dead get n j → (In j new → ⊥) → (get' j).next ≡ (get j).next) where
  abbrev f : ℕ → Link
  f j = (get j).next

  abbrev f' : ℕ → Link
  f' j = (get' j).next

  agree : (j : ℕ) → Visits f j l → f' j ≡ f j
  agree j v = let o = S.only j v in next j o.0 o.1

  pub spare_again : SpareChain get' n l
  spare_again = record {
    each = λ i d. there f f' i agree (let m = not_new i d in S.each i (d.0, sym (same i m) ∙ d.1) m);
    only = λ i v. let o = S.only i (back f f' i S.ends agree v) in (o.0.0, same i o.1 ∙ o.0.1);
    ends = ending f f' S.ends agree;
  }
    where
      not_new : (i : ℕ) → Dead get' n i → In i new → ⊥
      not_new i d m = false≢true (sym d.1 ∙ used i m)
