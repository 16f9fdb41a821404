-- Three ways to swap: one slot for one, two slots for one, and one for two.
-- Assumes nothing.
use Rattle.std.specs.Prelude.{ℕ, ◌≡◌, refl, true, ◌⊎◌, List, [], ◌∷◌, ◌++◌}
use Rattle.std.proofs.Common.{sym, ◌∙◌, ap, inl, inr, ⊎_elim, arith}
use Rattle.std.proofs.lemmas.Bool.{false≢true}
use Rattle.geometry.specs.declared.Orientation.{Orientation}
use Rattle.geometry.specs.declared.Rectangle.{Rectangle}
use Rattle.slots.specs.declared.NodeKind.TheVariants.{Container, Free, Unused}
use Rattle.sound.specs.View.{Link, none, to, Seen, Live, in_use}
use Rattle.sound.specs.Rules.{Adjoin, join}
use Rattle.sound.specs.ViewLaws.{no_link}
use Rattle.forest.specs.Pigeon.{In, Distinct}
use Rattle.forest.specs.Forest.{Forest, empty, slot, head, slots, Rep, in_right, in_cases, in_children, in_after}
use Rattle.forest.specs.Back.{by_place, in_live, distinct_right, distinct_apart}
use Rattle.forest.specs.Place.{Then, PlaceF}
use Rattle.changes.specs.Gaps.{head_in}
use Rattle.changes.specs.Joins.{join_adjoins, adjoins_join, second_adjoins, adjoins_first}
use Rattle.changes.specs.Frame.{SameBody, place_same, then_more}
use Rattle.changes.specs.Lasts.{LastF, last_same}
use Rattle.changes.specs.Swaps.{Elsewhere, Taken, Carried, moved_carried, same_carried, carried_rep, carried_body, Swap, Fair, swap_others, swap_all}
use Rattle.changes.specs.Stands.{Stands, Was}

module _ (get get' : ℕ → Seen) (n n' : ℕ) (p v : Link) (o : Orientation) (i : ℕ) where
  -- ONE FOR ONE: slot i stands over other children, with the place that it had, and what follows it is unchanged.
  module _ (old new : List ℕ) (W : Taken get n n' new) (C C' S : Forest) (r : Rep get n p v o (slot i C S)) (D : Distinct (slots (slot i C S)))
      (other : (j : ℕ) → (In j (old ++ new) → ⊥) → get' j ≡ get j) (old-in : (j : ℕ) → In j old → (j ≡ i) ⊎ In j (slots C)) where
    elsewhere : Elsewhere get get' (old ++ new) none none
    elsewhere = record { moved = λ j e. absurd (no_link e); other = λ j m e. other j m }

    carried : Carried get get' (to i) S
    carried =
        same_carried get get' n p (to i) o S r.2
        (λ j m. other j (λ w. ⊎_elim
        (λ x. ⊎_elim (λ e. D.0 (in_right (slots C) (slots S) i (rw e at m))) (λ c. distinct_apart (slots C) (slots S) D.1 j c m) (old-in j x))
        (λ x. W.idle j x (in_live get n p (to i) o S r.2 j m)) (in_cases old new j w)))

    body : (j : ℕ) → In j (slots S) → SameBody (get j) (get' j)
    body = carried_body get get' (to i) S (distinct_right (slots C) (slots S) D.1) carried

    -- Links: wherever it has its place,
    pub one_swap : (q : Rectangle) → Stands get' n' p v o i C' (head S) q → ((j : ℕ) → In j new → In j (slots C'))
        → ((j : ℕ) → In j (slots C) → Live get' n' j → In j (slots C')) → Swap get get' n n' p v o (slot i C S) (slot i C' S)
    one_swap q st new_in stays = record {
      starts = refl;
      holds = (st.here, st.kids, carried_rep get get' (to i) n n' W.grow p (to i) o S (distinct_right (slots C) (slots S) D.1) carried r.2);
      others = swap_others old new W elsewhere T T' at_old (λ j e. absurd (no_link e));
      all = swap_all old new W elsewhere T T' at_old (λ j e. absurd (no_link e)) (λ j m. in_children j i C' S (new_in j m))
          (λ j m l. by_place {G = In j (slots T')} j i C S inl (λ c. in_children j i C' S (stays j c l)) (in_after j i C' S) m);
    }
      where
        T : Forest
        T = slot i C S

        T' : Forest
        T' = slot i C' S

        at_old : (j : ℕ) → In j old → In j (slots T)
        at_old j m = ⊎_elim {C = In j (slots T)} inl (in_children j i C S) (old-in j m)

    -- and fairly, where it has the place that it had.
    pub one_fair : (q : Rectangle) → Was get i C q → Stands get' n' p v o i C' (head S) q
        → ((get' i).kind ≡ Container → (get' i).rect ≡ q) → Fair get get' (slot i C S) (slot i C' S)
    one_fair q was st stored = record {
      places = λ w h. (q, st.place, rest w h);
      lasts = last S (last_same get get' S body);
    }
      where
        rest : (w : Rectangle) → PlaceF get (slot i C S) w → Then S (get' i).orientation q (PlaceF get' S) w
        rest w h =
            rw (st.here.orientation, ← r.0.orientation, ← was h.0 h.1)
            (then_more S S refl (get i).orientation h.0 (PlaceF get S) (PlaceF get' S) (place_same get get' S body) w h.2)

        last : (U : Forest) → (LastF get U → LastF get' U) → LastF get (slot i C U) → LastF get' (slot i C' U)
        last empty f h = λ k. rw (stored k) (rw k at st.place)
        last (slot j B X) f h = f h

    -- Both together.
    pub one_swapped : (q : Rectangle) → Was get i C q → Stands get' n' p v o i C' (head S) q
        → ((get' i).kind ≡ Container → (get' i).rect ≡ q) → ((j : ℕ) → In j new → In j (slots C'))
        → ((j : ℕ) → In j (slots C) → Live get' n' j → In j (slots C'))
        → Swap get get' n n' p v o (slot i C S) (slot i C' S) × Fair get get' (slot i C S) (slot i C' S)
    one_swapped q was st stored new_in stays = (one_swap q st new_in stays, one_fair q was st stored)

  -- TWO FOR ONE: where slot i stood alone, it stands before a new Free slot s, and their places make up the place that it had.
  module _ (s : ℕ) (new : List ℕ) (W : Taken get n n' new) (C' S : Forest) (r : Rep get n p v o (slot i empty S)) (D : Distinct (slots (slot i empty S)))
      (E : Elsewhere get get' (i ∷ new) (get i).next (to s)) where
    after_carried : Carried get get' (to s) S
    after_carried =
        moved_carried S E r.0.next
        (λ j m. ⊎_elim (λ e. D.0 (rw e at m)) (λ x. W.idle j x (in_live get n p (to i) o S r.2 j m)))

    -- That is a fair swap.
    pub two_swapped : (q t : Rectangle) → Was get i empty (join q t) → Stands get' n' p v o i C' (to s) q
        → Stands get' n' p (to i) o s empty (head S) t → Adjoin o q t → (get' s).kind ≡ Free
        → ((j : ℕ) → In j new → (j ≡ s) ⊎ In j (slots C'))
        → Swap get get' n n' p v o (slot i empty S) (slot i C' (slot s empty S)) × Fair get get' (slot i empty S) (slot i C' (slot s empty S))
    two_swapped q t was st su ad free new_in = (
      record {
        starts = refl;
        holds = (st.here, st.kids, (su.here, tt, carried_rep get get' (to s) n n' W.grow p (to i) o S D.1 after_carried r.2));
        others = swap_others (i ∷ []) new W E T T' at_old next_in_lem;
        all = swap_all (i ∷ []) new W E T T' at_old next_in_lem at_new (λ j m l. ⊎_elim {C = In j (slots T')} inl after m);
      },
      record {
        places = λ w h. (q, st.place, rw st.here.orientation (rest w S (rw (r.0.orientation, was h.0 h.1) at h.2) (place_same get get' S body)));
        lasts = last S (last_same get get' S body);
      },
    )
      where
        T : Forest
        T = slot i empty S

        T' : Forest
        T' = slot i C' (slot s empty S)

        body : (j : ℕ) → In j (slots S) → SameBody (get j) (get' j)
        body = carried_body get get' (to s) S D.1 after_carried

        at_old : (j : ℕ) → In j (i ∷ []) → In j (slots T)
        at_old j m = ⊎_elim {C = In j (slots T)} inl (λ x. absurd x) m

        next_in_lem : (j : ℕ) → (get i).next ≡ to j → In j (slots T)
        next_in_lem j e = inr (head_in S j (sym r.0.next ∙ e))

        after : {j : ℕ} → In j (slots S) → In j (slots T')
        after {j} m = in_after j i C' (slot s empty S) (inr m)

        at_new : (j : ℕ) → In j new → In j (slots T')
        at_new j m = ⊎_elim {C = In j (slots T')} (λ e. in_after j i C' (slot s empty S) (inl e)) (in_children j i C' (slot s empty S)) (new_in j m)

        rest : (w : Rectangle) (U : Forest) → Then U o (join q t) (PlaceF get U) w → ((x : Rectangle) → PlaceF get U x → PlaceF get' U x)
            → Then (slot s empty U) o q (PlaceF get' (slot s empty U)) w
        rest w empty h f = (t, (t, su.place, refl), ad, h)
        rest w (slot j B X) h f =
            let a = second_adjoins o q t h.0 ad h.2 in
            (join t h.0, (t, su.place, rw su.here.orientation (h.0, f h.0 h.1, a, refl)), adjoins_join o q t h.0 ad a, h.3)

        last : (U : Forest) → (LastF get U → LastF get' U) → LastF get (slot i empty U) → LastF get' (slot s empty U)
        last empty f h = λ k. absurd (let z : ◌≡◌ {A = ℕ} 0 1 = cc in omega arith)
        last (slot j B X) f h = f h

  -- ONE FOR TWO: where leaf i stood before leaf j, which goes out of use, i stands alone with the join of their places.
  module _ (j : ℕ) (S : Forest) (r : Rep get n p v o (slot i empty (slot j empty S))) (D : Distinct (slots (slot i empty (slot j empty S))))
      (W : Taken get n n' []) (E : Elsewhere get get' (i ∷ j ∷ []) (get j).next (to i)) where
    rest_carried : Carried get get' (to i) S
    rest_carried =
        moved_carried S E r.2.0.next
        (λ x m. ⊎_elim (λ e. D.0 (inr (rw e at m))) (⊎_elim (λ e. D.1.0 (rw e at m)) (λ x. x)))

    -- So is that.
    pub one_of_two : (q t : Rectangle) → Was get i empty q → Was get j empty t → Stands get' n' p v o i empty (head S) (join q t)
        → (get' i).kind ≡ Free → (get' j).kind ≡ Unused
        → Swap get get' n n' p v o (slot i empty (slot j empty S)) (slot i empty S) × Fair get get' (slot i empty (slot j empty S)) (slot i empty S)
    one_of_two q t was wasj st free gone = (
      record {
        starts = refl;
        holds = (st.here, tt, carried_rep get get' (to i) n n' W.grow p (to j) o S D.1.1 rest_carried r.2.2);
        others = swap_others (i ∷ j ∷ []) [] W E T T' at_old next_in_lem;
        all = swap_all (i ∷ j ∷ []) [] W E T T' at_old next_in_lem (λ x m. absurd m)
            (λ x m l. ⊎_elim {C = In x (slots T')} inl (⊎_elim {C = In x (slots T')} (λ e. absurd (dead (rw e at l.1))) inr) m);
      },
      record {
        places = λ w h. (join q t, st.place, rest w h);
        lasts = last S (last_same get get' S body);
      },
    )
      where
        T : Forest
        T = slot i empty (slot j empty S)

        T' : Forest
        T' = slot i empty S

        body : (x : ℕ) → In x (slots S) → SameBody (get x) (get' x)
        body = carried_body get get' (to i) S D.1.1 rest_carried

        at_old : (x : ℕ) → In x (i ∷ j ∷ []) → In x (slots T)
        at_old x m = ⊎_elim {C = In x (slots T)} inl (⊎_elim {C = In x (slots T)} (λ e. inr (inl e)) (λ y. absurd y)) m

        next_in_lem : (x : ℕ) → (get j).next ≡ to x → In x (slots T)
        next_in_lem x e = inr (inr (head_in S x (sym r.2.0.next ∙ e)))

        dead : in_use (get' j).kind ≡ true → ⊥
        dead l = false≢true (rw gone at l)

        rest : (w : Rectangle) → PlaceF get T w → Then S (get' i).orientation (join q t) (PlaceF get' S) w
        rest w h =
            let s = h.2 in
            rw st.here.orientation
            (go S s.0 (rw (wasj s.1.0 s.1.1, r.2.0.orientation) at s.1.2) (rw (r.0.orientation, was h.0 h.1) at s.2) (rw (was h.0 h.1) at s.3)
            (place_same get get' S body))
          where
            go : (U : Forest) (y : Rectangle) → Then U o t (PlaceF get U) y → Adjoin o q y → w ≡ join q y
                → ((x : Rectangle) → PlaceF get U x → PlaceF get' U x) → Then U o (join q t) (PlaceF get' U) w
            go empty y u a e f = e ∙ ap (join q) u
            go (slot k B X) y u a e f =
                let b = rw u.3 at a in
                (u.0, f u.0 u.1, join_adjoins o q t u.0 (adjoins_first o q t u.0 b u.2) u.2, e ∙ ap (join q) u.3)

        last : (U : Forest) → (LastF get U → LastF get' U) → LastF get (slot j empty U) → LastF get' (slot i empty U)
        last empty f h = λ k. absurd (let z : ◌≡◌ {A = ℕ} 0 1 = cc in omega arith)
        last (slot x B X) f h = f h
