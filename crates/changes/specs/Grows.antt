-- Grow's steps along the root's orientation: a lone Free root is stretched, or the last slot of the top chain is, if it is
-- Free, or a Free slot is appended after it. Each keeps rules 3 and 7, and the top chain gets its new place.
-- Assumes nothing.
use Rattle.std.specs.Prelude.{ℕ, ◌≡◌, refl, [], ◌∷◌}
use Rattle.std.proofs.Common.{sym, ◌∙◌, ap, inl, inr, ⊎_elim, arith}
use Rattle.geometry.specs.Rectangles.{flip}
use Rattle.geometry.specs.declared.Orientation.{Orientation}
use Rattle.geometry.specs.declared.Rectangle.{Rectangle}
use Rattle.slots.specs.declared.NodeKind.{NodeKind}
use Rattle.slots.specs.declared.NodeKind.TheVariants.{Container, Alloc, Free, Unused}
use Rattle.sound.specs.View.{Link, none, to, Seen, Live}
use Rattle.sound.specs.Rules.{NotEmpty, Adjoin, join, PlaceChain}
use Rattle.sound.specs.Sound.{Linked, LastTrue}
use Rattle.sound.specs.ViewLaws.{to_inj, no_link}
use Rattle.forest.specs.Pigeon.{In}
use Rattle.forest.specs.Forest.{Forest, empty, slot, slots, Rep, Represents, in_left, in_children, in_after}
use Rattle.forest.specs.Bridge.{forest}
use Rattle.forest.specs.Back.{by_place, in_live, linked}
use Rattle.forest.specs.Place.{SlotAt, PlaceF, table_slot_place}
use Rattle.forest.specs.Fill.{join_not_empty}
use Rattle.changes.specs.Gaps.{here}
use Rattle.changes.specs.Frame.{same_body, slot_more, rep_same, place_same, chain_placed}
use Rattle.changes.specs.Lasts.{forest_last}
use Rattle.changes.specs.Swaps.{Elsewhere, Taken, none_taken, swap_represents, swap_others, swap_all}
use Rattle.changes.specs.Stands.{cell, Stands, leaf_stands, leaf_was, leaf_bare, leaf_some}
use Rattle.changes.specs.Trades.{one_swap}
use Rattle.changes.specs.Stretches.{free_box, Grown, Lengthens, top_longer, place_once}

-- THE STEPS

-- Slot i gets another rectangle.
pub record Stretch (get get' : ℕ → Seen) (i : ℕ) (q : Rectangle) : Type 0 where
  pub chosen : get' i ≡ cell (get i).parent (get i).next (get i).prev Free (get i).orientation q
  pub other : (j : ℕ) → (In j (i ∷ []) → ⊥) → get' j ≡ get j

-- A new Free slot s follows slot i of the top chain.
pub record Append (get get' : ℕ → Seen) (i s : ℕ) (t : Rectangle) : Type 0 where
  pub chosen : get' i ≡ cell (get i).parent (to s) (get i).prev (get i).kind (get i).orientation (get i).rect
  pub new : get' s ≡ cell none none (to i) Free (get i).orientation t
  pub other : (j : ℕ) → (In j (i ∷ s ∷ []) → ⊥) → get' j ≡ get j

module _ (get get' : ℕ → Seen) (n root : ℕ) (L : Linked get n root) (all : Rectangle) (P : PlaceChain get n root all) where
  -- A lone Free root may get any rectangle.
  pub lone_grows : (q : Rectangle) → Stretch get get' root q → (get root).kind ≡ Free → (get root).next ≡ none → NotEmpty q → Grown get' n root q
  lone_grows q op free x some = let F = forest get n root L in go F.0 F.1
    where
      one : (C S : Forest) → Represents get n root (slot root C S) → Grown get' n root q
      one (slot c B U) S R = absurd (leaf_bare (get root).kind (slot c B U) (inr free) R.along.0.shape)
      one empty (slot c B U) R = absurd (no_link (sym x ∙ R.along.0.next))
      one empty empty R =
          let r = R.along in
          let T = slot root empty empty in
          let o = (get root).orientation in
          let st = leaf_stands get' n root none none none Free o q (op.chosen ∙ rw (r.0.parent, x, r.0.prev) refl) r.0.below (inr refl) some in
          let s = one_swap get get' n n none none o root (root ∷ []) [] (none_taken get n) empty empty empty r (λ m. m, tt) op.other (λ j m. m) q st (λ j m. m) (λ j m l. m) in
          let R' = swap_represents get get' n n root (omega arith) here T T R s in
          record {
            links = linked get' n root T R';
            placed = chain_placed get' n root T R' q (q, st.place, refl);
            lasts = forest_last get' n root T R' (free_box (ap (λ m. m.kind) op.chosen));
          }

      go : (F : Forest) → Represents get n root F → Grown get' n root q
      go empty R = absurd (no_link R.from_root)
      go (slot a C S) R = one C S (rw (to_inj R.from_root) at R)

  -- The last slot of the top chain, if Free, may be stretched by t.
  pub stretch_grows : (i : ℕ) (t : Rectangle) → Stretch get get' i (join (get i).rect t) → Live get n i → (get i).kind ≡ Free
      → (get i).parent ≡ none → (get i).next ≡ none → NotEmpty t → Adjoin (get i).orientation (get i).rect t
      → Adjoin (get root).orientation all t × Grown get' n root (join all t)
  stretch_grows i t op lv free pi xi some ad = top_longer get get' n n root i (omega arith) L all P lv pi t go
    where
      go : (C S : Forest) → Lengthens get get' n n t (slot i C S)
      go (slot c B U) S p v o e r D w h = absurd (leaf_bare (get i).kind (slot c B U) (inr free) r.0.shape)
      go empty (slot c B U) p v o e r D w h = absurd (no_link (sym xi ∙ r.0.next))
      go empty empty p v o e r D w h =
          let q = join (get i).rect t in
          let was = leaf_was get i empty (get i).kind refl (inr free) in
          let some-q = join_not_empty (get i).orientation (get i).rect t ad (leaf_some (get i).kind (get i).rect h.0 (PlaceF get empty) (inr free) h.1) some in
          let st = leaf_stands get' n i p none v Free o q (rw (← r.0.parent, ← r.0.next, ← r.0.prev, ← r.0.orientation) op.chosen) r.0.below (inr refl) some-q in (
            slot i empty empty,
            i,
            inl refl,
            one_swap get get' n n p v o i (i ∷ []) [] (none_taken get n) empty empty empty r D op.other (λ j m. m) q st (λ j m. m) (λ j m l. m),
            (λ x y. let z = y.2 ∙ was y.0 y.1 in (rw (z, ← r.0.orientation) ad, rw z (q, st.place, refl))),
            free_box (ap (λ m. m.kind) op.chosen),
          )

  -- A Free slot may be appended after the last slot of the top chain.
  pub append_grows : (n' i s : ℕ) (t : Rectangle) → Taken get n n' (s ∷ []) → Append get get' i s t → LastTrue get n → Live get n i
      → (get i).parent ≡ none → (get i).next ≡ none → NotEmpty t → Adjoin (get i).orientation (get i).rect t
      → Adjoin (get root).orientation all t × Grown get' n' root (join all t)
  append_grows n' i s t W op last lv pi xi some ad = top_longer get get' n n' root i W.grow L all P lv pi t go
    where
      -- By rule 7 its stored rectangle is its place.
      stored : (C : Forest) (p v : Link) (o : Orientation) → Rep get n p v o (slot i C empty) → (k : NodeKind) → (get i).kind ≡ k
          → (x : Rectangle) → SlotAt k (get i).rect (PlaceF get C) x → x ≡ (get i).rect
      stored C p v o r Container e x h =
          let mine : PlaceF get C (get i).rect = rw e at (table_slot_place get n L.near.one_child p v o i C empty r (get i).rect (last i lv pi xi e)) in
          place_once get C x (get i).rect h mine
      stored C p v o r Alloc e x h = h.1
      stored C p v o r Free e x h = h.1
      stored C p v o r Unused e x h = absurd h

      go : (C S : Forest) → Lengthens get get' n n' t (slot i C S)
      go C (slot c B U) p v o e r D w h = absurd (no_link (sym xi ∙ r.0.next))
      go C empty p v o e r D w h = (
        T',
        s,
        in_after s i C (slot s empty empty) (inl refl),
        record {
          starts = refl;
          holds = (
            rw op.chosen
                (record {
                  below = omega (arith, r.0.below, W.grow);
                  parent = r.0.parent;
                  prev = r.0.prev;
                  orientation = r.0.orientation;
                  next = refl;
                  shape = r.0.shape;
                }),
            rep_same get get' n n' W.grow (to i) none (flip o) C same r.1,
            (st.here, tt, tt),
          );
          others = swap_others (i ∷ []) (s ∷ []) W E T T' at_old (λ j x. absurd (no_link x));
          all = swap_all (i ∷ []) (s ∷ []) W E T T' at_old (λ j x. absurd (no_link x)) (λ j m. in_after j i C (slot s empty empty) m)
              (λ j m l. by_place {G = In j (slots T')} j i C empty inl (in_children j i C (slot s empty empty)) (λ x. absurd x) m);
        },
        (λ x y. let z = y.2 ∙ stored C p v o r (get i).kind refl y.0 y.1 in (rw (z, ← r.0.orientation) ad, rw z (longer (rw z at y)))),
        free_box (ap (λ m. m.kind) op.new),
      )
        where
          T : Forest
          T = slot i C empty

          T' : Forest
          T' = slot i C (slot s empty empty)

          st : Stands get' n' p (to i) o s empty none t
          st = leaf_stands get' n' s p none (to i) Free o t (rw (e, ← r.0.orientation) op.new) (W.below s (inl refl)) (inr refl) some

          E : Elsewhere get get' (i ∷ s ∷ []) none none
          E = record { moved = λ j x. absurd (no_link x); other = λ j m x. op.other j m }

          at_old : (j : ℕ) → In j (i ∷ []) → In j (slots T)
          at_old j m = ⊎_elim {C = In j (slots T)} inl (λ x. absurd x) m

          same : (j : ℕ) → In j (slots C) → get' j ≡ get j
          same j m =
              op.other j (⊎_elim (λ x. D.0 (in_left (slots C) [] i (rw x at m))) (λ x. W.idle j x (in_live get n (to i) none (flip o) C r.1 j m)))

          longer : PlaceF get T (get i).rect → PlaceF get' T' (join (get i).rect t)
          longer y =
              let z : y.0 ≡ (get i).rect = sym y.2 in (
                (get i).rect,
                rw op.chosen (slot_more (get i).kind (get i).rect (PlaceF get C) (PlaceF get' C) (place_same get get' C (λ j m. same_body (same j m))) (get i).rect (rw z at y.1)),
                (t, (t, st.place, refl), rw op.chosen ad, refl),
              )
