-- A table whose links obey rule 3 is a forest.
-- Assumes nothing.
use Rattle.std.specs.Prelude.{ℕ, zero, suc, ◌+◌, ◌-◌, ◌≤◌, ◌<◌, ◌≡◌, refl, Bool, true, false, ◌⊎◌, List, [], ◌∷◌, ◌++◌}
use Rattle.std.proofs.Common.{sym, ◌∙◌, ap, inl, inr, ⊎_elim, arith}
use Rattle.std.proofs.lemmas.Bool.{false≢true}
use Rattle.geometry.specs.Rectangles.{flip}
use Rattle.geometry.specs.declared.Orientation.{Orientation}
use Rattle.geometry.specs.declared.Rectangle.{Rectangle}
use Rattle.slots.specs.declared.NodeKind.{NodeKind}
use Rattle.slots.specs.declared.NodeKind.TheVariants.{Container, Alloc, Free, Unused}
use Rattle.lists.specs.Counts.{count}
use Rattle.sound.specs.View.{Link, none, to, Seen, Live, in_use}
use Rattle.sound.specs.ViewLaws.{to_inj, no_link}
use Rattle.sound.specs.Rules.{Ends, FirstChild}
use Rattle.sound.specs.Sound.{Linked}
use Rattle.forest.specs.Flips.{flip_flip}
use Rattle.forest.specs.Pigeon.{In}
use Rattle.forest.specs.Ends.{EndsIn, ends_in, ends_bounded}
use Rattle.forest.specs.Forest.{Forest, empty, slot, head, slots, Bare, Full, Shape, Here, Rep, Represents, in_slot, in_children, in_after, shape_live}

-- What is known of the slot that a link names, where a chain is to be found.
abbrev Fits : (ℕ → Seen) → ℕ → Link → Link → Orientation → Link → Type 0
Fits get n p v o none = Unit {0}
Fits get n p v o (to i) = Live get n i × ((get i).parent ≡ p) × ((get i).prev ≡ v) × ((get i).orientation ≡ o)

-- The chain that starts at a link, with what hangs below it.
abbrev Chain : (ℕ → Seen) → ℕ → Link → Link → Orientation → Link → Type 0
Chain get n p v o l = (F : Forest) × (head F ≡ l) × Rep get n p v o F

-- The children of a slot.
abbrev Kids : (ℕ → Seen) → ℕ → ℕ → Type 0
Kids get n i = (C : Forest) × Full C × Rep get n (to i) none (flip (get i).orientation) C

module _ (get : ℕ → Seen) (n root : ℕ) (L : Linked get n root) where
  next_fits : (p v : Link) (o : Orientation) (i : ℕ) → Fits get n p v o (to i) → (l : Link) → (get i).next ≡ l → Fits get n p (to i) o l
  next_fits p v o i f none e = tt
  next_fits p v o i f (to j) e = (
    L.near.next_live i j f.0 e,
    L.near.same_parent i j f.0 e ∙ f.1,
    L.near.next_prev i j f.0 e,
    L.near.same_orientation_lem i j f.0 e ∙ f.3,
  )

  -- One slot of the chain, given the rest of it.
  one : (p v : Link) (o : Orientation) (i : ℕ) → Fits get n p v o (to i)
      → ((get i).kind ≡ Container → Kids get n i) → Chain get n p (to i) o (get i).next → Chain get n p v o (to i)
  one p v o i f kids S = go (get i).kind refl
    where
      make : (C : Forest) → Shape (get i).kind C → Rep get n (to i) none (flip o) C → Chain get n p v o (to i)
      make C sh r = (
        slot i C S.0,
        refl,
        (record { below = f.0.0; parent = f.1; prev = f.2; orientation = f.3; next = sym S.1; shape = sh }, r, S.2),
      )

      go : (k : NodeKind) → (get i).kind ≡ k → Chain get n p v o (to i)
      go Container e = let K = kids e in make K.0 (rw e K.1) (rw f.3 at K.2)
      go Alloc e = make empty (rw e tt) tt
      go Free e = make empty (rw e tt) tt
      go Unused e = absurd (false≢true (rw e at f.0.1))

  -- A chain whose containers' children are there.
  chain : (p : Link) (o : Orientation) → ((i : ℕ) → Live get n i → (get i).parent ≡ p → (get i).kind ≡ Container → Kids get n i)
      → (m : ℕ) (v l : Link) → EndsIn (λ j. (get j).next) l m → Fits get n p v o l → Chain get n p v o l
  chain p o kids zero v l e f = (empty, sym e, tt)
  chain p o kids (suc m) v l e f =
      let f' : Fits get n p v o (to e.0) = rw e.1 at f in
      rw e.1
      (one p v o e.0 f' (kids e.0 f'.0 f'.1)
      (chain p o kids m (to e.0) (get e.0).next e.2 (next_fits p v o e.0 f' (get e.0).next refl)))

  -- Parents are at most as many as the live slots, so their number bounds how deep the children go.
  depth_bound : (i d : ℕ) → Live get n i → EndsIn (λ j. (get j).parent) (to i) d → d ≤ count (λ j. in_use (get j).kind) n
  depth_bound i d lv e =
      ends_bounded (λ j. (get j).parent) (λ j. in_use (get j).kind) n (λ a b la q. L.near.parent_live a b la q)
      (to i) (λ a q. rw (← to_inj q) lv) d e

  next_bound : (i d : ℕ) → Live get n i → EndsIn (λ j. (get j).next) (to i) d → d ≤ count (λ j. in_use (get j).kind) n
  next_bound i d lv e =
      ends_bounded (λ j. (get j).next) (λ j. in_use (get j).kind) n (λ a b la q. L.near.next_live a b la q)
      (to i) (λ a q. rw (← to_inj q) lv) d e

  kids : (k d i : ℕ) → Live get n i → EndsIn (λ j. (get j).parent) (to i) d → d + k ≡ suc (count (λ j. in_use (get j).kind) n)
      → (get i).kind ≡ Container → Kids get n i
  kids zero d i lv e q c = absurd (omega (arith, depth_bound i d lv e))
  kids (suc k) d i lv e q c =
      let fc = L.near.child i lv c in
      let en = ends_in (L.nexts_end fc.0 fc.1.live) in
      let o : (get fc.0).orientation ≡ flip (get i).orientation =
      sym (ap flip (L.near.parent_orientation fc.0 i fc.1.live fc.1.parent) ∙ flip_flip (get fc.0).orientation) in
      let r = chain (to i) (flip (get i).orientation)
      (λ j lj pj cj. kids k (suc d) j lj (j, refl, rw pj e) (omega arith) cj)
      en.0 none (to fc.0) en.1 (fc.1.live, fc.1.parent, fc.1.prev, o) in
      (r.0, full r.0 r.1, r.2)
    where
      full : (C : Forest) → {c : ℕ} → head C ≡ to c → Full C
      full empty h = no_link h
      full (slot a B S) h = tt

  -- The forest.
  grown : Chain get n none none (get root).orientation (to root)
  grown =
      let en = ends_in (L.nexts_end root L.near.root_live) in
      chain none (get root).orientation
      (λ i lv p c. kids (count (λ j. in_use (get j).kind) n) 1 i lv (i, refl, p) (omega arith) c)
      en.0 none (to root) en.1 (L.near.root_live, L.near.root_parent, L.near.root_prev, refl)

  head_in : (F : Forest) (i : ℕ) → head F ≡ to i → In i (slots F)
  head_in empty i e = absurd (no_link e)
  head_in (slot j C S) i e = inl (sym (to_inj e))

  -- The next of a slot of the forest is in it.
  next_in_lem : (p v : Link) (o : Orientation) (F : Forest) → Rep get n p v o F → (j i : ℕ) → In j (slots F) → (get j).next ≡ to i → In i (slots F)
  next_in_lem p v o empty r j i h e = absurd h
  next_in_lem p v o (slot a C S) r j i h e =
      ⊎_elim {C = In i (slots (slot a C S))} (λ q. in_after i a C S (head_in S i (sym r.0.next ∙ (ap (λ x. (get x).next) (sym q) ∙ e))))
      (λ m. ⊎_elim {C = In i (slots (slot a C S))}
      (λ c. in_children i a C S (next_in_lem (to a) none (flip o) C r.1 j i c e))
      (λ s. in_after i a C S (next_in_lem p (to a) o S r.2 j i s e)) m) (in_slot j a C S h)

  -- So is the first child of one.
  child_in : (p v : Link) (o : Orientation) (F : Forest) → Rep get n p v o F → (j i : ℕ) → In j (slots F)
      → (get j).kind ≡ Container → FirstChild get n j i → In i (slots F)
  child_in p v o empty r j i h k e = absurd h
  child_in p v o (slot a C S) r j i h k e =
      ⊎_elim {C = In i (slots (slot a C S))} (λ q. in_children i a C S (below C r.1 (rw (← q) at r.0.shape) q))
      (λ m. ⊎_elim {C = In i (slots (slot a C S))}
      (λ c. in_children i a C S (child_in (to a) none (flip o) C r.1 j i c k e))
      (λ s. in_after i a C S (child_in p (to a) o S r.2 j i s k e)) m) (in_slot j a C S h)
    where
      below : (C : Forest) → Rep get n (to a) none (flip o) C → Shape (get j).kind C → j ≡ a → In i (slots C)
      below empty r' sh q = absurd (rw k at sh)
      below (slot c B T) r' sh q =
          inl (L.near.one_child j i c e
          (record { live = (r'.0.below, shape_live (get c).kind B r'.0.shape); parent = r'.0.parent ∙ ap to (sym q); prev = r'.0.prev }))

  -- Every live slot is in the forest: back along prev to a first one, and up from there.
  module _ (F : Forest) (hd : head F ≡ to root) (R : Rep get n none none (get root).orientation F) where
    back : (d k m i : ℕ) → ((j : ℕ) → Live get n j → EndsIn (λ j. (get j).parent) (to j) d → In j (slots F))
        → Live get n i → EndsIn (λ j. (get j).parent) (to i) (suc d) → EndsIn (λ j. (get j).next) (to i) m
        → m + k ≡ suc (count (λ j. in_use (get j).kind) n) → In i (slots F)
    back d zero m i up lv e en q = absurd (omega (arith, next_bound i m lv en))
    back d (suc k) m i up lv e en q = go (get i).prev refl (λ j. back d k (suc m) j up)
      where
        e' : EndsIn (λ j. (get j).parent) (get i).parent d
        e' = rw (to_inj e.1) e.2

        first : (l : Link) → (get i).parent ≡ l → (get i).prev ≡ none → In i (slots F)
        first none pe ve = rw (L.near.root_only i lv pe ve) (head_in F root hd)
        first (to j) pe ve =
            child_in none none (get root).orientation F R j i
            (up j (L.near.parent_live i j lv pe) (rw pe at e')) (L.near.parent_kind i j lv pe)
            (record { live = lv; parent = pe; prev = ve })

        go : (l : Link) → (get i).prev ≡ l
            → ((j : ℕ) → Live get n j → EndsIn (λ j. (get j).parent) (to j) (suc d) → EndsIn (λ j. (get j).next) (to j) (suc m)
            → suc m + k ≡ suc (count (λ j. in_use (get j).kind) n) → In j (slots F)) → In i (slots F)
        go none ve rec = first (get i).parent refl ve
        go (to j) ve rec =
            let lj = L.near.prev_live i j lv ve in
            let nj = L.near.prev_next i j lv ve in
            next_in_lem none none (get root).orientation F R j i
            (rec j lj (j, refl, rw (← L.near.same_parent j i lj nj) e') (j, refl, rw nj en) (omega arith)) nj

    cover : (d i : ℕ) → Live get n i → EndsIn (λ j. (get j).parent) (to i) d → In i (slots F)
    cover zero i lv e = absurd (no_link (sym e))
    cover (suc d) i lv e =
        let en = ends_in (L.nexts_end i lv) in
        back d (suc (count (λ j. in_use (get j).kind) n) - en.0) en.0 i (cover d) lv e en.1
        (omega (arith, next_bound i en.0 lv en.1))

  -- THE BRIDGE, from the rules to the forest.
  pub forest : (F : Forest) × Represents get n root F
  forest =
      let g = grown in (
        g.0,
        record {
          from_root = g.1;
          along = g.2;
          all = λ i lv. let e = ends_in (L.parents_end i lv) in cover g.0 g.1 g.2 e.0 i lv e.1;
        },
      )
