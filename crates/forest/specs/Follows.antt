-- The forest that follows from the root by first children and next, and that it decides whether following parents and next ends.
-- Assumes nothing.
use Rattle.std.specs.Prelude.{ℕ, zero, suc, ◌+◌, ◌-◌, ◌≤◌, ◌<◌, ◌≡◌, Bool, true, false, ◌⊎◌, List, [], ◌∷◌, ◌++◌, length}
use Rattle.std.proofs.Math.Path.{refl, ap}
use Rattle.std.proofs.Common.{sym, ◌∙◌, inl, inr, ⊎_elim, length-append}
use Rattle.std.proofs.lemmas.Bool.{false≢true}
use native.Mathlib.Omega.{arith}
use Rattle.geometry.specs.Rectangles.{flip}
use Rattle.geometry.specs.declared.Orientation.{Orientation}
use Rattle.geometry.specs.declared.Rectangle.{Rectangle}
use Rattle.slots.specs.declared.NodeKind.{NodeKind}
use Rattle.slots.specs.declared.NodeKind.TheVariants.{Container, Alloc, Free, Unused}
use Rattle.lists.specs.Counts.{count}
use Rattle.sound.specs.View.{Link, none, to, Seen, Live, in_use}
use Rattle.sound.specs.ViewLaws.{to_inj, no_link}
use Rattle.sound.specs.Rules.{FirstChild}
use Rattle.sound.specs.Sound.{Neighbours, Linked}
use Rattle.forest.specs.Flips.{flip_flip}
use Rattle.forest.specs.Pigeon.{In, Distinct, pigeon, pigeon_all, cover_length}
use Rattle.forest.specs.Forest.{Forest, empty, slot, head, slots, Bare, Full, Shape, Here, Rep, Represents, rep_distinct, shape_live}
use Rattle.forest.specs.Bridge.{forest}
use Rattle.forest.specs.Back.{linked, in_live}

unfoldable pub size : Forest → ℕ
size empty = 0
size (slot i C S) = suc (size C + size S)

pub size_slots : (F : Forest) → length (slots F) ≡ size F
unfolding size
size_slots empty = refl
size_slots (slot i C S) = ap suc (length-append (slots C) (slots S) ∙ omega (arith, size_slots C, size_slots S))

-- The forest that the links spell out.
abbrev pub Follows : (ℕ → Link) → (ℕ → Link) → Forest → Type 0
Follows kids next empty = Unit {0}
Follows kids next (slot i C S) = (kids i ≡ head C) × (next i ≡ head S) × Follows kids next C × Follows kids next S

-- The link that the walk takes down: a Container's first child, from a table, and none of another slot.
abbrev pub down : NodeKind → Link → Link
down Container l = l
down Alloc l = none
down Free l = none
down Unused l = none

module _ (get : ℕ → Seen) (n root : ℕ) (first : ℕ → Link) (L : Neighbours get n root)
    (table : (i c : ℕ) → Live get n i → (get i).kind ≡ Container → FirstChild get n i c → first i ≡ to c) where
  unfoldable pub kids_of : ℕ → Link
  kids_of i = down (get i).kind (first i)

  unfoldable pub next_of : ℕ → Link
  next_of i = (get i).next

  rep_follows : (p v : Link) (o : Orientation) (F : Forest) → Rep get n p v o F → Follows kids_of next_of F
  unfolding kids_of next_of
  rep_follows p v o empty r = tt
  rep_follows p v o (slot i C S) r =
      (go (get i).kind refl C r.0.shape r.1, r.0.next, rep_follows (to i) none (flip o) C r.1, rep_follows p (to i) o S r.2)
    where
      go : (k : NodeKind) → (get i).kind ≡ k → (T : Forest) → Shape k T → Rep get n (to i) none (flip o) T → down k (first i) ≡ head T
      go Container e empty sh s = absurd sh
      go Container e (slot c B U) sh s =
          table i c (r.0.below, ap in_use e) e
          (record { live = (s.0.below, shape_live (get c).kind B s.0.shape); parent = s.0.parent; prev = s.0.prev })
      go Alloc e empty sh s = refl
      go Alloc e (slot c B U) sh s = absurd sh
      go Free e empty sh s = refl
      go Free e (slot c B U) sh s = absurd sh
      go Unused e T sh s = absurd sh

  follows_rep : (p v : Link) (o : Orientation) (F : Forest) → Follows kids_of next_of F
      → ((i : ℕ) → head F ≡ to i → Live get n i × ((get i).parent ≡ p) × ((get i).prev ≡ v) × ((get i).orientation ≡ o))
      → Rep get n p v o F
  unfolding kids_of next_of
  follows_rep p v o empty f h = tt
  follows_rep p v o (slot i C S) f h = (
    record { below = me.0.0; parent = me.1; prev = me.2; orientation = me.3; next = f.1; shape = shape (get i).kind refl },
    follows_rep (to i) none (flip o) C f.2 (λ j e. kid j (f.0 ∙ e)),
    follows_rep p (to i) o S f.3
        (λ j e. let q = f.1 ∙ e in
        (L.next_live i j me.0 q, L.same_parent i j me.0 q ∙ me.1, L.next_prev i j me.0 q, L.same_orientation_lem i j me.0 q ∙ me.3)),
  )
    where
      me : Live get n i × ((get i).parent ≡ p) × ((get i).prev ≡ v) × ((get i).orientation ≡ o)
      me = h i refl

      shape : (k : NodeKind) → (get i).kind ≡ k → Shape (get i).kind C
      shape Container e =
          let c = L.child i me.0 e in
          let w : first i ≡ to c.0 = table i c.0 me.0 e c.1 in
          let z : first i ≡ head C = rw e at f.0 in
          rw e (full C (sym z ∙ w))
        where
          full : (T : Forest) → {c : ℕ} → head T ≡ to c → Full T
          full empty q = no_link q
          full (slot a B U) q = tt
      shape Alloc e = rw e (bare C (rw e at f.0))
        where
          bare : (T : Forest) → none ≡ head T → Bare T
          bare empty q = tt
          bare (slot a B U) q = no_link q
      shape Free e = rw e (bare C (rw e at f.0))
        where
          bare : (T : Forest) → none ≡ head T → Bare T
          bare empty q = tt
          bare (slot a B U) q = no_link q
      shape Unused e = absurd (false≢true (rw e at me.0.1))

      kid : (j : ℕ) → down (get i).kind (first i) ≡ to j
          → Live get n j × ((get j).parent ≡ to i) × ((get j).prev ≡ none) × ((get j).orientation ≡ flip o)
      kid j e = go (get i).kind refl e
        where
          go : (k : NodeKind) → (get i).kind ≡ k → down k (first i) ≡ to j
              → Live get n j × ((get j).parent ≡ to i) × ((get j).prev ≡ none) × ((get j).orientation ≡ flip o)
          go Container k q =
              let c = L.child i me.0 k in
              let z : j ≡ c.0 = to_inj (sym q ∙ table i c.0 me.0 k c.1) in
              let w : (get c.0).orientation ≡ flip o =
              sym (ap flip (sym me.3 ∙ L.parent_orientation c.0 i c.1.live c.1.parent) ∙ flip_flip (get c.0).orientation) in
              rw z (c.1.live, c.1.parent, c.1.prev, w)
          go Alloc k q = absurd (no_link q)
          go Free k q = absurd (no_link q)
          go Unused k q = absurd (no_link q)

  unfoldable pub live : ℕ
  live = count (λ j. in_use (get j).kind) n

  -- A forest that the table is has as many slots as are live.
  whole_size : (F : Forest) → Represents get n root F → size F ≡ live
  unfolding live
  whole_size F R =
      omega (
        arith,
        size_slots F,
        pigeon (λ j. in_use (get j).kind) n (slots F) (rep_distinct get n none none (get root).orientation F R.along 0 refl)
            (λ a m. in_live get n none none (get root).orientation F R.along a m),
        cover_length (slots F) (λ j. in_use (get j).kind) n (λ i l t. R.all i (l, t)),
      )

  -- EXACT: links that obey rule 3 slot by slot obey it whole just where a forest of all live slots follows from the root.
  pub linked_follows : Linked get n root → (F : Forest) × (head F ≡ to root) × Follows kids_of next_of F × (size F ≡ live)
  linked_follows K =
      let F = forest get n root K in
      (F.0, F.1.from_root, rep_follows none none (get root).orientation F.0 F.1.along, whole_size F.0 F.1)

  pub follows_represents : (F : Forest) → head F ≡ to root → Follows kids_of next_of F → size F ≡ live → Represents get n root F
  unfolding live
  follows_represents F h f z =
      let R : Rep get n none none (get root).orientation F =
      follows_rep none none (get root).orientation F f
      (λ i q. rw (to_inj (sym q ∙ h)) (L.root_live, L.root_parent, L.root_prev, refl)) in
      record {
        from_root = h;
        along = R;
        all = λ i lv. pigeon_all (λ j. in_use (get j).kind) n (slots F)
            (rep_distinct get n none none (get root).orientation F R 0 refl)
            (λ a m. in_live get n none none (get root).orientation F R a m)
            (omega (arith, size_slots F)) i lv.0 lv.1;
      }

  pub follows_linked : (F : Forest) → head F ≡ to root → Follows kids_of next_of F → size F ≡ live → Linked get n root
  follows_linked F h f z = linked get n root F (follows_represents F h f z)
