-- A table that is a forest obeys rule 3.
-- Assumes nothing.
use Rattle.std.specs.Prelude.{ℕ, zero, suc, ◌+◌, ◌-◌, ◌≤◌, ◌<◌, ◌≡◌, refl, Bool, true, false, ◌⊎◌, List, [], ◌∷◌, ◌++◌}
use Rattle.std.proofs.Common.{sym, ◌∙◌, ap, inl, inr, ⊎_elim, arith}
use Rattle.std.proofs.lemmas.Bool.{false≢true}
use Rattle.geometry.specs.Rectangles.{flip}
use Rattle.geometry.specs.declared.Orientation.{Orientation}
use Rattle.geometry.specs.declared.Rectangle.{Rectangle}
use Rattle.slots.specs.declared.NodeKind.{NodeKind}
use Rattle.slots.specs.declared.NodeKind.TheVariants.{Container, Alloc, Free, Unused}
use Rattle.sound.specs.View.{Link, none, to, Seen, Live, in_use}
use Rattle.sound.specs.ViewLaws.{to_inj, no_link}
use Rattle.sound.specs.Rules.{Ends, arrived, onward, FirstChild}
use Rattle.sound.specs.Sound.{Linked}
use Rattle.forest.specs.Flips.{flip_flip}
use Rattle.forest.specs.Pigeon.{In, Distinct}
use Rattle.forest.specs.Forest.{Forest, empty, slot, head, slots, Bare, Full, Shape, Here, Rep, Represents, in_slot, in_left, in_right, in_children, in_after, rep_distinct, shape_live}

-- Links to slots are the same where the slots are, and no slot is none.
pub by_place : {G : Type 0} (j i : ℕ) (C S : Forest) → (j ≡ i → G) → (In j (slots C) → G) → (In j (slots S) → G)
    → In j (slots (slot i C S)) → G
by_place {G} j i C S f g h m = ⊎_elim {C = G} f (⊎_elim {C = G} g h) (in_slot j i C S m)

pub distinct_left : (xs ys : List ℕ) → Distinct (xs ++ ys) → Distinct xs
distinct_left [] ys d = tt
distinct_left (x ∷ xs) ys d = (λ m. d.0 (in_left xs ys x m), distinct_left xs ys d.1)

pub distinct_right : (xs ys : List ℕ) → Distinct (xs ++ ys) → Distinct ys
distinct_right [] ys d = d
distinct_right (x ∷ xs) ys d = distinct_right xs ys d.1

pub distinct_apart : (xs ys : List ℕ) → Distinct (xs ++ ys) → (a : ℕ) → In a xs → In a ys → ⊥
distinct_apart [] ys d a l r = l
distinct_apart (x ∷ xs) ys d a l r =
    ⊎_elim (λ e. d.0 (in_right xs ys x (rw (← e) r))) (λ m. distinct_apart xs ys d.1 a m r) l

-- A slot with something below it is a Container.
shape_container : (k : NodeKind) (C : Forest) (j : ℕ) → Shape k C → In j (slots C) → k ≡ Container
shape_container Container C j h m = refl
shape_container Alloc empty j h m = absurd m
shape_container Alloc (slot a B S) j h m = absurd h
shape_container Free empty j h m = absurd m
shape_container Free (slot a B S) j h m = absurd h
shape_container Unused C j h m = absurd h

-- `c` heads the children of `i` in the forest.
abbrev Kid : Forest → ℕ → ℕ → Type 0
Kid empty i c = ⊥
Kid (slot a C S) i c = ((i ≡ a) × (head C ≡ to c)) ⊎ (Kid C i c ⊎ Kid S i c)

kid_in : (F : Forest) (i c : ℕ) → Kid F i c → In i (slots F)
kid_in empty i c h = absurd h
kid_in (slot a C S) i c h =
    ⊎_elim {C = In i (slots (slot a C S))} (λ q. inl q.0)
    (⊎_elim {C = In i (slots (slot a C S))} (λ k. in_children i a C S (kid_in C i c k)) (λ k. in_after i a C S (kid_in S i c k))) h

kid_one : (F : Forest) (i c d : ℕ) → Distinct (slots F) → Kid F i c → Kid F i d → c ≡ d
kid_one empty i c d D x y = absurd x
kid_one (slot a C S) i c d D x y =
    ⊎_elim {C = c ≡ d}
    (λ p. ⊎_elim {C = c ≡ d} (λ q. to_inj (sym p.1 ∙ q.1))
    (⊎_elim {C = c ≡ d} (λ k. absurd (not_c p.0 (kid_in C i d k))) (λ k. absurd (not_s p.0 (kid_in S i d k)))) y)
    (⊎_elim {C = c ≡ d}
    (λ l. ⊎_elim {C = c ≡ d} (λ q. absurd (not_c q.0 (kid_in C i c l)))
    (⊎_elim {C = c ≡ d} (λ k. kid_one C i c d (distinct_left (slots C) (slots S) D.1) l k)
    (λ k. absurd (distinct_apart (slots C) (slots S) D.1 i (kid_in C i c l) (kid_in S i d k)))) y)
    (λ l. ⊎_elim {C = c ≡ d} (λ q. absurd (not_s q.0 (kid_in S i c l)))
    (⊎_elim {C = c ≡ d} (λ k. absurd (distinct_apart (slots C) (slots S) D.1 i (kid_in C i d k) (kid_in S i c l)))
    (λ k. kid_one S i c d (distinct_right (slots C) (slots S) D.1) l k)) y)) x
  where
    not_c : i ≡ a → In i (slots C) → ⊥
    not_c e m = D.0 (in_left (slots C) (slots S) a (rw (← e) m))

    not_s : i ≡ a → In i (slots S) → ⊥
    not_s e m = D.0 (in_right (slots C) (slots S) a (rw (← e) m))

-- What a slot of the forest hangs from.
data Hangs (get : ℕ → Seen) (F : Forest) (p v : Link) (i : ℕ) : Type 0 where
  top : head F ≡ to i → (get i).parent ≡ p → (get i).prev ≡ v → Hangs get F p v i
  sibling : (a : ℕ) → In a (slots F) → (get i).prev ≡ to a → (get a).next ≡ to i → Hangs get F p v i
  child : (a : ℕ) → Kid F a i → (get i).prev ≡ none → (get i).parent ≡ to a → Hangs get F p v i

module _ (get : ℕ → Seen) (n : ℕ) where
  pub in_live : (p v : Link) (o : Orientation) (F : Forest) → Rep get n p v o F → (i : ℕ) → In i (slots F) → Live get n i
  in_live p v o empty r i h = absurd h
  in_live p v o (slot a C S) r i h =
      by_place {G = Live get n i} i a C S (λ e. rw e (r.0.below, shape_live (get a).kind C r.0.shape))
      (in_live (to a) none (flip o) C r.1 i) (in_live p (to a) o S r.2 i) h

  hangs : (p v : Link) (o : Orientation) (F : Forest) → Rep get n p v o F → (i : ℕ) → In i (slots F) → Hangs get F p v i
  hangs p v o empty r i h = absurd h
  hangs p v o (slot a C S) r i h =
      by_place {G = Hangs get (slot a C S) p v i} i a C S
      (λ e. top (ap to (sym e)) (rw e r.0.parent) (rw e r.0.prev))
      (λ m. below (hangs (to a) none (flip o) C r.1 i m))
      (λ m. later (hangs p (to a) o S r.2 i m)) h
    where
      below : Hangs get C (to a) none i → Hangs get (slot a C S) p v i
      below (top e x y) = child a (inl (refl, e)) y x
      below (sibling b m x y) = sibling b (in_children b a C S m) x y
      below (child b k x y) = child b (inr (inl k)) x y

      later : Hangs get S p (to a) i → Hangs get (slot a C S) p v i
      later (top e x y) = sibling a (inl refl) y (r.0.next ∙ e)
      later (sibling b m x y) = sibling b (in_after b a C S m) x y
      later (child b k x y) = child b (inr (inr k)) x y

  -- A parent is the chain's own or a Container of the other orientation.
  parent_of : (p v : Link) (o : Orientation) (F : Forest) → Rep get n p v o F → (i j : ℕ) → In i (slots F) → (get i).parent ≡ to j
      → ((p ≡ to j) × ((get i).orientation ≡ o)) ⊎ (In j (slots F) × ((get j).kind ≡ Container) × ((get j).orientation ≡ flip (get i).orientation))
  parent_of p v o empty r i j h e = absurd h
  parent_of p v o (slot a C S) r i j h e =
      by_place {G = G} i a C S
      (λ q. inl (sym r.0.parent ∙ (ap (λ x. (get x).parent) (sym q) ∙ e), ap (λ x. (get x).orientation) q ∙ r.0.orientation))
      (λ m. inr (⊎_elim {C = H}
      (λ w. below (to_inj w.0) w.1 m) (λ w. (in_children j a C S w.0, w.1, w.2))
      (parent_of (to a) none (flip o) C r.1 i j m e)))
      (λ m. ⊎_elim {C = G} inl (λ w. inr (in_after j a C S w.0, w.1, w.2)) (parent_of p (to a) o S r.2 i j m e)) h
    where
      H : Type 0
      H = In j (slots (slot a C S)) × ((get j).kind ≡ Container) × ((get j).orientation ≡ flip (get i).orientation)

      G : Type 0
      G = ((p ≡ to j) × ((get i).orientation ≡ o)) ⊎ H

      below : a ≡ j → (get i).orientation ≡ flip o → In i (slots C) → H
      below q w m = (
        inl (sym q),
        rw (← q) (shape_container (get a).kind C i r.0.shape m),
        rw (← q, w, flip_flip o) r.0.orientation,
      )

  next_of : (p v : Link) (o : Orientation) (F : Forest) → Rep get n p v o F → (i j : ℕ) → In i (slots F) → (get i).next ≡ to j
      → In j (slots F) × ((get j).prev ≡ to i) × ((get j).parent ≡ (get i).parent) × ((get j).orientation ≡ (get i).orientation)
  next_of p v o empty r i j h e = absurd h
  next_of p v o (slot a C S) r i j h e =
      by_place {G = G} i a C S (λ q. let w = here S r.2 q (sym r.0.next ∙ (ap (λ x. (get x).next) (sym q) ∙ e)) in (in_after j a C S w.0, w.1, w.2, w.3))
      (λ m. let w = next_of (to a) none (flip o) C r.1 i j m e in (in_children j a C S w.0, w.1, w.2, w.3))
      (λ m. let w = next_of p (to a) o S r.2 i j m e in (in_after j a C S w.0, w.1, w.2, w.3)) h
    where
      G : Type 0
      G = In j (slots (slot a C S)) × ((get j).prev ≡ to i) × ((get j).parent ≡ (get i).parent) × ((get j).orientation ≡ (get i).orientation)

      here : (T : Forest) → Rep get n p (to a) o T → i ≡ a → head T ≡ to j
          → In j (slots T) × ((get j).prev ≡ to i) × ((get j).parent ≡ (get i).parent) × ((get j).orientation ≡ (get i).orientation)
      here empty s q w = absurd (no_link w)
      here (slot b B U) s q w =
          let z = to_inj w in (
            inl (sym z),
            rw (← z, q) s.0.prev,
            rw (← z, q) (s.0.parent ∙ sym r.0.parent),
            rw (← z, q) (s.0.orientation ∙ sym r.0.orientation),
          )

  children_of : (p v : Link) (o : Orientation) (F : Forest) → Rep get n p v o F → (i : ℕ) → In i (slots F) → (get i).kind ≡ Container
      → (c : ℕ) × FirstChild get n i c
  children_of p v o empty r i h k = absurd h
  children_of p v o (slot a C S) r i h k =
      by_place {G = (c : ℕ) × FirstChild get n i c} i a C S
      (λ q. first C r.1 q (rw (← q) at r.0.shape))
      (λ m. children_of (to a) none (flip o) C r.1 i m k) (λ m. children_of p (to a) o S r.2 i m k) h
    where
      first : (T : Forest) → Rep get n (to a) none (flip o) T → i ≡ a → Shape (get i).kind T → (c : ℕ) × FirstChild get n i c
      first empty s q sh = absurd (rw k at sh)
      first (slot c B U) s q sh =
          (c, record { live = (s.0.below, shape_live (get c).kind B s.0.shape); parent = s.0.parent ∙ ap to (sym q); prev = s.0.prev })

  parents_end : (p v : Link) (o : Orientation) (F : Forest) → Rep get n p v o F → Ends (λ j. (get j).parent) p
      → (i : ℕ) → In i (slots F) → Ends (λ j. (get j).parent) (to i)
  parents_end p v o empty r e i h = absurd h
  parents_end p v o (slot a C S) r e i h =
      by_place {G = Ends (λ j. (get j).parent) (to i)} i a C S (λ q. rw q up)
      (parents_end (to a) none (flip o) C r.1 up i) (parents_end p (to a) o S r.2 e i) h
    where
      up : Ends (λ j. (get j).parent) (to a)
      up = onward {i = a} (rw r.0.parent e)

  nexts_end : (p v : Link) (o : Orientation) (F : Forest) → Rep get n p v o F → Ends (λ j. (get j).next) (head F)
  nexts_end p v o empty r = arrived
  nexts_end p v o (slot a C S) r = onward {i = a} (rw r.0.next (nexts_end p (to a) o S r.2))

  all_nexts_end : (p v : Link) (o : Orientation) (F : Forest) → Rep get n p v o F
      → (i : ℕ) → In i (slots F) → Ends (λ j. (get j).next) (to i)
  all_nexts_end p v o empty r i h = absurd h
  all_nexts_end p v o (slot a C S) r i h =
      by_place {G = Ends (λ j. (get j).next) (to i)} i a C S (λ q. rw q (nexts_end p v o (slot a C S) r))
      (all_nexts_end (to a) none (flip o) C r.1 i) (all_nexts_end p (to a) o S r.2 i) h

-- THE BRIDGE, from the forest to the rules.
module _ (get : ℕ → Seen) (n root : ℕ) (F : Forest) (R : Represents get n root F) where
  o : Orientation
  o = (get root).orientation

  different : Distinct (slots F)
  different = rep_distinct get n none none (get root).orientation F R.along 0 refl

  root_in : In root (slots F)
  root_in = go F R.from_root
    where
      go : (T : Forest) → head T ≡ to root → In root (slots T)
      go empty e = absurd (no_link e)
      go (slot a C S) e = inl (sym (to_inj e))

  root_links : ((get root).parent ≡ none) × ((get root).prev ≡ none)
  root_links = go F R.from_root R.along
    where
      go : (T : Forest) → head T ≡ to root → Rep get n none none (get root).orientation T → ((get root).parent ≡ none) × ((get root).prev ≡ none)
      go empty e r = absurd (no_link e)
      go (slot a C S) e r = let q = to_inj e in (rw (← q) r.0.parent, rw (← q) r.0.prev)

  live_in : (i : ℕ) → In i (slots F) → Live get n i
  live_in = in_live get n none none (get root).orientation F R.along

  hung : (i : ℕ) → Live get n i → Hangs get F none none i
  hung i lv = hangs get n none none (get root).orientation F R.along i (R.all i lv)

  parent_at_lem : (i j : ℕ) → Live get n i → (get i).parent ≡ to j
      → In j (slots F) × ((get j).kind ≡ Container) × ((get j).orientation ≡ flip (get i).orientation)
  parent_at_lem i j lv e =
      ⊎_elim {C = In j (slots F) × ((get j).kind ≡ Container) × ((get j).orientation ≡ flip (get i).orientation)}
      (λ w. absurd (no_link w.0)) (λ w. w) (parent_of get n none none (get root).orientation F R.along i j (R.all i lv) e)

  next_at_lem : (i j : ℕ) → Live get n i → (get i).next ≡ to j
      → In j (slots F) × ((get j).prev ≡ to i) × ((get j).parent ≡ (get i).parent) × ((get j).orientation ≡ (get i).orientation)
  next_at_lem i j lv e = next_of get n none none (get root).orientation F R.along i j (R.all i lv) e

  prev_at_lem : (i j : ℕ) → (get i).prev ≡ to j → Hangs get F none none i → In j (slots F) × ((get j).next ≡ to i)
  prev_at_lem i j e (top h x y) = absurd (no_link (sym y ∙ e))
  prev_at_lem i j e (sibling a m x y) = let q = to_inj (sym x ∙ e) in (rw (← q) m, rw (← q) y)
  prev_at_lem i j e (child a k x y) = absurd (no_link (sym x ∙ e))

  kid_at : (i c : ℕ) → (get c).parent ≡ to i → (get c).prev ≡ none → Hangs get F none none c → Kid F i c
  kid_at i c p v (top h x y) = absurd (no_link (sym x ∙ p))
  kid_at i c p v (sibling a m x y) = absurd (no_link (sym v ∙ x))
  kid_at i c p v (child a k x y) = rw (to_inj (sym p ∙ y)) k

  root_at : (i : ℕ) → (get i).parent ≡ none → (get i).prev ≡ none → Hangs get F none none i → i ≡ root
  root_at i p v (top h x y) = to_inj (sym h ∙ R.from_root)
  root_at i p v (sibling a m x y) = absurd (no_link (sym v ∙ x))
  root_at i p v (child a k x y) = absurd (no_link (sym p ∙ y))

  pub linked : Linked get n root
  linked = record {
    near = record {
      parent_live = λ i j lv e. live_in j (parent_at_lem i j lv e).0;
      next_live = λ i j lv e. live_in j (next_at_lem i j lv e).0;
      prev_live = λ i j lv e. live_in j (prev_at_lem i j e (hung i lv)).0;
      next_prev = λ i j lv e. (next_at_lem i j lv e).1;
      prev_next = λ i j lv e. (prev_at_lem i j e (hung i lv)).1;
      same_parent = λ i j lv e. (next_at_lem i j lv e).2;
      same_orientation_lem = λ i j lv e. (next_at_lem i j lv e).3;
      parent_kind = λ i j lv e. (parent_at_lem i j lv e).1;
      parent_orientation = λ i j lv e. (parent_at_lem i j lv e).2;
      child = λ i lv k. children_of get n none none (get root).orientation F R.along i (R.all i lv) k;
      one_child = λ i c d a b. kid_one F i c d different
          (kid_at i c a.parent a.prev (hung c a.live)) (kid_at i d b.parent b.prev (hung d b.live));
      root_live = live_in root root_in;
      root_parent = root_links.0;
      root_prev = root_links.1;
      root_only = λ i lv p v. root_at i p v (hung i lv);
    };
    parents_end = λ i lv. parents_end get n none none (get root).orientation F R.along arrived i (R.all i lv);
    nexts_end = λ i lv. all_nexts_end get n none none (get root).orientation F R.along i (R.all i lv);
  }
