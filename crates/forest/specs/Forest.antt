-- The slots as a forest: the view that the proofs work in.
-- Assumes nothing.
use Rattle.std.specs.Prelude.{ℕ, zero, suc, ◌+◌, ◌≤◌, ◌<◌, ◌≡◌, refl, Bool, true, false, ◌⊎◌, List, [], ◌∷◌, ◌++◌, length}
use Rattle.std.proofs.Common.{sym, ◌∙◌, ap, inl, inr, ⊎_elim, arith, length-append}
use Rattle.geometry.specs.Rectangles.{flip}
use Rattle.geometry.specs.declared.Orientation.{Orientation}
use Rattle.geometry.specs.declared.Orientation.TheVariants.{Vertical, Horizontal}
use Rattle.geometry.specs.declared.Rectangle.{Rectangle}
use Rattle.slots.specs.declared.NodeKind.{NodeKind}
use Rattle.slots.specs.declared.NodeKind.TheVariants.{Container, Alloc, Free, Unused}
use Rattle.sound.specs.View.{Link, none, to, Seen, Live, in_use}
use Rattle.sound.specs.ViewLaws.{to_inj}
use Rattle.sound.specs.Rules.{Ends}
use Rattle.forest.specs.Pigeon.{In, Distinct}
use Rattle.forest.specs.Ends.{EndsIn, ends_unique}

-- A chain of slots: none, or a slot with the chain of its children and the rest of the chain after it.
pub data Forest : Type 0 where
  empty : Forest
  slot : ℕ → Forest → Forest → Forest

abbrev pub head : Forest → Link
head empty = none
head (slot i C S) = to i

abbrev pub slots : Forest → List ℕ
slots empty = []
slots (slot i C S) = i ∷ slots C ++ slots S

abbrev pub Bare : Forest → Type 0
Bare empty = Unit {0}
Bare (slot i C S) = ⊥

abbrev pub Full : Forest → Type 0
Full empty = ⊥
Full (slot i C S) = Unit {0}

-- A Container has children, an Alloc or Free slot has none, and no Unused slot stands in a forest.
abbrev pub Shape : NodeKind → Forest → Type 0
Shape Container C = Full C
Shape Alloc C = Bare C
Shape Free C = Bare C
Shape Unused C = ⊥

-- A slot of a forest is in use.
pub shape_live : (k : NodeKind) (C : Forest) → Shape k C → in_use k ≡ true
shape_live Container C h = refl
shape_live Alloc C h = refl
shape_live Free C h = refl
shape_live Unused C h = absurd h

-- What the table says of one slot of the forest.
pub record Here (n : ℕ) (m : Seen) (p v : Link) (o : Orientation) (i : ℕ) (C : Forest) (after : Link) : Type 0 where
  pub below : i < n
  pub parent : m.parent ≡ p
  pub prev : m.prev ≡ v
  pub orientation : m.orientation ≡ o
  pub next : m.next ≡ after
  pub shape : Shape m.kind C

-- The table holds the chain `F` under parent `p`, after `v`, along `o`.
abbrev pub Rep : (ℕ → Seen) → ℕ → Link → Link → Orientation → Forest → Type 0
Rep get n p v o empty = Unit {0}
Rep get n p v o (slot i C S) =
    Here n (get i) p v o i C (head S) × Rep get n (to i) none (flip o) C × Rep get n p (to i) o S

-- The table is the forest `F`: it holds F from root on, and every live slot stands in it.
pub record Represents (get : ℕ → Seen) (n root : ℕ) (F : Forest) : Type 0 where
  pub from_root : head F ≡ to root
  pub along : Rep get n none none (get root).orientation F
  pub all : (i : ℕ) → Live get n i → In i (slots F)

pub in_left : (xs ys : List ℕ) (a : ℕ) → In a xs → In a (xs ++ ys)
in_left [] ys a h = absurd h
in_left (x ∷ xs) ys a h = ⊎_elim {C = (a ≡ x) ⊎ In a (xs ++ ys)} inl (λ m. inr (in_left xs ys a m)) h

pub in_right : (xs ys : List ℕ) (a : ℕ) → In a ys → In a (xs ++ ys)
in_right [] ys a h = h
in_right (x ∷ xs) ys a h = inr (in_right xs ys a h)

pub in_cases : (xs ys : List ℕ) (a : ℕ) → In a (xs ++ ys) → In a xs ⊎ In a ys
in_cases [] ys a h = inr h
in_cases (x ∷ xs) ys a h =
    ⊎_elim {C = In a (x ∷ xs) ⊎ In a ys} (λ e. inl (inl e))
    (λ m. ⊎_elim {C = In a (x ∷ xs) ⊎ In a ys} (λ l. inl (inr l)) inr (in_cases xs ys a m)) h

pub distinct_append : (xs ys : List ℕ) → Distinct xs → Distinct ys → ((a : ℕ) → In a xs → In a ys → ⊥) → Distinct (xs ++ ys)
distinct_append [] ys dx dy h = dy
distinct_append (x ∷ xs) ys dx dy h = (
  λ m. ⊎_elim dx.0 (h x (inl refl)) (in_cases xs ys x m),
  distinct_append xs ys dx.1 dy (λ a l r. h a (inr l) r),
)

-- Where a slot of the forest stands: at its head, among the children, or after.
pub in_slot : (j i : ℕ) (C S : Forest) → In j (slots (slot i C S)) → (j ≡ i) ⊎ (In j (slots C) ⊎ In j (slots S))
in_slot j i C S h =
    ⊎_elim {C = (j ≡ i) ⊎ (In j (slots C) ⊎ In j (slots S))} inl (λ m. inr (in_cases (slots C) (slots S) j m)) h

pub in_children : (j i : ℕ) (C S : Forest) → In j (slots C) → In j (slots (slot i C S))
in_children j i C S h = inr (in_left (slots C) (slots S) j h)

pub in_after : (j i : ℕ) (C S : Forest) → In j (slots S) → In j (slots (slot i C S))
in_after j i C S h = inr (in_right (slots C) (slots S) j h)

-- The slot that a slot hangs from: its prev, or its parent where it has none.
abbrev pub or_else : Link → Link → Link
or_else none p = p
or_else (to v) p = to v

abbrev pub up_of : (ℕ → Seen) → ℕ → Link
up_of get i = or_else (get i).prev (get i).parent

-- From a link, `m` steps come to the slot `a`.
abbrev Reach : (ℕ → Link) → Link → ℕ → ℕ → Type 0
Reach f l zero a = l ≡ to a
Reach f l (suc m) a = (i : ℕ) × (l ≡ to i) × Reach f (f i) m a

reach_one : (f : ℕ → Link) (l : Link) (m a b : ℕ) → Reach f l m a → Reach f l m b → a ≡ b
reach_one f l zero a b r s = to_inj (sym r ∙ s)
reach_one f l (suc m) a b r s =
    reach_one f (f r.0) m a b r.2 (rw (to_inj (sym r.1 ∙ s.1)) s.2)

reach_more : (f : ℕ → Link) (l : Link) (m a b : ℕ) → Reach f l m a → f a ≡ to b → Reach f l (suc m) b
reach_more f l zero a b r e = (a, r, e)
reach_more f l (suc m) a b r e = (r.0, r.1, reach_more f (f r.0) m a b r.2 e)

reach_ends : (f : ℕ → Link) (l : Link) (m a k t : ℕ) → Reach f l m a → EndsIn f (f a) k → t ≡ m + k → EndsIn f l (suc t)
reach_ends f l zero a k t r e q = let z : t ≡ k = omega arith in (a, r, rw z e)
reach_ends f l (suc m) a k zero r e q = absurd (omega arith)
reach_ends f l (suc m) a k (suc t) r e q = (r.0, r.1, reach_ends f (f r.0) m a k t r.2 e (omega arith))

-- Each slot of a chain hangs, over some steps, from the chain's first.
reach_head : (get : ℕ → Seen) (n : ℕ) (p v : Link) (o : Orientation) (F : Forest) → Rep get n p v o F
    → (j : ℕ) → In j (slots F) → (a : ℕ) × (m : ℕ) × (head F ≡ to a) × (up_of get a ≡ or_else v p) × Reach (up_of get) (to j) m a
reach_head get n p v o empty r j h = absurd h
reach_head get n p v o (slot i C S) r j h =
    ⊎_elim {C = Goal} here
    (λ m. ⊎_elim {C = Goal}
    (λ c. hung (reach_head get n (to i) none (flip o) C r.1 j c))
    (λ s. hung (reach_head get n p (to i) o S r.2 j s)) m) (in_slot j i C S h)
  where
    Goal : Type 0
    Goal = (a : ℕ) × (m : ℕ) × (to i ≡ to a) × (up_of get a ≡ or_else v p) × Reach (up_of get) (to j) m a

    up : up_of get i ≡ or_else v p
    up = rw (r.0.prev, r.0.parent) refl

    here : j ≡ i → Goal
    here e = (i, 0, refl, up, ap to e)

    hung : {l : Link} → (a : ℕ) × (m : ℕ) × (l ≡ to a) × (up_of get a ≡ to i) × Reach (up_of get) (to j) m a → Goal
    hung q = (i, suc q.1, refl, up, reach_more (up_of get) (to j) q.1 q.0 i q.4 q.3)

-- The first of a chain has the prev that the chain was found under.
head_prev : (get : ℕ → Seen) (n : ℕ) (p v : Link) (o : Orientation) (F : Forest) → Rep get n p v o F
    → (a : ℕ) → head F ≡ to a → (get a).prev ≡ v
head_prev get n p v o empty r a e = absurd (let z : ◌≡◌ {A = ℕ} 0 1 = cc in omega arith)
head_prev get n p v o (slot i C S) r a e = rw (← to_inj e) r.0.prev

-- No slot stands twice in a forest that a table holds.
pub rep_distinct : (get : ℕ → Seen) (n : ℕ) (p v : Link) (o : Orientation) (F : Forest) → Rep get n p v o F
    → (d : ℕ) → EndsIn (up_of get) (or_else v p) d → Distinct (slots F)
rep_distinct get n p v o empty r d e = tt
rep_distinct get n p v o (slot i C S) r d e = (
  λ m. ⊎_elim not_c not_s (in_cases (slots C) (slots S) i m),
  distinct_append (slots C) (slots S)
      (rep_distinct get n (to i) none (flip o) C r.1 (suc d) rank)
      (rep_distinct get n p (to i) o S r.2 (suc d) rank) apart,
)
  where
    rank : EndsIn (up_of get) (to i) (suc d)
    rank = (i, refl, rw (r.0.prev, r.0.parent) e)

    high : (j a m : ℕ) → up_of get a ≡ to i → Reach (up_of get) (to j) m a → EndsIn (up_of get) (to j) (suc (m + suc d))
    high j a m u q = reach_ends (up_of get) (to j) m a (suc d) (m + suc d) q (rw u rank) refl

    not_c : In i (slots C) → ⊥
    not_c h =
        let q = reach_head get n (to i) none (flip o) C r.1 i h in
        omega (arith, ends_unique (up_of get) (to i) (suc d) (suc (q.1 + suc d)) rank (high i q.0 q.1 q.3 q.4))

    not_s : In i (slots S) → ⊥
    not_s h =
        let q = reach_head get n p (to i) o S r.2 i h in
        omega (arith, ends_unique (up_of get) (to i) (suc d) (suc (q.1 + suc d)) rank (high i q.0 q.1 q.3 q.4))

    apart : (j : ℕ) → In j (slots C) → In j (slots S) → ⊥
    apart j hc hs =
        let q = reach_head get n (to i) none (flip o) C r.1 j hc in
        let s = reach_head get n p (to i) o S r.2 j hs in
        let same : q.1 ≡ s.1 =
        omega (arith, ends_unique (up_of get) (to j) (suc (q.1 + suc d)) (suc (s.1 + suc d)) (high j q.0 q.1 q.3 q.4) (high j s.0 s.1 s.3 s.4)) in
        let one : q.0 ≡ s.0 = reach_one (up_of get) (to j) s.1 q.0 s.0 (rw same at q.4) s.4 in
        let pc : (get q.0).prev ≡ none = head_prev get n (to i) none (flip o) C r.1 q.0 q.2 in
        let ps : (get s.0).prev ≡ to i = head_prev get n p (to i) o S r.2 s.0 s.2 in
        let z : ◌≡◌ {A = ℕ} 0 1 = cc in omega arith
