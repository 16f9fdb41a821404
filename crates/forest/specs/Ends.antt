-- Following a link of each slot until there is none.
-- Assumes nothing.
use Rattle.std.specs.Prelude.{ℕ, zero, suc, ◌+◌, ◌≤◌, ◌<◌, ◌≡◌, refl, Bool, true, false, ◌⊎◌, List, [], ◌∷◌, ◌++◌, length}
use Rattle.std.proofs.Common.{sym, ◌∙◌, ap, inl, inr, ⊎_elim, arith}
use Rattle.lists.specs.Counts.{count}
use Rattle.sound.specs.View.{Link, none, to}
use Rattle.sound.specs.Rules.{Ends, arrived, onward}
use Rattle.forest.specs.Pigeon.{In, Distinct, pigeon}

-- The same with the number of slots passed: for the proofs.
abbrev pub EndsIn : (ℕ → Link) → Link → ℕ → Type 0
EndsIn f l zero = l ≡ none
EndsIn f l (suc k) = (i : ℕ) × (l ≡ to i) × EndsIn f (f i) k

pub ends_in : {f : ℕ → Link} {l : Link} → Ends f l → (k : ℕ) × EndsIn f l k
ends_in arrived = (0, refl)
ends_in {f} (onward {i = i} e) = let r = ends_in e in (suc r.0, (i, refl, r.1))

pub in_ends : (f : ℕ → Link) (l : Link) (k : ℕ) → EndsIn f l k → Ends f l
in_ends f l zero e = rw e arrived
in_ends f l (suc k) e = rw e.1 (onward (in_ends f (f e.0) k e.2))

-- From one slot on.
pub ends_after : (f : ℕ → Link) (i : ℕ) (k : ℕ) → EndsIn f (f i) k → EndsIn f (to i) (suc k)
ends_after f i k e = (i, refl, e)

-- There is one number of steps.
pub ends_unique : (f : ℕ → Link) (l : Link) (k m : ℕ) → EndsIn f l k → EndsIn f l m → k ≡ m
ends_unique f l zero zero a b = refl
ends_unique f l zero (suc m) a b = absurd (let z : ◌≡◌ {A = ℕ} 0 1 = never (sym a ∙ b.1) in omega arith)
  where
    never : {i : ℕ} → none ≡ to i → ◌≡◌ {A = ℕ} 0 1
    never p = cc
ends_unique f l (suc k) zero a b = absurd (let z : ◌≡◌ {A = ℕ} 0 1 = never (sym b ∙ a.1) in omega arith)
  where
    never : {i : ℕ} → none ≡ to i → ◌≡◌ {A = ℕ} 0 1
    never p = cc
ends_unique f l (suc k) (suc m) a b =
    ap suc (ends_unique f (f a.0) k m a.2 (rw same b.2))
  where
    inj : {i j : ℕ} → to i ≡ to j → i ≡ j
    inj p = cc

    same : a.0 ≡ b.0
    same = inj (sym a.1 ∙ b.1)

-- The slots passed.
unfoldable pub path : (f : ℕ → Link) (l : Link) (k : ℕ) → EndsIn f l k → List ℕ
path f l zero e = []
path f l (suc k) e = e.0 ∷ path f (f e.0) k e.2

pub path_length : (f : ℕ → Link) (l : Link) (k : ℕ) (e : EndsIn f l k) → length (path f l k e) ≡ k
unfolding path
path_length f l zero e = refl
path_length f l (suc k) e = ap suc (path_length f (f e.0) k e.2)

-- Each of them has fewer steps left than the walk had.
path_rank : (f : ℕ → Link) (l : Link) (k : ℕ) (e : EndsIn f l k) (a : ℕ) → In a (path f l k e)
    → (m : ℕ) × (m < k) × EndsIn f (to a) (suc m)
unfolding path
path_rank f l zero e a h = absurd h
path_rank f l (suc k) e a h =
    ⊎_elim {C = (m : ℕ) × (m < suc k) × EndsIn f (to a) (suc m)}
    (λ q. (k, omega arith, (e.0, ap to q, e.2)))
    (λ m. let r = path_rank f (f e.0) k e.2 a m in (r.0, omega arith, r.2)) h

pub path_distinct : (f : ℕ → Link) (l : Link) (k : ℕ) (e : EndsIn f l k) → Distinct (path f l k e)
unfolding path
path_distinct f l zero e = tt
path_distinct f l (suc k) e = (fresh, path_distinct f (f e.0) k e.2)
  where
    fresh : In e.0 (path f (f e.0) k e.2) → ⊥
    fresh m =
        let r = path_rank f (f e.0) k e.2 e.0 m in
        let u = ends_unique f (to e.0) (suc k) (suc r.0) (e.0, refl, e.2) r.2 in
        omega arith

pub path_stays : (f : ℕ → Link) (P : ℕ → Type 0) → ((i j : ℕ) → P i → f i ≡ to j → P j)
    → (l : Link) → ((i : ℕ) → l ≡ to i → P i)
    → (k : ℕ) (e : EndsIn f l k) (a : ℕ) → In a (path f l k e) → P a
unfolding path
path_stays f P closed l start zero e a h = absurd h
path_stays f P closed l start (suc k) e a h =
    ⊎_elim {C = P a} (λ q. rw q (start e.0 e.1))
    (path_stays f P closed (f e.0) (λ j q. closed e.0 j (start e.0 e.1) q) k e.2 a) h

-- A walk that ends and stays among the slots below `n` that pass a test takes at most as many steps as pass it.
pub ends_bounded : (f : ℕ → Link) (p : ℕ → Bool) (n : ℕ)
    → ((i j : ℕ) → (i < n) × (p i ≡ true) → f i ≡ to j → (j < n) × (p j ≡ true))
    → (l : Link) → ((i : ℕ) → l ≡ to i → (i < n) × (p i ≡ true))
    → (k : ℕ) → EndsIn f l k → k ≤ count p n
ends_bounded f p n closed l start k e =
    let r = pigeon p n (path f l k e) (path_distinct f l k e)
    (path_stays f (λ i. (i < n) × (p i ≡ true)) closed l start k e) in
    omega (arith, path_length f l k e)
