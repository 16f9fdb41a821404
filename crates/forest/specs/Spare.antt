-- Rule 2: the spare chain is a chain that ends, that visits Unused slots alone and passes as many as there are.
-- Assumes nothing.
use Rattle.std.specs.Prelude.{ℕ, zero, suc, ◌<◌, ◌≡◌, refl, Bool, true, not, ◌⊎◌}
use Rattle.std.proofs.Common.{ap, inl, inr, ⊎_elim, arith}
use Rattle.std.proofs.lemmas.Bool.{not-true}
use Rattle.lists.specs.Counts.{count}
use Rattle.sound.specs.View.{Link, none, to, Seen, in_use, Dead}
use Rattle.sound.specs.ViewLaws.{to_inj}
use Rattle.sound.specs.Rules.{Ends, onward, Visits, it, later}
use Rattle.sound.specs.Sound.{SpareChain}
use Rattle.forest.specs.Pigeon.{In, pigeon, pigeon_all, cover_length}
use Rattle.forest.specs.Ends.{EndsIn, ends_in, in_ends, path, path_length, path_distinct}

-- What a path has, and what following it visits, are the same slots.
path_visits : (f : ℕ → Link) (l : Link) (k : ℕ) (e : EndsIn f l k) (a : ℕ) → In a (path f l k e) → Visits f a l
unfolding path
path_visits f l zero e a h = absurd h
path_visits f l (suc k) e a h =
    rw e.1 (⊎_elim {C = Visits f a (to e.0)} (λ q. rw (← q) it) (λ m. later {i = e.0} (path_visits f (f e.0) k e.2 a m)) h)

-- Following none visits nothing.
pub none_visits : {f : ℕ → Link} {a : ℕ} {l : Link} → Visits f a l → l ≡ none → ⊥
none_visits it e = let z : ◌≡◌ {A = ℕ} 0 1 = cc in omega arith
none_visits (later v) e = let z : ◌≡◌ {A = ℕ} 0 1 = cc in omega arith

-- Following a link to slot i visits i, and what following i's own link visits.
pub visits_step : {f : ℕ → Link} {a : ℕ} {l : Link} → Visits f a l → (i : ℕ) → l ≡ to i → (a ≡ i) ⊎ Visits f a (f i)
visits_step it i e = inl (to_inj e)
visits_step {f} {a} (later {i = j} v) i e = inr (rw (to_inj e) at v)

visits_path : (f : ℕ → Link) (l : Link) (k : ℕ) (e : EndsIn f l k) (a : ℕ) → Visits f a l → In a (path f l k e)
unfolding path
visits_path f l zero e a v = none_visits v e
visits_path f l (suc k) e a v =
    ⊎_elim {C = In a (path f l (suc k) e)} inl (λ w. inr (visits_path f (f e.0) k e.2 a w)) (visits_step v e.0 e.1)

-- A chain that ends, ends from each slot that it visits.
ends_from : {f : ℕ → Link} {a : ℕ} {l : Link} → Ends f l → Visits f a l → Ends f (to a)
ends_from e it = e
ends_from (onward e) (later v) = ends_from e v

-- A chain that ends visits no slot twice: following the link of a slot that it visits doesn't come back to the slot.
pub chain_visits_once : {f : ℕ → Link} {l : Link} → Ends f l → (a : ℕ) → Visits f a l → Visits f a (f a) → ⊥
unfolding path
chain_visits_once {f} e a v again = go (ends_in (ends_from e v))
  where
    go : (k : ℕ) × EndsIn f (to a) k → ⊥
    go (zero, r) = let z : ◌≡◌ {A = ℕ} 0 1 = cc in omega arith
    go (suc k, r) =
        let h : EndsIn f (f a) k = rw (← to_inj r.1) at r.2 in
        (path_distinct f (to a) (suc k) (a, refl, h)).0 (visits_path f (f a) k h a again)

-- An Unused slot.
abbrev pub is_dead : (ℕ → Seen) → ℕ → Bool
is_dead get j = not (in_use (get j).kind)

module _ (get : ℕ → Seen) (n : ℕ) (l : Link) where
  -- The spare chain passes as many slots as are Unused.
  pub spare_steps : SpareChain get n l → EndsIn (λ j. (get j).next) l (count (is_dead get) n)
  spare_steps S =
      let f : ℕ → Link = λ j. (get j).next in
      let e = ends_in S.ends in
      let dead : (a : ℕ) → In a (path f l e.0 e.1) → (a < n) × (is_dead get a ≡ true) =
      λ a m. let d = S.only a (path_visits f l e.0 e.1 a m) in (d.0, ap not d.1) in
      let up = pigeon (is_dead get) n (path f l e.0 e.1) (path_distinct f l e.0 e.1) dead in
      let down = cover_length (path f l e.0 e.1) (is_dead get) n (λ i a b. visits_path f l e.0 e.1 i (S.each i (a, not-true _ b))) in
      let same : count (is_dead get) n ≡ e.0 = omega (arith, path_length f l e.0 e.1, up, down) in
      rw same e.1

  -- A chain of Unused slots that passes as many as there are is the spare chain.
  pub steps_spare : EndsIn (λ j. (get j).next) l (count (is_dead get) n) → ((a : ℕ) → Visits (λ j. (get j).next) a l → Dead get n a) → SpareChain get n l
  steps_spare e only = record { ends = in_ends f l k e; only = only; each = each }
    where
      f : ℕ → Link
      f j = (get j).next

      k : ℕ
      k = count (is_dead get) n

      dead : (a : ℕ) → In a (path f l k e) → (a < n) × (is_dead get a ≡ true)
      dead a m = let d = only a (path_visits f l k e a m) in (d.0, ap not d.1)

      each : (i : ℕ) → Dead get n i → Visits f i l
      each i d =
          path_visits f l k e i
          (pigeon_all (is_dead get) n (path f l k e) (path_distinct f l k e) dead (path_length f l k e) i d.0 (ap not d.1))
