-- Forgetting a slot: how the buckets are looked at, and what is then different.
-- Assumes nothing.
use Rattle.std.specs.Prelude.{◌≡◌, refl, List, [], ◌∷◌, Option, Some, None, ◌⊎◌, ℕ, ◌+◌, ◌-◌, ◌<◌, ◌≤◌, length, drop, get_or}
use Rattle.std.proofs.Common.{sym, ◌∙◌, inl, inr, ⊎_elim, arith, ne_eqb, add-one, drop-cons}
use Rattle.std.proofs.lemmas.List.{drop_all}
use Rattle.geometry.specs.declared.Bucket.{Bucket}
use Rattle.geometry.specs.declared.Bucket.TheVariants.{Small, Medium, Large}
use Rattle.lists.specs.Lists.{Bag, removed, first_of, Each}
use Rattle.buckets.specs.FreeLists.{Lists, list_of, with_list, Within, first_in, removed_from, entry_or, entry_in, entry_of, taken_out, forgotten}
use Rattle.lists.specs.Counts.{holds, occurrences}
use Rattle.lists.specs.CountLaws.{count_none}
use Rattle.lists.specs.FirstLaws.{first_holds, first_absent}
use Rattle.lists.specs.ListLaws.{length_removed, each_removed}
use Rattle.lists.specs.OccurrenceLaws.{removed_one, removed_others}
use Rattle.buckets.specs.FreeListLaws.{with_list_elim, removed_from_within}
use Rattle.buckets.specs.declared.Entry.{Entry}

-- The buckets from place i on are looked at: the entry is in the first of them, or the next ones are looked at.
module _ (v : ℕ) (bs : List Bucket) (l : Lists) (i : ℕ) (h : i < length bs) (f : Option ℕ) (e : f ≡ first_in v (get_or bs i Small) l) where
  pub entry_here : (k : ℕ) → f ≡ Some k → Some (record { bucket = get_or bs i Small; place = k }) ≡ entry_in v (drop i bs) l
  unfolding entry_in
  entry_here k q = rw (drop-cons bs i Small h, ← e, q)

  pub entry_on : f ≡ None → entry_in v (drop (i + 1) bs) l ≡ entry_in v (drop i bs) l
  unfolding entry_in
  entry_on q = rw (drop-cons bs i Small h, ← e, q, add-one)

-- With no bucket left there is none.
pub entry_none : (v : ℕ) (bs : List Bucket) (l : Lists) (i : ℕ) → length bs ≤ i → None ≡ entry_in v (drop i bs) l
unfolding entry_in
entry_none v bs l i h = rw (drop_all i bs h)

-- What forgetting v makes of the lists: v stands in none and nothing changes, or one of its entries is taken out.
pub data Forgets (v : ℕ) (l : Lists) : Lists → Type 0 where
  nowhere : ((b : Bucket) → occurrences v (list_of b l) ≡ 0) → Forgets v l l
  takes : (b : Bucket) (k : ℕ) → k < (list_of b l).len → get_or (list_of b l).table k 0 ≡ v → Forgets v l (removed_from b k l)

-- A list in which nothing is found has no entry of v.
none_found : (v : ℕ) (b : Bag) → first_of b.table v 0 b.len ≡ None → occurrences v b ≡ 0
none_found v b e =
    count_none (holds b v) b.len
    (λ j l. ne_eqb (get_or b.table j 0) v (first_absent b.table v 0 b.len e j (omega arith) (omega arith)))

-- A bucket is one of the list.
abbrev Among : Bucket → List Bucket → Type 0
Among b [] = ⊥
Among b (c ∷ cs) = (b ≡ c) ⊎ Among b cs

-- The buckets still to be looked at, where each other one has no entry of v.
forgets_in : (v : ℕ) (l : Lists) (bs : List Bucket) → ((b : Bucket) → (occurrences v (list_of b l) ≡ 0) ⊎ Among b bs) → Forgets v l (taken_out (entry_in v bs l) l)
unfolding entry_in
forgets_in v l [] h = nowhere (λ b. ⊎_elim (λ e. e) (λ n. absurd n) (h b))
forgets_in v l (b ∷ bs) h = go (first_in v b l) refl (forgets_in v l bs)
  where
    go : (f : Option ℕ) → first_in v b l ≡ f
        → (((c : Bucket) → (occurrences v (list_of c l) ≡ 0) ⊎ Among c bs) → Forgets v l (taken_out (entry_in v bs l) l))
        → Forgets v l (taken_out (entry_or f b (entry_in v bs l)) l)
    go (Some k) e r =
        let g = first_holds (list_of b l).table v 0 (list_of b l).len k e in
        takes b k (omega (arith, g.0)) g.1
    go None e r = r (λ c. ⊎_elim (λ z. inl z) (⊎_elim (λ q. inl (rw q (none_found v (list_of b l) e))) (λ i. inr i)) (h c))

-- An entry found is at a filled place.
entry_in_lem : (v : ℕ) (l : Lists) (bs : List Bucket) (x : Entry) → Some x ≡ entry_in v bs l → x.place < (list_of x.bucket l).len
unfolding entry_in
entry_in_lem v l [] x = λ e. absurd (let z : ◌≡◌ {A = ℕ} 0 1 = cc in omega arith)
entry_in_lem v l (c ∷ bs) x = go (first_in v c l) refl (entry_in_lem v l bs x)
  where
    go : (f : Option ℕ) → first_in v c l ≡ f → (Some x ≡ entry_in v bs l → x.place < (list_of x.bucket l).len)
        → Some x ≡ entry_or f c (entry_in v bs l) → x.place < (list_of x.bucket l).len
    go (Some j) e r q =
        let g = first_holds (list_of c l).table v 0 (list_of c l).len j e in
        let z : x ≡ record { bucket = c; place = j } = cc in
        rw z (omega (arith, g.0))
    go None e r q = r q

pub entry_within : (v : ℕ) (l : Lists) (f : Option Entry) (x : Entry) → f ≡ entry_of v l → f ≡ Some x → x.place < (list_of x.bucket l).len
unfolding entry_of
entry_within v l f x e q = entry_in_lem v l (Small ∷ Medium ∷ Large ∷ []) x (sym q ∙ e)

every : (b : Bucket) → Among b (Small ∷ Medium ∷ Large ∷ [])
every Small = inl refl
every Medium = inr (inl refl)
every Large = inr (inr (inl refl))

-- THE LAW: this is what `forgotten` does.
pub forgets : (v : ℕ) (l : Lists) → Forgets v l (forgotten v l)
unfolding forgotten entry_of
forgets v l = forgets_in v l (Small ∷ Medium ∷ Large ∷ []) (λ b. inr (every b))

-- What holds of the lists where v stands in none, and with any one entry of v taken out, holds of the lists after forgetting v.
pub forgotten_elim : (P : Lists → Type 0) (v : ℕ) (l : Lists) → (((b : Bucket) → occurrences v (list_of b l) ≡ 0) → P l)
    → ((b : Bucket) (k : ℕ) → k < (list_of b l).len → get_or (list_of b l).table k 0 ≡ v → P (removed_from b k l)) → P (forgotten v l)
forgotten_elim P v l f g = go (forgotten v l) (forgets v l)
  where
    go : (m : Lists) → Forgets v l m → P m
    go m (nowhere n) = f n
    go m (takes b k h q) = g b k h q

-- How many entries of x the three lists have.
abbrev pub total : ℕ → Lists → ℕ
total x l = occurrences x l.small + occurrences x l.medium + occurrences x l.large

total_with_list : (x : ℕ) (b : Bucket) (y : Bag) (l : Lists) → total x (with_list b y l) + occurrences x (list_of b l) ≡ total x l + occurrences x y
total_with_list x Small y l = omega arith
total_with_list x Medium y l = omega arith
total_with_list x Large y l = omega arith

module _ (v : ℕ) (l : Lists) (w : Within l) where
  -- One entry of v is taken out, if there is one.
  pub forgotten_one : total v (forgotten v l) ≡ total v l - 1
  forgotten_one =
      forgotten_elim (λ (m : Lists). total v m ≡ total v l - 1) v l (λ n. omega (arith, n Small, n Medium, n Large))
      (λ b k h q. omega (arith, total_with_list v b (removed (list_of b l) k) l, removed_one v (list_of b l) k h (w b) q))

  -- Every other slot occurs in each list as often as before.
  pub forgotten_others : (x : ℕ) → (x ≡ v → ⊥) → (b : Bucket) → occurrences x (list_of b (forgotten v l)) ≡ occurrences x (list_of b l)
  forgotten_others x d =
      forgotten_elim (λ (m : Lists). (b : Bucket) → occurrences x (list_of b m) ≡ occurrences x (list_of b l)) v l (λ _ b. refl)
      (λ c k h q.
      with_list_elim (λ b (y : Bag). occurrences x y ≡ occurrences x (list_of b l)) c (removed (list_of c l) k) l
      (removed_others x (list_of c l) k h (w c) (λ e. d (sym e ∙ q))) (λ _. refl))

  -- The lengths stay within the tables, and the tables keep theirs.
  pub forgotten_within : Within (forgotten v l)
  forgotten_within = forgotten_elim Within v l (λ _. w) (λ b k h q. removed_from_within b k l w)

  pub forgotten_length : (b : Bucket) → length (list_of b (forgotten v l)).table ≡ length (list_of b l).table
  forgotten_length =
      forgotten_elim (λ (m : Lists). (b : Bucket) → length (list_of b m).table ≡ length (list_of b l).table) v l (λ _ b. refl)
      (λ c k h q.
      with_list_elim (λ b (y : Bag). length y.table ≡ length (list_of b l).table) c (removed (list_of c l) k) l
      (length_removed (list_of c l) k) (λ _. refl))

  -- What holds of every entry still does.
  pub each_forgotten : (P : ℕ → Type 0) → ((b : Bucket) → Each P (list_of b l)) → (b : Bucket) → Each P (list_of b (forgotten v l))
  each_forgotten P e =
      forgotten_elim (λ (m : Lists). (b : Bucket) → Each P (list_of b m)) v l (λ _. e)
      (λ c k h q. with_list_elim (λ _. Each P) c (removed (list_of c l) k) l (each_removed P (list_of c l) k h (w c) (e c)) e)

-- With what was found, the entry is taken out, or nothing changes.
module _ (v : ℕ) (l m : Lists) (f : Option Entry) (e : f ≡ entry_of v l) where
  pub forget_entry : (x : Entry) → f ≡ Some x → m ≡ removed_from x.bucket x.place l → m ≡ forgotten v l
  unfolding forgotten
  forget_entry x q r = rw (← e, q) r

  pub forget_nothing : f ≡ None → m ≡ l → m ≡ forgotten v l
  unfolding forgotten
  forget_nothing q r = rw (← e, q) r
