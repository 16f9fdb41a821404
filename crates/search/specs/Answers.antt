-- What the answer of a search tells: a slot that suits, or that none of the lists searched has an entry of one.
-- Assumes nothing.
use Rattle.std.specs.Prelude.{◌≡◌, refl, true, false, List, Option, Some, None, ℕ, zero, suc, ◌+◌, ◌≤◌, ◌<◌, get_or}
use Rattle.std.proofs.Common.{⊎_elim, arith}
use Rattle.geometry.specs.Choice.{pick_elim}
use Rattle.geometry.specs.Buckets.{rank}
use Rattle.geometry.specs.BucketLaws.{rank_injective}
use Rattle.geometry.specs.declared.Bucket.{Bucket}
use Rattle.geometry.specs.declared.Bucket.TheVariants.{Small, Medium, Large}
use Rattle.slots.specs.declared.AllocIndex.{AllocIndex}
use Rattle.buckets.specs.FreeLists.{Lists, list_of, with_list}
use Rattle.fits.specs.declared.Best.{Best}
use Rattle.fits.specs.declared.Best.TheVariants as best
use Rattle.choices.specs.declared.Chosen.{Chosen}
use Rattle.fits.specs.declared.Query.{Query}
use Rattle.fits.specs.Scans.{Scanned}
use Rattle.choices.specs.Choices.{chosen_of, scan_bucket, Searched, search_one, is_large, higher, settled, Searchable}
use Rattle.search.specs.Search.{search_up}
use Rattle.fits.specs.Suits.{Suits}
use Rattle.geometry.specs.TestLaws.{same_or_not}
use Rattle.lists.specs.Counts.{occurrences}
use Rattle.lists.specs.OccurrenceLaws.{occurs_at}
use Rattle.buckets.specs.FreeListLaws.{list_of_with_list_same}
use Rattle.fits.specs.Thinned.{Thinned, thinned_twice}
use Rattle.fits.specs.ScanLaws.{list_in}
use Rattle.fits.proofs.ScanLaws.{looking_ends}
use Rattle.fits.specs.Candidates.{Scanning, SoFar}
use Rattle.fits.proofs.Candidates.{scan_scans}
use Rattle.choices.specs.ChoiceLaws.{one_thins, one_searchable}

-- What is known of the slot that a search of some buckets chose: its entry's place, and that it suits.
pub record Chose (w : List ℕ) (q : Query) (Among : Bucket → Type 0) (l : Lists) (i : AllocIndex) (b : Bucket) (k : ℕ) : Type 0 where
  pub among : Among b
  pub place : k < (list_of b l).len
  pub entry : get_or (list_of b l).table k 0 ≡ i.0
  pub suits : Suits w q.width q.height i.0

-- What the answer of a search of some buckets tells.
abbrev pub Answered : List ℕ → Query → (Bucket → Type 0) → Lists → Option Chosen → Type 0
Answered w q Among l (Some c) = Chose w q Among l c.slot c.bucket c.place
Answered w q Among l None = (c : Bucket) → Among c → (x : ℕ) → 0 < occurrences x (list_of c l) → Suits w q.width q.height x → ⊥

-- A bucket that isn't large has the next above it; large is the last.
rank_higher : (b : Bucket) → is_large b ≡ false → rank (higher b) ≡ rank b + 1
rank_higher Small e = refl
rank_higher Medium e = refl
rank_higher Large e = let z : ◌≡◌ {A = ℕ} 0 1 = cc in absurd (omega arith)

rank_large : (b : Bucket) → is_large b ≡ true → 2 ≤ rank b
rank_large Small e = let z : ◌≡◌ {A = ℕ} 0 1 = cc in absurd (omega arith)
rank_large Medium e = let z : ◌≡◌ {A = ℕ} 0 1 = cc in absurd (omega arith)
rank_large Large e = omega arith

rank_last : (b : Bucket) → rank b ≤ 2
rank_last Small = omega arith
rank_last Medium = omega arith
rank_last Large = omega arith

-- A search goes on where nothing was chosen and the bucket isn't large.
settled_true : (a : Option Chosen) (b : Bucket) → settled a b ≡ true → a ≡ None → 2 ≤ rank b
settled_true a b f e = rank_large b (rw e at f)

settled_false : (a : Option Chosen) (b : Bucket) → settled a b ≡ false → (a ≡ None) × (is_large b ≡ false)
settled_false (Some c) b f = let z : ◌≡◌ {A = ℕ} 0 1 = cc in absurd (omega arith)
settled_false None b f = (refl, f)

-- One bucket: what its scan knows at the end is what the answer tells.
one_answers : (w : List ℕ) (q : Query) (b : Bucket) (l : Lists) → Searchable w l
    → Answered w q (λ c. c ≡ b) (search_one w q b l).lists (search_one w q b l).chosen
unfolding search_one scan_bucket
one_answers w q b l r = answer _ (scan_scans w q (list_of b l).table (list_of b l).len (r b).within) (looking_ends w q (list_of b l).len _ (omega arith))
  where
    answer : (o : Scanned) → Scanning w q o → o.scan.len ≤ o.scan.at
        → Answered w q (λ c. c ≡ b) (with_list b (list_in o) l) (chosen_of b o.scan.best o.scan.place o.table)
    answer o s h = cases o.scan.best o.scan.place s.so_far
      where
        cases : (a : Best) (k : ℕ) → SoFar w q o.table o.scan.at a k → Answered w q (λ c. c ≡ b) (with_list b (list_in o) l) (chosen_of b a k o.table)
        cases best.Found k f =
            record {
              among = refl;
              place = rw (list_of_with_list_same b (list_in o) l) (omega (arith, f.0, s.placed));
              entry = rw (list_of_with_list_same b (list_in o) l);
              suits = f.1;
            }
        cases best.Nothing k f =
            λ c e x n z.
            let m : 0 < occurrences x (list_in o) = (rw (e, list_of_with_list_same b (list_in o) l) at n) in
            occurs_at x (list_in o) m (λ j g y. f j (omega arith) (rw (← y) at z))

-- The bucket decides: with a choice, or as the last.
answered_here : (w : List ℕ) (q : Query) (b : Bucket) (l : Lists) (a : Option Chosen) → (a ≡ None → 2 ≤ rank b)
    → Answered w q (λ c. c ≡ b) l a → Answered w q (λ c. rank b ≤ rank c) l a
answered_here w q b l (Some a) n h = record { among = rw h.among (omega arith); place = h.place; entry = h.entry; suits = h.suits }
answered_here w q b l None n h = λ c g. h c (rank_injective (omega (arith, rank_last c, n refl)))

-- The buckets above decide: the lists are thinned further, so the bucket's has still no entry that suits.
answered_above : (w : List ℕ) (q : Query) (b : Bucket) (l m : Lists) (a : Option Chosen) → rank (higher b) ≡ rank b + 1
    → ((c : Bucket) → Thinned w (list_of c l) (list_of c m))
    → Answered w q (λ c. c ≡ b) l None → Answered w q (λ c. rank (higher b) ≤ rank c) m a → Answered w q (λ c. rank b ≤ rank c) m a
answered_above w q b l m (Some a) e t n h = record { among = omega (arith, h.among); place = h.place; entry = h.entry; suits = h.suits }
answered_above w q b l m None e t n h =
    λ c g x o.
    ⊎_elim (λ s. n c (rank_injective s) x (omega (arith, (t c).drops x))) (λ d. h c (omega arith) x o) (same_or_not (rank c) (rank b))

-- From a bucket upward every list is thinned.
pub up_thins : (w : List ℕ) (q : Query) (k : ℕ) (b : Bucket) (l : Lists) → Searchable w l → (c : Bucket)
    → Thinned w (list_of c l) (list_of c (search_up w q k b l).lists)
unfolding search_up
up_thins w q zero b l r c = one_thins w q b l r c
up_thins w q (suc k) b l r c =
    pick_elim (λ (s : Searched). Thinned w (list_of c l) (list_of c s.lists)) (settled (search_one w q b l).chosen b) _ _
    (λ f. one_thins w q b l r c)
    (λ f. thinned_twice (one_thins w q b l r c) (up_thins w q k (higher b) (search_one w q b l).lists (one_searchable w q b l _ refl r) c))

-- From a bucket upward, with a look at each bucket above, the answer speaks of the bucket and all above it.
pub up_answers : (w : List ℕ) (q : Query) (k : ℕ) (b : Bucket) (l : Lists) → 2 ≤ rank b + k → Searchable w l
    → Answered w q (λ c. rank b ≤ rank c) (search_up w q k b l).lists (search_up w q k b l).chosen
unfolding search_up
up_answers w q zero b l h r = answered_here w q b _ _ (λ (n : (search_one w q b l).chosen ≡ None). omega arith) (one_answers w q b l r)
up_answers w q (suc k) b l h r =
    let s = search_one w q b l in
    let one = one_answers w q b l r in
    let ready = one_searchable w q b l _ refl r in
    pick_elim (λ (s : Searched). Answered w q (λ c. rank b ≤ rank c) s.lists s.chosen) (settled s.chosen b) _ _
    (λ f. answered_here w q b s.lists s.chosen (settled_true s.chosen b f) one)
    (λ f.
    let n = settled_false s.chosen b f in
    let e = rank_higher b n.1 in
    let t = search_up w q k (higher b) s.lists in
    answered_above w q b s.lists t.lists t.chosen e (up_thins w q k (higher b) s.lists ready) (rw n.0 at one)
    (up_answers w q k (higher b) s.lists (omega arith) ready))
