-- The laws of the search of one bucket: what each of its calls ensures makes the whole, and what it leaves.
-- Assumes nothing.
use Rattle.std.specs.Prelude.{◌≡◌, List, Option, ℕ}
use Rattle.geometry.specs.declared.Bucket.{Bucket}
use Rattle.lists.specs.Lists.{Bag}
use Rattle.buckets.specs.FreeLists.{Lists, list_of, with_list}
use Rattle.buckets.specs.FreeListLaws.{with_list_elim}
use Rattle.fits.specs.Scans.{Scanned, scanned, first, scan_all, BestWithin, Ready}
use Rattle.fits.specs.Thinned.{Thinned, thinned_itself}
use Rattle.fits.specs.ScanLaws.{list_in}
use Rattle.fits.proofs.ScanLaws.{ready_thinned, looking_thins}
use Rattle.fits.proofs.Candidates.{scan_scans, scanning_best}
use Rattle.fits.specs.declared.Query.{Query}
use Rattle.choices.specs.declared.Chosen.{Chosen}
use Rattle.choices.specs.Choices.{chosen_of, ScanAnswer, scan_answer, scan_bucket, Searched, searched, search_one, Searchable}

-- The scan of a list that is ready ends with its best candidate in the table.
pub scan_best : (w : List ℕ) (q : Query) (l : Bag) (o : Scanned) → o ≡ scan_all w q l.table l.len
    → Ready w l → BestWithin o.scan.best o.scan.place o.table
scan_best w q l o e r = rw e (scanning_best w q (scan_all w q l.table l.len) (scan_scans w q l.table l.len r.within))

-- The scan of a bucket's list, by the scan and the answer read off it.
pub bucket_scanned : (w : List ℕ) (q : Query) (b : Bucket) (l : Bag) (o : Scanned) (c : Option Chosen) → o ≡ scan_all w q l.table l.len
    → c ≡ chosen_of b o.scan.best o.scan.place o.table → scan_answer c (list_in o) ≡ scan_bucket w q b l
unfolding scan_bucket
bucket_scanned w q b l o c e f = rw (f, e)

-- The search of one bucket, by the scan of its list.
pub one_searched : (w : List ℕ) (q : Query) (b c : Bucket) (l : Lists) (a : ScanAnswer) → b ≡ c → a ≡ scan_bucket w q b (list_of c l)
    → searched a.chosen (with_list c a.list l) ≡ search_one w q b l
unfolding search_one
one_searched w q b c l a e f = rw (f, e)

-- The search of one bucket thins its list and leaves the others.
pub one_thins : (w : List ℕ) (q : Query) (b : Bucket) (l : Lists) → Searchable w l → (c : Bucket)
    → Thinned w (list_of c l) (list_of c (search_one w q b l).lists)
unfolding search_one scan_bucket
one_thins w q b l r =
    with_list_elim (λ c a. Thinned w (list_of c l) a) b (scan_bucket w q b (list_of b l)).list l
    (looking_thins w q (list_of b l).len (scanned (first q (list_of b l).len) (list_of b l).table) (r b).within) (λ c. thinned_itself)

-- Thinned lists are as ready to be searched as they were.
pub searchable_thinned : {w : List ℕ} {l m : Lists} → ((c : Bucket) → Thinned w (list_of c l) (list_of c m)) → Searchable w l → Searchable w m
searchable_thinned t r = λ c. ready_thinned (t c) (r c)

-- The search of one bucket leaves the lists ready to be searched.
pub one_searchable : (w : List ℕ) (q : Query) (b : Bucket) (l : Lists) (s : Searched) → s ≡ search_one w q b l → Searchable w l → Searchable w s.lists
one_searchable w q b l s e r = rw e (searchable_thinned (one_thins w q b l r) r)
