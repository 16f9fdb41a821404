-- The laws of the search by which its functions are proved: what each of their calls ensures makes the whole.
-- Assumes nothing.
use Rattle.std.specs.Prelude.{◌≡◌, Bool, true, false, List, Option, Some, None, ℕ}
use Rattle.std.proofs.Math.Path.{refl}
use Rattle.std.proofs.Common.{arith}
use Rattle.geometry.specs.Choice.{pick, pick_elim}
use Rattle.geometry.specs.declared.Bucket.{Bucket}
use Rattle.geometry.specs.declared.Bucket.TheVariants.{Small, Medium, Large}
use Rattle.buckets.specs.FreeLists.{Lists}
use Rattle.fits.specs.declared.Query.{Query}
use Rattle.choices.specs.declared.Chosen.{Chosen}
use Rattle.geometry.specs.Buckets.{bucket_of}
use Rattle.geometry.specs.declared.Extent.{Extent}
use Rattle.geometry.specs.declared.Setup.{Setup}
use Rattle.choices.specs.Choices.{Searched, search_one, is_large, higher, settled, Searchable}
use Rattle.choices.specs.ChoiceLaws.{one_searchable}
use Rattle.search.specs.Search.{search_up, gone_on, find_suitable}

-- One bucket more: the search ended before, or it is that of the bucket above.
module _ (w : List ℕ) (q : Query) (b : Bucket) (s r : Searched) where
  pub on_ends : settled s.chosen b ≡ true → r ≡ s → r ≡ gone_on w q b s
  unfolding gone_on
  on_ends f e = rw f e

  pub on_above : (c : Bucket) → settled s.chosen b ≡ false → c ≡ higher b → r ≡ search_one w q c s.lists → r ≡ gone_on w q b s
  unfolding gone_on
  on_above c f h e = rw (f, ← h) e

  -- The lists stay ready to be searched.
  pub on_searchable : r ≡ gone_on w q b s → Searchable w s.lists → Searchable w r.lists
  unfolding gone_on
  on_searchable e h =
      rw e
      (pick_elim (λ (t : Searched). Searchable w t.lists) (settled s.chosen b) s (search_one w q (higher b) s.lists) (λ _. h)
      (λ _. one_searchable w q (higher b) s.lists _ refl h))

-- A search that has ended has ended in the bucket above too.
settled_higher : (c : Option Chosen) (b : Bucket) → settled c b ≡ true → settled c (higher b) ≡ true
settled_higher (Some a) b f = refl
settled_higher None Small f = let z : ◌≡◌ {A = ℕ} 0 1 = cc in absurd (omega arith)
settled_higher None Medium f = refl
settled_higher None Large f = refl

-- From a bucket upward: the bucket, and twice one more.
pub up_thrice : (w : List ℕ) (q : Query) (b c : Bucket) (l : Lists) (s t r : Searched) → s ≡ search_one w q b l → t ≡ gone_on w q b s → c ≡ higher b
    → r ≡ gone_on w q c t → r ≡ search_up w q 2 b l
unfolding search_up gone_on
up_thrice w q b c l s t r es et ec er = rw (er, et, ec, es) (go (settled (search_one w q b l).chosen b) refl)
  where
    go : (d : Bool) → settled (search_one w q b l).chosen b ≡ d
        → let s = search_one w q b l in
        let t = pick d s (search_one w q (higher b) s.lists) in
        pick (settled t.chosen (higher b)) t (search_one w q (higher (higher b)) t.lists) ≡ pick d s (let u = search_one w q (higher b) s.lists in pick (settled u.chosen (higher b)) u (search_one w q (higher (higher b)) u.lists))
    go true f = rw (settled_higher (search_one w q b l).chosen b f)
    go false f = refl

-- The search for a request, by its bucket and whether that is large.
pub suitable_found : (w : List ℕ) (s : Setup) (e : Extent) (l : Lists) (b : Bucket) (t : Bool) (f : Searched)
    → b ≡ bucket_of s.small s.large e.width e.height → t ≡ is_large b
    → f ≡ search_up w (record { width = e.width; height = e.height; worst = t }) 2 b l → f ≡ find_suitable w s e l
unfolding find_suitable
suitable_found w s e l b t f eb et ef = rw (ef, et, eb)
