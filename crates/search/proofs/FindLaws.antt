-- What a search for a request does and what its answer means: the laws that its callers use.
-- Each is about the outcome f of a search of lists that are ready for it. Assumes nothing.
use Rattle.std.specs.Prelude.{◌≡◌, refl, true, List, Option, Some, None, ℕ, ◌≤◌, ◌<◌, length}
use Rattle.std.proofs.Common.{subst, arith}
use Rattle.geometry.specs.Rectangles.{width_of, height_of}
use Rattle.geometry.specs.Buckets.{rank}
use Rattle.geometry.specs.BucketLaws.{bucket_rises}
use Rattle.geometry.specs.declared.Bucket.{Bucket}
use Rattle.geometry.specs.declared.Extent.{Extent}
use Rattle.geometry.specs.declared.Setup.{Setup}
use Rattle.slots.specs.Slots.{slot}
use Rattle.table.specs.Table.{node_at}
use Rattle.slots.specs.declared.AllocIndex.{AllocIndex}
use Rattle.slots.specs.declared.NodeKind.TheVariants.{Free}
use Rattle.lists.specs.Lists.{free_entry, Each}
use Rattle.buckets.specs.FreeLists.{Lists, list_of}
use Rattle.choices.specs.declared.Chosen.{Chosen}
use Rattle.fits.specs.Scans.{Lookable}
use Rattle.choices.specs.Choices.{chosen_at, Searched, Searchable}
use Rattle.search.specs.Search.{query_of, find_suitable}
use Rattle.fits.specs.Suits.{Suits}
use Rattle.lists.specs.Counts.{occurrences}
use Rattle.fits.specs.Thinned.{Thinned, each_thinned}
use Rattle.choices.specs.ChoiceLaws.{searchable_thinned}
use Rattle.search.specs.Answers.{Chose, Answered, up_thins, up_answers}
use Rattle.search.specs.FindLaws.{ideal_of}

module _ (w : List ℕ) (s : Setup) (e : Extent) (l : Lists) (f : Searched) (found : f ≡ find_suitable w s e l) (ready : Searchable w l) where
  -- Every list is thinned: entries of slots that aren't Free are taken out, and nothing else.
  pub search_thins : (b : Bucket) → Thinned w (list_of b l) (list_of b f.lists)
  unfolding find_suitable
  search_thins = rw found (up_thins w (query_of s e) 2 (ideal_of s e.width e.height) l ready)

  -- The lists stay ready to be searched.
  pub search_keeps_searchable : Searchable w f.lists
  search_keeps_searchable = searchable_thinned search_thins ready

  -- Each table is as long as it was, and no list grows.
  pub search_within : (b : Bucket) → (length (list_of b f.lists).table ≡ length (list_of b l).table) × ((list_of b f.lists).len ≤ (list_of b l).len)
  search_within b = ((search_thins b).table, (search_thins b).shorter)

  -- No entry is added.
  pub search_drops_dead : (b : Bucket) (x : ℕ) → occurrences x (list_of b f.lists) ≤ occurrences x (list_of b l)
  search_drops_dead b = (search_thins b).drops

  -- Every entry of a Free slot stays.
  pub search_keeps_free : (b : Bucket) (x : ℕ) → free_entry w x ≡ true → occurrences x (list_of b f.lists) ≡ occurrences x (list_of b l)
  search_keeps_free b = (search_thins b).keeps

  -- What holds of every entry of a list still does.
  pub search_each : (P : ℕ → Type 0) (b : Bucket) → Each P (list_of b l) → Each P (list_of b f.lists)
  search_each P b = each_thinned P (search_thins b)

  answers : Answered w (query_of s e) (λ c. rank (ideal_of s e.width e.height) ≤ rank c) f.lists f.chosen
  unfolding find_suitable
  answers = rw found (up_answers w (query_of s e) 2 (ideal_of s e.width e.height) l (omega arith) ready)

  -- The slot chosen suits the request, its entry stands at the place given, and its list is of the request's bucket or above.
  pub search_chosen : (i : AllocIndex) (b : Bucket) (k : ℕ) → f.chosen ≡ chosen_at i b k
      → Chose w (query_of s e) (λ c. rank (ideal_of s e.width e.height) ≤ rank c) f.lists i b k
  search_chosen i b k c = rw c at answers

  -- The slot chosen is in the table, with its corners in order.
  pub search_chosen_lookable : (i : AllocIndex) (b : Bucket) (k : ℕ) → f.chosen ≡ chosen_at i b k → Lookable w i.0
  search_chosen_lookable i b k c =
      let z = search_chosen i b k c in
      subst (Lookable w) z.entry ((search_keeps_searchable b).entries k z.place)

  -- Where each Free slot below n has an entry in its own bucket's list, and every entry is below n, the search is exact.
  module _ (n : ℕ) where
    -- Nothing is chosen only where no slot suits.
    pub search_nothing_means_none : ((x : ℕ) → x < n → (node_at w (slot x)).kind ≡ Free
        → 0 < occurrences x (list_of (ideal_of s (width_of (node_at w (slot x)).rect) (height_of (node_at w (slot x)).rect)) l))
        → f.chosen ≡ None → (x : ℕ) → x < n → Suits w e.width e.height x → ⊥
    search_nothing_means_none listed c x h z =
        let b = ideal_of s (width_of (node_at w (slot x)).rect) (height_of (node_at w (slot x)).rect) in
        let free : free_entry w x ≡ true = rw z.free in
        (rw c at answers) b (bucket_rises s.small s.large z.wide z.tall) x (omega (arith, search_keeps_free b x free, listed x h z.free)) z

    -- Something is chosen only where a slot suits.
    pub search_none_means_nothing : ((b : Bucket) → Each (λ x. x < n) (list_of b l))
        → ((x : ℕ) → x < n → Suits w e.width e.height x → ⊥) → f.chosen ≡ None
    search_none_means_nothing below none = chose f.chosen refl
      where
        chose : (a : Option Chosen) → f.chosen ≡ a → a ≡ None
        chose None c = refl
        chose (Some a) c =
            let z = search_chosen a.slot a.bucket a.place c in
            absurd (none a.slot.0 (subst (λ (x : ℕ). x < n) z.entry (search_each (λ x. x < n) a.bucket (below a.bucket) a.place z.place)) z.suits)
