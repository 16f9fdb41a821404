-- The three free lists: each step on the list of a bucket.
-- Assumes nothing.
use Rattle.std.specs.Prelude.{List, [], ◌∷◌, Option, Some, None, ℕ, ◌≤◌, length}
use Rattle.geometry.specs.declared.Bucket.{Bucket}
use Rattle.geometry.specs.declared.Bucket.TheVariants.{Small, Medium, Large}
use Rattle.lists.specs.Lists.{Bag, bag, removed, first_of}
use Rattle.pushes.specs.Pushes.{pushed}
use Rattle.buckets.specs.declared.Lengths.{Lengths}
use Rattle.buckets.specs.declared.Entry.{Entry}

pub record Lists : Type 0 where
  pub small : Bag
  pub medium : Bag
  pub large : Bag

abbrev pub lists : Lengths → List ℕ → List ℕ → List ℕ → Lists
lists n a b c = record { small = bag a n.small; medium = bag b n.medium; large = bag c n.large }

-- A bucket's list, and the lists with another in its place.
abbrev pub list_of : Bucket → Lists → Bag
list_of Small l = l.small
list_of Medium l = l.medium
list_of Large l = l.large

abbrev pub with_list : Bucket → Bag → Lists → Lists
with_list Small b l = record { small = b; medium = l.medium; large = l.large }
with_list Medium b l = record { small = l.small; medium = b; large = l.large }
with_list Large b l = record { small = l.small; medium = l.medium; large = b }

-- Every length is within its table.
abbrev pub Within : Lists → Type 0
Within l = (b : Bucket) → (list_of b l).len ≤ length (list_of b l).table

-- A push onto a bucket's list.
abbrev pub pushed_to : List ℕ → ℕ → Bucket → Lists → Lists
pushed_to w v b l = with_list b (pushed w v (list_of b l)) l

-- Entry k of a bucket's list taken out.
abbrev pub removed_from : Bucket → ℕ → Lists → Lists
removed_from b k l = with_list b (removed (list_of b l) k) l

-- The first place of a bucket's list that holds v.
abbrev pub first_in : ℕ → Bucket → Lists → Option ℕ
first_in v b l = first_of (list_of b l).table v 0 (list_of b l).len

-- The entry found, else another one.
abbrev pub entry_or : Option ℕ → Bucket → Option Entry → Option Entry
entry_or (Some k) b other = Some (record { bucket = b; place = k })
entry_or None b other = other

-- The first entry of v, the buckets looked at in order.
unfoldable pub entry_in : ℕ → List Bucket → Lists → Option Entry
entry_in v [] l = None
entry_in v (b ∷ bs) l = entry_or (first_in v b l) b (entry_in v bs l)

-- First occurrence, buckets small to large,
unfoldable pub entry_of : ℕ → Lists → Option Entry
entry_of v l = entry_in v (Small ∷ Medium ∷ Large ∷ []) l

-- An entry taken out.
abbrev pub taken_out : Option Entry → Lists → Lists
taken_out (Some e) l = removed_from e.bucket e.place l
taken_out None l = l

-- swap-removed.
unfoldable pub forgotten : ℕ → Lists → Lists
forgotten v l = taken_out (entry_of v l) l
