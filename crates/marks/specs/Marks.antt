-- The marks of rule 6: for each bucket, which slots have an entry in its list.
-- Assumes nothing.
use Rattle.std.specs.Prelude.{List, Bool, ◌||◌, not, ℕ, zero, suc, ◌+◌, ◌<◌, get_or, set, replicate, eqb}
use Rattle.geometry.specs.declared.Bucket.{Bucket}
use Rattle.geometry.specs.declared.Bucket.TheVariants.{Small, Medium, Large}
use Rattle.lists.specs.Lists.{Each, free_entry}
use Rattle.buckets.specs.FreeLists.{Lists, list_of, Within}
use Rattle.geometry.specs.Buckets.{bucket_of}
use Rattle.geometry.specs.Rectangles.{width_of, height_of}
use Rattle.geometry.specs.declared.Setup.{Setup}
use Rattle.slots.specs.Slots.{slot}
use Rattle.table.specs.Table.{node_at}

-- Where a bucket's marks start: each has 4,096, one after the other.
unfoldable pub marks_start : Bucket → ℕ
marks_start Small = 0
marks_start Medium = 4096
marks_start Large = 8192

abbrev pub is_marked : List ℕ → Bucket → ℕ → Bool
is_marked ms b x = not (eqb (get_or ms (marks_start b + x) 0) 0)

-- The slots of the first k entries are marked, with marks that start at s.
unfoldable pub marks_to : ℕ → List ℕ → ℕ → List ℕ → List ℕ
marks_to s t zero ms = ms
marks_to s t (suc k) ms = set (marks_to s t k ms) (s + get_or t k 0) 1

-- The marks of the three lists, over marks that stand already, and over none.
unfoldable pub marks_from : Lists → List ℕ → List ℕ
marks_from l ms =
    marks_to (marks_start Large) l.large.table l.large.len
    (marks_to (marks_start Medium) l.medium.table l.medium.len (marks_to (marks_start Small) l.small.table l.small.len ms))

unfoldable pub marks_of : Lists → List ℕ
marks_of l = marks_from l (replicate 12288 0)

-- A Free slot has its own bucket's mark.
unfoldable pub listed_at : List ℕ → List ℕ → Setup → ℕ → Bool
listed_at w ms u i =
    let r = (node_at w (slot i)).rect in
    not (free_entry w i) || is_marked ms (bucket_of u.small u.large (width_of r) (height_of r)) i

-- What making the marks asks: entries within their lists, all below 4,096.
pub record ListsReady (l : Lists) : Type 0 where
  pub within : Within l
  pub below : (b : Bucket) → Each (λ x. x < 4096) (list_of b l)
