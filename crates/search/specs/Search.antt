-- The search over the three free lists, from the request's bucket upward.
-- Assumes nothing.
use Rattle.std.specs.Prelude.{List, ℕ, zero, suc}
use Rattle.geometry.specs.Choice.{pick}
use Rattle.geometry.specs.Buckets.{bucket_of}
use Rattle.geometry.specs.declared.Bucket.{Bucket}
use Rattle.geometry.specs.declared.Extent.{Extent}
use Rattle.geometry.specs.declared.Setup.{Setup}
use Rattle.buckets.specs.FreeLists.{Lists}
use Rattle.fits.specs.declared.Query.{Query}
use Rattle.choices.specs.Choices.{Searched, search_one, is_large, higher, settled}

-- From a bucket upward, at most k more; the first bucket with a candidate decides.
unfoldable pub search_up : List ℕ → Query → ℕ → Bucket → Lists → Searched
search_up w q zero b l = search_one w q b l
search_up w q (suc k) b l =
    let s = search_one w q b l in
    pick (settled s.chosen b) s (search_up w q k (higher b) s.lists)

-- One bucket more: that above, unless the search ended here.
unfoldable pub gone_on : List ℕ → Query → Bucket → Searched → Searched
gone_on w q b s = pick (settled s.chosen b) s (search_one w q (higher b) s.lists)

-- What a request looks for. Its bucket decides whether the greatest score wins.
abbrev pub query_of : Setup → Extent → Query
query_of s e = record { width = e.width; height = e.height; worst = is_large (bucket_of s.small s.large e.width e.height) }

-- The search: from the request's bucket upward.
unfoldable pub find_suitable : List ℕ → Setup → Extent → Lists → Searched
find_suitable w s e l = search_up w (query_of s e) 2 (bucket_of s.small s.large e.width e.height) l
