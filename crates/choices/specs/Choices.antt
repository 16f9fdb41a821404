-- The choice in one bucket: what the scan of its list answers, and whether the search ends there.
-- Assumes nothing.
use Rattle.std.specs.Prelude.{Bool, true, false, List, Option, Some, None, ℕ, get_or}
use Rattle.geometry.specs.declared.Bucket.{Bucket}
use Rattle.geometry.specs.declared.Bucket.TheVariants.{Small, Medium, Large}
use Rattle.slots.specs.Slots.{slot}
use Rattle.slots.specs.declared.AllocIndex.{AllocIndex}
use Rattle.lists.specs.Lists.{Bag, bag}
use Rattle.buckets.specs.FreeLists.{Lists, list_of, with_list}
use Rattle.fits.specs.Scans.{scan_all, Ready}
use Rattle.fits.specs.declared.Best.{Best}
use Rattle.fits.specs.declared.Best.TheVariants as best
use Rattle.fits.specs.declared.Query.{Query}
use Rattle.choices.specs.declared.Chosen.{Chosen}

-- A slot that was chosen, with its bucket and its entry's place in that bucket's list.
abbrev pub chosen_at : AllocIndex → Bucket → ℕ → Option Chosen
chosen_at i b k = Some (record { slot = i; bucket = b; place = k })

-- The entry at the best candidate's place, as the answer. It stays in the list.
abbrev pub chosen_of : Bucket → Best → ℕ → List ℕ → Option Chosen
chosen_of b best.Found k t = chosen_at (slot (get_or t k 0)) b k
chosen_of b best.Nothing k t = None

-- What the scan of one bucket's list answers, and the list as it left it.
pub record ScanAnswer : Type 0 where
  pub chosen : Option Chosen
  pub list : Bag

abbrev pub scan_answer : Option Chosen → Bag → ScanAnswer
scan_answer c b = record { chosen = c; list = b }

unfoldable pub scan_bucket : List ℕ → Query → Bucket → Bag → ScanAnswer
scan_bucket w q b l =
    let o = scan_all w q l.table l.len in
    scan_answer (chosen_of b o.scan.best o.scan.place o.table) (bag o.table o.scan.len)

-- What a search answers, and the lists as it left them.
pub record Searched : Type 0 where
  pub chosen : Option Chosen
  pub lists : Lists

abbrev pub searched : Option Chosen → Lists → Searched
searched c l = record { chosen = c; lists = l }

-- One bucket's list is searched.
unfoldable pub search_one : List ℕ → Query → Bucket → Lists → Searched
search_one w q b l = let a = scan_bucket w q b (list_of b l) in searched a.chosen (with_list b a.list l)

abbrev pub is_large : Bucket → Bool
is_large Small = false
is_large Medium = false
is_large Large = true

-- The bucket above; above large there is none.
abbrev pub higher : Bucket → Bucket
higher Small = Medium
higher Medium = Large
higher Large = Large

-- The search ends in a bucket: with a candidate, or with no bucket above.
abbrev pub settled : Option Chosen → Bucket → Bool
settled (Some c) b = true
settled None b = is_large b

-- What a search asks of the lists: each is ready to be scanned.
abbrev pub Searchable : List ℕ → Lists → Type 0
Searchable w l = (b : Bucket) → Ready w (list_of b l)
