-- The scan of one free list.
-- Assumes nothing.
use Rattle.std.specs.Prelude.{◌≡◌, Bool, true, false, List, ℕ, zero, suc, ◌+◌, ◌-◌, ◌≤◌, ◌<◌, length, get_or, eqb, ltb}
use Rattle.geometry.specs.Choice.{pick, lesser}
use Rattle.geometry.specs.Rectangles.{width_of, height_of}
use Rattle.geometry.specs.declared.Rectangle.{Rectangle}
use Rattle.slots.specs.Slots.{slot}
use Rattle.table.specs.Table.{node_at, HasSlot}
use Rattle.slots.specs.declared.NodeKind.TheVariants.{Free}
use Rattle.lists.specs.Lists.{Bag, bag, removed, free_entry, Each}
use Rattle.fits.specs.declared.Best.{Best}
use Rattle.fits.specs.declared.Best.TheVariants.{Found, Nothing}
use Rattle.fits.specs.declared.Query.{Query}
use Rattle.fits.specs.declared.Scan.{Scan}

-- Greatest wins if the request's bucket is large, least otherwise; the first of equals stays.
unfoldable pub better : Best → ℕ → ℕ → Bool → Bool
better Nothing score new worst = true
better Found score new true = ltb score new
better Found score new false = ltb new score

-- The score: the lesser spare side. It is 0 where the fit is exact on one axis.
abbrev pub score_of : Rectangle → Query → ℕ
score_of r q = lesser (width_of r - q.width) (height_of r - q.height)

-- The scan goes on to the next place, with the same candidate or with the one at this place.
abbrev pub passed : Scan → Scan
passed s = record { len = s.len; at = s.at + 1; best = s.best; place = s.place; score = s.score }

abbrev pub kept : Scan → ℕ → Scan
kept s score = record { len = s.len; at = s.at + 1; best = Found; place = s.at; score = score }

-- A fit that is exact on one axis ends the scan at once.
abbrev pub ended : Scan → Scan
ended s = record { len = s.len; at = s.len; best = Found; place = s.at; score = 0 }

-- What a rectangle that is wide and tall enough does to the scan, by its score.
abbrev pub scored : Scan → Query → ℕ → Scan
scored s q score = pick (eqb score 0) (ended s) (pick (better s.best s.score score q.worst) (kept s score) (passed s))

-- What the entry of a Free rectangle does to the scan.
unfoldable pub weighed : Scan → Rectangle → Query → Scan
weighed s r q =
    pick (ltb (width_of r) q.width) (passed s) (pick (ltb (height_of r) q.height) (passed s) (scored s q (score_of r q)))

-- Both sides asked of by one test, as the code does it: the score, shifted up by 2^32, is below that where a side is too short (`short_passes`, `enough_scores`).
abbrev pub shift : ℕ
shift = 4294967296

unfoldable pub shifted_score : Rectangle → Query → ℕ
shifted_score r q = lesser (width_of r + shift - q.width) (height_of r + shift - q.height)

-- As the code asks whether a rectangle is kept, where its fit isn't exact: by one test of the shifted score, whether there is a candidate or not (`weighs`).
unfoldable pub beats : ℕ → ℕ → Bool → Bool
beats score n worst = pick (ltb n shift) false (pick worst (ltb score (n - shift)) (ltb (n - shift) score))

-- The score of a scan with no candidate yet: any that isn't exact beats it.
unfoldable pub opening : Bool → ℕ
opening true = 0
opening false = shift

abbrev pub Open : Scan → Query → Type 0
Open s q = s.best ≡ Nothing → s.score ≡ opening q.worst

-- A scan with its table.
pub record Scanned : Type 0 where
  pub scan : Scan
  pub table : List ℕ

abbrev pub scanned : Scan → List ℕ → Scanned
scanned s t = record { scan = s; table = t }

-- The entry that the scan looks at.
abbrev pub entry_at : Scanned → ℕ
entry_at o = get_or o.table o.scan.at 0

-- An entry whose slot isn't Free is swap-removed, and the same position looked at again.
abbrev pub dropped : Scanned → Scanned
dropped o =
    let b = removed (bag o.table o.scan.len) o.scan.at in
    scanned (record { len = b.len; at = o.scan.at; best = o.scan.best; place = o.scan.place; score = o.scan.score }) b.table

-- One look.
unfoldable pub look : List ℕ → Query → Scanned → Scanned
look w q o = pick (free_entry w (entry_at o)) (scanned (weighed o.scan (node_at w (slot (entry_at o))).rect q) o.table) (dropped o)

-- At most k looks, as long as a place is left.
unfoldable pub looking : List ℕ → Query → ℕ → Scanned → Scanned
looking w q zero o = o
looking w q (suc k) o = pick (ltb o.scan.at o.scan.len) (looking w q k (look w q o)) o

-- A scan begins at place 0, with no candidate.
abbrev pub first : Query → ℕ → Scan
first q len = record { len = len; at = 0; best = Nothing; place = 0; score = opening q.worst }

-- The whole scan of a list. As many looks as it has entries are enough (`looking_enough`).
abbrev pub scan_all : List ℕ → Query → List ℕ → ℕ → Scanned
scan_all w q t len = looking w q len (scanned (first q len) t)

-- What a scan asks of an entry: a slot of the table, and corners in order where it is Free.
pub record Lookable (w : List ℕ) (x : ℕ) : Type 0 where
  pub has : HasSlot w (slot x)
  pub wide : (node_at w (slot x)).kind ≡ Free → (node_at w (slot x)).rect.x0 ≤ (node_at w (slot x)).rect.x1
  pub tall : (node_at w (slot x)).kind ≡ Free → (node_at w (slot x)).rect.y0 ≤ (node_at w (slot x)).rect.y1

pub record Ready (w : List ℕ) (l : Bag) : Type 0 where
  pub within : l.len ≤ length l.table
  pub entries : Each (Lookable w) l

-- The best candidate's place is in the table.
abbrev pub BestWithin : Best → ℕ → List ℕ → Type 0
BestWithin Found k t = k < length t
BestWithin Nothing k t = Unit {0}
