-- What a scan knows of the entries behind it: its candidate suits, and where it has none, no entry does.
-- Assumes nothing.
use Rattle.std.specs.Prelude.{List, ℕ, ◌≤◌, ◌<◌, length, get_or}
use Rattle.fits.specs.declared.Best.{Best}
use Rattle.fits.specs.declared.Best.TheVariants.{Found, Nothing}
use Rattle.fits.specs.declared.Query.{Query}
use Rattle.fits.specs.Scans.{Scanned}
use Rattle.fits.specs.Suits.{Suits}

-- What is known of the places before `at`: the candidate's is one of them and suits; with no candidate, none suits.
abbrev pub SoFar : List ℕ → Query → List ℕ → ℕ → Best → ℕ → Type 0
SoFar w q t at Found k = (k < at) × Suits w q.width q.height (get_or t k 0)
SoFar w q t at Nothing k = (j : ℕ) → j < at → Suits w q.width q.height (get_or t j 0) → ⊥

pub record Scanning (w : List ℕ) (q : Query) (o : Scanned) : Type 0 where
  pub within : o.scan.len ≤ length o.table
  pub placed : o.scan.at ≤ o.scan.len
  pub so_far : SoFar w q o.table o.scan.at o.scan.best o.scan.place
