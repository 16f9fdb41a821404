-- What a scan knows of the entries behind it: its candidate suits, and where it has none, no entry does.
-- Assumes nothing.
use Rattle.std.specs.Prelude.{◌≡◌, refl, List, ℕ, ◌+◌, ◌≤◌, ◌<◌, length, get_or, set}
use Rattle.std.proofs.Common.{subst, ⊎_elim, arith, length-set, get_or-set_other}
use Rattle.fits.specs.declared.Best.{Best}
use Rattle.fits.specs.declared.Best.TheVariants.{Found, Nothing}
use Rattle.fits.specs.declared.Query.{Query}
use Rattle.fits.specs.Scans.{Scanned, scanned, look, first, scan_all, BestWithin}
use Rattle.fits.specs.Suits.{Suits}
use Rattle.geometry.specs.TestLaws.{same_or_not}
use Rattle.fits.proofs.ScanLaws.{look_cases, looking_keeps}
use Rattle.fits.specs.Candidates.{SoFar, Scanning}

module _ (w : List ℕ) (q : Query) (t : List ℕ) (at : ℕ) where
  -- The place goes on past an entry that doesn't suit, or with a candidate in hand.
  so_far_passed : (b : Best) (k : ℕ) → (Suits w q.width q.height (get_or t at 0) → b ≡ Nothing → ⊥) → SoFar w q t at b k → SoFar w q t (at + 1) b k
  so_far_passed Found k n f = (omega arith, f.1)
  so_far_passed Nothing k n f =
      λ j h s.
      ⊎_elim (λ e. n (subst (λ (i : ℕ). Suits w q.width q.height (get_or t i 0)) e s) refl) (λ d. f j (omega arith) s) (same_or_not j at)

  -- A store at the scan's place changes nothing behind it.
  so_far_set : (b : Best) (k v : ℕ) → SoFar w q t at b k → SoFar w q (set t at v) at b k
  so_far_set Found k v f = (f.0, rw (get_or-set_other t at k v 0 (λ e. omega (arith, f.0))) f.1)
  so_far_set Nothing k v f = λ j h s. f j h (rw (get_or-set_other t at j v 0 (λ e. omega arith)) at s)

-- A look keeps what is known.
look_scans : (w : List ℕ) (q : Query) (o : Scanned) → o.scan.at < o.scan.len → Scanning w q o → Scanning w q (look w q o)
look_scans w q o h s =
    let f = s.so_far in
    look_cases w q o (look w q o) h refl (Scanning w q)
    (λ n. record { within = s.within; placed = omega arith; so_far = so_far_passed w q o.table o.scan.at o.scan.best o.scan.place n f })
    (λ z. record { within = s.within; placed = omega arith; so_far = (h, z) })
    (λ z k. record { within = s.within; placed = omega arith; so_far = (omega arith, z) })
    (λ d.
    record {
      within = simp length-set (omega (arith, s.within));
      placed = omega arith;
      so_far = so_far_set w q o.table o.scan.at o.scan.best o.scan.place _ f;
    })

-- What the scan of a whole list knows at its end.
pub scan_scans : (w : List ℕ) (q : Query) (t : List ℕ) (len : ℕ) → len ≤ length t → Scanning w q (scan_all w q t len)
scan_scans w q t len h =
    looking_keeps w q (Scanning w q) (look_scans w q) len (scanned (first q len) t)
    (record { within = h; placed = omega arith; so_far = λ k l s. omega arith })

-- The best candidate's place is in the table.
pub scanning_best : (w : List ℕ) (q : Query) (o : Scanned) → Scanning w q o → BestWithin o.scan.best o.scan.place o.table
scanning_best w q o s = cases o.scan.best o.scan.place s.so_far
  where
    cases : (b : Best) (k : ℕ) → SoFar w q o.table o.scan.at b k → BestWithin b k o.table
    cases Found k f = omega (arith, s.within, s.placed, f.0)
    cases Nothing k f = tt
