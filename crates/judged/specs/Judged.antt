-- What the parts of the check promise one another: the rules from the third on, of a slot table with its first children and its marks.
-- Assumes nothing.
use Rattle.std.specs.Prelude.{◌≡◌, Bool, true, ◌&&◌, List, ℕ, ◌≤◌, ◌<◌, length, eqb, ltb}
use Rattle.geometry.specs.Choice.{pick}
use Rattle.geometry.specs.declared.Rectangle.{Rectangle}
use Rattle.geometry.specs.declared.Setup.{Setup}
use Rattle.sound.specs.View.{seen}
use Rattle.sound.specs.Rules.{PlaceChain}
use Rattle.sound.specs.Sound.{Linked, Merged, LastTrue}
use Rattle.joins.specs.Joins.{same_rect}
use Rattle.joins.specs.declared.Placed.{Placed}
use Rattle.links.specs.Links.{Table, links_at, merged_at}
use Rattle.links.specs.FirstLaws.{Firsts}
use Rattle.links.specs.TestLaws.{Says}
use Rattle.scans.specs.Tests.{filled_at, not_last_at}
use Rattle.marks.specs.Marks.{listed_at}
use Rattle.judged.specs.Verdicts.{Verdict, lowest_bad, verdict}

-- A rule broken at the lowest place that fails its test.
abbrev pub broken_at : ℕ → ℕ → ℕ → Verdict
broken_at rule bad n = verdict rule (pick (ltb bad n) bad 0)

-- The whole sheet.
abbrev pub whole : Setup → Rectangle
whole u = record { x0 = 0; y0 = 0; x1 = u.sheet.width; y1 = u.sheet.height }

-- A walk that came to its end with nothing of the count left, and one that fits together and fills a rectangle.
unfoldable pub is_whole : Placed → Bool
is_whole p = p.ended && eqb p.left 0

unfoldable pub is_filled : Placed → Rectangle → Bool
is_filled p r = p.fits && same_rect p.at r

-- Every Free slot is marked.
abbrev pub AllMarked : List ℕ → List ℕ → Setup → ℕ → Type 0
AllMarked w ms u n = (i : ℕ) → i < n → listed_at w ms u i ≡ true

-- What the walk and the scans ask: n slots, the root one of them, the table of their first children, and the marks.
pub record Prepared (w fs ms : List ℕ) (n root : ℕ) : Type 0 where
  pub table : Table w n
  pub top : root < n
  pub firsts : Firsts w fs n
  pub front : length fs ≡ n
  pub marks : 12288 ≤ length ms

-- Rule 3 is known, whether the top chain fills the sheet, and if so whether its last slot obeys rule 7.
pub record Walked (w : List ℕ) (n root : ℕ) (sheet : Rectangle) (filled stored : Bool) : Type 0 where
  pub linked : Linked (seen w) n root
  pub placed : Says filled (PlaceChain (seen w) n root sheet)
  pub last : filled ≡ true → Says stored (LastTrue (seen w) n)

-- The verdict on the rules from the third on.
pub data Judged (w fs ms : List ℕ) (n root : ℕ) (u : Setup) : ℕ → ℕ → Type 0 where
  sound : Linked (seen w) n root → Merged (seen w) n → PlaceChain (seen w) n root (whole u) → AllMarked w ms u n → LastTrue (seen w) n → Judged w fs ms n root u 0 0
  rule3 : (Linked (seen w) n root → ⊥) → Judged w fs ms n root u 3 (lowest_bad (links_at w fs n root) n)
  rule4 : Linked (seen w) n root → (Merged (seen w) n → ⊥) → Judged w fs ms n root u 4 (lowest_bad (merged_at w n) n)
  rule5 : Linked (seen w) n root → Merged (seen w) n → (PlaceChain (seen w) n root (whole u) → ⊥) → Judged w fs ms n root u 5 (lowest_bad (filled_at w) n)
  rule6 : Linked (seen w) n root → Merged (seen w) n → PlaceChain (seen w) n root (whole u) → (AllMarked w ms u n → ⊥)
      → Judged w fs ms n root u 6 (lowest_bad (listed_at w ms u) n)
  rule7 : Linked (seen w) n root → Merged (seen w) n → PlaceChain (seen w) n root (whole u) → AllMarked w ms u n → (LastTrue (seen w) n → ⊥)
      → Judged w fs ms n root u 7 (lowest_bad (not_last_at w n) n)
