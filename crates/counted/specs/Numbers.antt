-- Rule 1 as tests: of the numbers, and of the list entries.
-- Assumes nothing.
use Rattle.std.specs.Prelude.{Bool, ◌&&◌, not, ℕ, ◌≤◌, length, eqb, ltb, leb}
use Rattle.geometry.specs.Choice.{pick}
use Rattle.geometry.specs.Sides.{valid_setup}
use Rattle.lists.specs.Lists.{Bag}
use Rattle.buckets.specs.FreeLists.{Lists, Within}
use Rattle.steps.specs.State.{State}
use Rattle.steps.specs.declared.Head.{Head}
use Rattle.below.specs.Below.{first_from, entry_below}
use Rattle.judged.specs.Verdicts.{Verdict, verdict}

-- Rule 1 without its last words: count, setup, lengths and root are in order.
unfoldable pub numbers_hold : ℕ → ℕ → ℕ → ℕ → Head → Bool
numbers_hold total small medium large h =
    not (eqb h.count 0) &&
    (leb h.count total &&
    (leb h.lengths.small small &&
    (leb h.lengths.medium medium &&
    (leb h.lengths.large large &&
    (valid_setup h.sheet h.options && ltb h.root.0 h.count)))))

-- Rule 1 broken at the lowest entry of a list that isn't below n; another verdict where there is none.
unfoldable pub entry_found : Bag → ℕ → Verdict → Verdict
entry_found b n other =
    pick (ltb (first_from (entry_below b.table n) 0 b.len) b.len) (verdict 1 (first_from (entry_below b.table n) 0 b.len)) other

-- The lists are looked at in order.
unfoldable pub entries_found : Lists → ℕ → Verdict
entries_found l n = entry_found l.small n (entry_found l.medium n (entry_found l.large n (verdict 0 0)))

abbrev pub numbers_of : State → Bool
numbers_of s = numbers_hold (length s.generations) (length s.small) (length s.medium) (length s.large) s.head

-- What the scan of the entries asks: the lengths are within the tables, which have 16,384 places at most.
pub record EntriesReady (l : Lists) : Type 0 where
  pub within : Within l
  pub small : l.small.len ≤ 16384
  pub medium : l.medium.len ≤ 16384
  pub large : l.large.len ≤ 16384
