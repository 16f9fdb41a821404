-- THE CHECK: what it says of the head and the tables. The verdict is the lowest-numbered rule that is broken, 0 for none, and the lowest
-- place that breaks it, 0 where no single place does. Each verdict says that the rules before it hold and that it doesn't.
-- Assumes nothing.
use Rattle.std.specs.Prelude.{◌≡◌, Bool, ◌||◌, not, ◌↔◌, ℕ}
use Rattle.geometry.specs.Choice.{pick}
use Rattle.slots.specs.Slots.{slot}
use Rattle.table.specs.Table.{node_at}
use Rattle.lists.specs.Lists.{occurs, free_entry}
use Rattle.buckets.specs.FreeLists.{list_of}
use Rattle.steps.specs.State.{State, lists_of}
use Rattle.sound.specs.View.{link_of, seen}
use Rattle.sound.specs.Sound.{Counted, SpareChain, Linked, Merged, Placed, Listed, LastTrue, Sound, own_bucket}
use Rattle.links.specs.Links.{links_at, merged_at}
use Rattle.lent.specs.Lent.{LentOf}
use Rattle.scans.specs.Tests.{filled_at, not_last_at}
use Rattle.judged.specs.Verdicts.{lowest_bad}
use Rattle.counted.specs.Numbers.{entries_found, numbers_of}
use Rattle.walked.specs.Trees.{firsts_of}

-- RULES 1 TO 7 of a state, by number.
abbrev pub Rule2 : State → Type 0
Rule2 s = SpareChain (seen s.words) s.head.count (link_of s.head.spare)

abbrev pub Rule3 : State → Type 0
Rule3 s = Linked (seen s.words) s.head.count s.head.root.0

abbrev pub Rule4 : State → Type 0
Rule4 s = Merged (seen s.words) s.head.count

abbrev pub Rule5 : State → Type 0
Rule5 s = Placed (seen s.words) s.head.count s.head.root.0 s.head.sheet

abbrev pub Rule7 : State → Type 0
Rule7 s = LastTrue (seen s.words) s.head.count

-- The place in the first list that has an entry not below n, where the numbers are in order.
abbrev pub entry_place : State → ℕ
entry_place s = pick (numbers_of s) (entries_found (lists_of s) s.head.count).place 0

-- A Free slot has an entry in its own bucket's list.
unfoldable pub has_entry : State → ℕ → Bool
has_entry s i =
    let b = list_of (own_bucket s (node_at s.words (slot i)).rect) (lists_of s) in
    not (free_entry s.words i) || occurs b.table i b.len

-- THE VERDICT.
pub data Audited (s : State) : ℕ → ℕ → Type 0 where
  sound : Sound s → Audited s 0 0
  rule1 : (Counted s → ⊥) → Audited s 1 (entry_place s)
  rule2 : Counted s → (Rule2 s → ⊥) → Audited s 2 0
  -- At the lowest slot whose links disagree; 0 if each agrees, but they don't join all live slots to the root.
  rule3 : Counted s → Rule2 s → (Rule3 s → ⊥)
      → Audited s 3 (lowest_bad (links_at s.words (firsts_of s.words s.head.count) s.head.count s.head.root.0) s.head.count)
  -- At the lowest Free slot that should have been merged.
  rule4 : Counted s → Rule2 s → Rule3 s → (Rule4 s → ⊥) → Audited s 4 (lowest_bad (merged_at s.words s.head.count) s.head.count)
  -- At the lowest slot that is Alloc or Free with an empty rectangle; 0 if places don't adjoin or don't fill the sheet.
  rule5 : Counted s → Rule2 s → Rule3 s → Rule4 s → (Rule5 s → ⊥) → Audited s 5 (lowest_bad (filled_at s.words) s.head.count)
  -- At the lowest Free slot without an entry.
  rule6 : Counted s → Rule2 s → Rule3 s → Rule4 s → Rule5 s → (Listed s → ⊥) → Audited s 6 (lowest_bad (has_entry s) s.head.count)
  -- At the last slot of the top chain.
  rule7 : Counted s → Rule2 s → Rule3 s → Rule4 s → Rule5 s → Listed s → (Rule7 s → ⊥)
      → Audited s 7 (lowest_bad (not_last_at s.words s.head.count) s.head.count)

-- What the check answers: 1 exactly when a table length is out of range, 2 exactly when the lengths are in range and the tables are not
-- sound, and 0 exactly when the lengths are in range and the tables are sound.
pub record Checked (s : State) (r : ℕ) : Type 0 where
  pub gives_1 : (r ≡ 1) ↔ (LentOf s → ⊥)
  pub gives_2 : (r ≡ 2) ↔ (LentOf s × (Sound s → ⊥))
  pub gives_0 : (r ≡ 0) ↔ (LentOf s × Sound s)
