-- RULE 6, EXACT: the marks decide it.
-- Assumes nothing.
use Rattle.std.specs.Prelude.{◌≡◌, true, ◌↔◌, ℕ, ◌<◌}
use Rattle.geometry.specs.Sides.{setup_of}
use Rattle.slots.specs.Slots.{slot}
use Rattle.table.specs.Table.{node_at}
use Rattle.slots.specs.declared.NodeKind.TheVariants.{Free}
use Rattle.buckets.specs.FreeLists.{list_of}
use Rattle.steps.specs.State.{State, lists_of}
use Rattle.sound.specs.View.{seen}
use Rattle.sound.specs.Sound.{HasEntry, own_bucket, Listed}
use Rattle.links.specs.TestLaws.{Says, where_says, kind_says}
use Rattle.marks.specs.Marks.{listed_at, marks_of, ListsReady}
use Rattle.marks.specs.MarkLaws.{marks_say_occurs, occurs_says}
use Rattle.audit.specs.Audited.{has_entry}

module _ (s : State) where
  -- The marks say of each slot what rule 6 asks.
  pub marks_say_entries : ListsReady (lists_of s) → (i : ℕ) → i < 4096
      → listed_at s.words (marks_of (lists_of s)) (setup_of s.head.sheet s.head.options) i ≡ has_entry s i
  unfolding listed_at has_entry
  marks_say_entries r i h = rw (marks_say_occurs (lists_of s) r (own_bucket s (node_at s.words (slot i)).rect) i h)

  -- RULE 6, EXACT.
  pub entries_say_listed : Listed s ↔ ((i : ℕ) → i < s.head.count → has_entry s i ≡ true)
  unfolding has_entry seen
  entries_say_listed = (λ f i h. (here i).1 (f i h), λ f i h. (here i).0 (f i h))
    where
      here : (i : ℕ) → Says (has_entry s i) ((seen s.words i).kind ≡ Free → HasEntry i (list_of (own_bucket s (node_at s.words (slot i)).rect) (lists_of s)))
      here i = where_says (kind_says (node_at s.words (slot i)).kind Free) (λ k. occurs_says _ i _)
