-- What the functions below the calls ask and do: how a listing is written.
-- Assumes nothing.
use Rattle.std.specs.Prelude.{List, ℕ, ◌+◌, ◌≤◌, ◌<◌, length}
use Rattle.std.proofs.lemmas.List.Edits.{sets}
use Rattle.geometry.specs.Choice.{pick}
use Rattle.slots.specs.Slots.{slot, same_kind}
use Rattle.table.specs.Table.{HasSlot}
use Rattle.slots.specs.declared.NodeKind.{NodeKind}
use Rattle.slots.specs.declared.NodeKind.TheVariants.{Alloc}
use Rattle.lists.specs.Lists.{Bag, bag}
use Rattle.written.specs.Entries.{entry_at}

-- How many words an entry of a kind's listing has.
abbrev pub entry_words : NodeKind → ℕ
entry_words kind = pick (same_kind kind Alloc) 5 4

-- Words take the next places of a list.
unfoldable pub wrote : Bag → List ℕ → Bag
wrote b vs = bag (sets b.table b.len vs) (b.len + length vs)

-- What the entry of slot i asks.
pub record Enterable (w g : List ℕ) (kind : NodeKind) (i : ℕ) (b : Bag) : Type 0 where
  pub has : HasSlot w (slot i)
  pub byte : i < length g
  pub few : i < 4096
  pub room : b.len + length (entry_at w g kind i) ≤ length b.table
