-- Slots taken into use and out of it, and how many are spare.
-- Assumes nothing.
use Rattle.std.specs.Prelude.{ℕ, zero, suc, ◌+◌, ◌-◌, ◌*◌, ◌%◌, ◌<◌, ◌≤◌, List, length, nat_lt, slice_index, slice_set}
use Rattle.geometry.specs.Choice.{pick}
use Rattle.slots.specs.Slots.{slot, same_kind}
use Rattle.table.specs.Table.{node_at}
use Rattle.stores.specs.Stores.{stored, to_kind, toNext}
use Rattle.slots.specs.declared.AllocIndex.{AllocIndex}
use Rattle.slots.specs.declared.NodeKind.{NodeKind}
use Rattle.slots.specs.declared.NodeKind.TheVariants.{Unused}
use Rattle.steps.specs.declared.Head.{Head}

-- Generations are bytes that wrap.
abbrev pub stepped : ℕ → ℕ
stepped g = (g + 1) % 256

-- The head with another first spare slot, or another slot count.
abbrev pub with_spare : Head → AllocIndex → Head
with_spare h i = record { sheet = h.sheet; options = h.options; root = h.root; spare = i; count = h.count; lengths = h.lengths }

abbrev pub with_count : Head → ℕ → Head
with_count h n = record { sheet = h.sheet; options = h.options; root = h.root; spare = h.spare; count = n; lengths = h.lengths }

-- A slot taken into use, with what that can change.
pub record Fresh : Type 0 where
  pub taken : AllocIndex
  pub head : Head
  pub generations : List ℕ

abbrev pub fresh : AllocIndex → Head → List ℕ → Fresh
fresh i h g = record { taken = i; head = h; generations = g }

-- New slot: head of the spare chain, generation plus 1 wrapping; else slot n with generation 0.
unfoldable pub new_node : List ℕ → List ℕ → Head → Fresh
new_node w g h =
    pick (nat_lt h.spare.0 h.count)
    (fresh h.spare (with_spare h (node_at w h.spare).next) (slice_set g h.spare.0 (stepped (slice_index g h.spare.0))))
    (fresh (slot h.count) (with_count h (h.count + 1)) (slice_set g h.count 0))

-- What a new slot asks: tables with at least as many slots as the count, and a slot to take.
pub record HasSpare (w g : List ℕ) (h : Head) : Type 0 where
  pub slots : length g * 8 ≤ length w
  pub few : length g ≤ 4096
  pub counted : h.count ≤ length g
  pub spare : h.count ≤ h.spare.0 → h.count < length g

-- Marking unused writes kind and next only, and becomes the head of the chain that started at `spare`.
unfoldable pub marked_unused : List ℕ → AllocIndex → AllocIndex → List ℕ
marked_unused w spare i = stored (stored w i (to_kind Unused)) i (toNext spare)

-- 1 where slot i is of the kind, else 0.
unfoldable pub of_kind : List ℕ → NodeKind → ℕ → ℕ
of_kind w kind i = pick (same_kind (node_at w (slot i)).kind kind) 1 0

-- How many of the first n slots are of the kind, and how many are Unused.
unfoldable pub count_kind : List ℕ → NodeKind → ℕ → ℕ
count_kind w kind zero = 0
count_kind w kind (suc n) = count_kind w kind n + of_kind w kind n

abbrev pub unused_below : List ℕ → ℕ → ℕ
unused_below w n = count_kind w Unused n

-- Spare slots are N − n plus all Unused ones.
abbrev pub spare_slots : List ℕ → ℕ → ℕ → ℕ
spare_slots w total n = total - n + unused_below w n
