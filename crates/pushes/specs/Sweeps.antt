-- The sweep as it runs: entries are marked as they are seen, and the kept ones moved to the front.
-- `sweep_runs` (SweepLaws) says that this is `swept`. Assumes nothing.
use Rattle.std.specs.Prelude.{Bool, ◌&&◌, not, List, ℕ, zero, suc, ◌+◌, ◌<◌, length, get_or, set, eqb}
use Rattle.geometry.specs.Choice.{pick}
use Rattle.slots.specs.Slots.{slot}
use Rattle.table.specs.Table.{HasSlot}
use Rattle.lists.specs.Lists.{free_entry}

-- The table so far, the marks of the entries seen, and how many are kept.
pub record Sweeping : Type 0 where
  pub table : List ℕ
  pub marks : List ℕ
  pub kept : ℕ

abbrev pub sweeping : List ℕ → List ℕ → ℕ → Sweeping
sweeping t m k = record { table = t; marks = m; kept = k }

-- Entry x is kept: not the pushed one, not seen before, of a Free slot.
unfoldable pub is_kept : List ℕ → ℕ → List ℕ → ℕ → Bool
is_kept w v marks x = not (eqb x v) && (eqb (get_or marks x 0) 0 && free_entry w x)

-- What entry x asks for.
pub record Sweepable (w marks : List ℕ) (x : ℕ) : Type 0 where
  pub has : HasSlot w (slot x)
  pub marked : x < length marks

-- Entry i is looked at.
unfoldable pub sweep_step : List ℕ → ℕ → ℕ → Sweeping → Sweeping
sweep_step w v i s =
    let x = get_or s.table i 0 in
    pick (is_kept w v s.marks x) (sweeping (set s.table s.kept x) (set s.marks x 1) (s.kept + 1))
    (sweeping s.table (set s.marks x 1) s.kept)

-- The first i entries are looked at, in order.
unfoldable pub sweep_to : List ℕ → ℕ → ℕ → Sweeping → Sweeping
sweep_to w v zero s = s
sweep_to w v (suc i) s = sweep_step w v i (sweep_to w v i s)
