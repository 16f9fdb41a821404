-- The sweep as it runs is the sweep as it is defined.
-- Assumes nothing.
use Rattle.std.specs.Prelude.{◌≡◌, List}
use Prim.Native.Nat.{ℕ, ◌≤◌}
use Rattle.std.proofs.Math.ListN.{length, get_or}
use Rattle.pushes.specs.Sweeps.{Sweeping}

-- What a sweep leaves after i entries: the tables' lengths, and the entries still ahead. At most i are kept.
pub record Ahead (t m : List ℕ) (i : ℕ) (s : Sweeping) : Type 0 where
  pub table_length : length s.table ≡ length t
  pub marks_length : length s.marks ≡ length m
  pub few : s.kept ≤ i
  pub same : (j : ℕ) → i ≤ j → get_or s.table j 0 ≡ get_or t j 0
