-- Tables that hold the first n slots.
-- Assumes nothing.
use Rattle.std.specs.Prelude.{List, ℕ, ◌≤◌, length}
use Rattle.links.specs.Links.{Table}

-- What the calls ask once the check has said 0: tables that hold the first n slots and their generations.
pub record Held (w g : List ℕ) (n : ℕ) : Type 0 where
  pub table : Table w n
  pub bytes : n ≤ length g
