-- The lowest place at which a test fails, and the test of a list entry.
-- Assumes nothing.
use Rattle.std.specs.Prelude.{Bool, List, Option, Some, None, ℕ, zero, suc, ◌+◌, get_or, ltb}
use Rattle.geometry.specs.Choice.{pick}

-- The first place from `from` on, of `left` places, at which a test fails, or the place after them.
unfoldable pub first_from : (ℕ → Bool) → ℕ → ℕ → ℕ
first_from p from zero = from
first_from p from (suc left) = pick (p from) (first_from p (from + 1) left) from

-- The first of the first n places at which a test fails, if there is one.
abbrev pub first_bad : (ℕ → Bool) → ℕ → Option ℕ
first_bad p n = pick (ltb (first_from p 0 n) n) (Some (first_from p 0 n)) None

-- The entry at a place is below n.
abbrev pub entry_below : List ℕ → ℕ → ℕ → Bool
entry_below t n k = ltb (get_or t k 0) n
