-- How many numbers below a bound pass a test, and how often an entry occurs.
-- Assumes nothing.
use Rattle.std.specs.Prelude.{Bool, true, false, ℕ, zero, suc, ◌+◌, get_or, eqb}
use Rattle.lists.specs.Lists.{Bag}

abbrev pub bit : Bool → ℕ
bit true = 1
bit false = 0

-- How many numbers below n pass the test p.
unfoldable pub count : (ℕ → Bool) → ℕ → ℕ
count p zero = 0
count p (suc k) = bit (p k) + count p k

-- Place k holds x.
abbrev pub holds : Bag → ℕ → ℕ → Bool
holds b x k = eqb (get_or b.table k 0) x

-- How many of the filled places hold x.
abbrev pub occurrences : ℕ → Bag → ℕ
occurrences x b = count (holds b x) b.len
