-- RULE 3, EXACT: the tests of all slots, and a forest of all live slots that follows from a live root, are rule 3.
-- Assumes nothing.
use Rattle.std.specs.Prelude.{◌≡◌, true, List, ℕ, ◌-◌, ◌<◌, get_or}
use Rattle.steps.specs.Spares.{unused_below}
use Rattle.sound.specs.View.{Link, to, seen, Live}
use Rattle.forest.specs.Forest.{Forest, head}
use Rattle.forest.specs.Follows.{Follows, size, down, live}
use Rattle.links.specs.Links.{links_at}

-- The links that the walk over the forest follows: a Container's first child, by the table of first children, and next.
abbrev pub kids_in : List ℕ → List ℕ → ℕ → Link
kids_in w fs i = down (seen w i).kind (to (get_or fs i 0))

abbrev pub next_in : List ℕ → ℕ → Link
next_in w i = (seen w i).next

-- Every slot passes the test of its links.
abbrev pub LinksPass : List ℕ → List ℕ → ℕ → ℕ → Type 0
LinksPass w fs n root = (i : ℕ) → i < n → links_at w fs n root i ≡ true

-- What the check finds where rule 3 holds: the tests pass, the root is live, and a forest of all live slots follows from it.
pub record LinksHold (w fs : List ℕ) (n root : ℕ) : Type 0 where
  pub passes : LinksPass w fs n root
  pub root_live : Live (seen w) n root
  pub forest : Forest
  pub from_root : head forest ≡ to root
  pub follows : Follows (kids_in w fs) (next_in w) forest
  pub whole : size forest ≡ n - unused_below w n
