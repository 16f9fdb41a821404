-- The head and every lent table, whole.
-- Assumes nothing.
use Rattle.std.specs.Prelude.{ℕ, List}
use Rattle.buckets.specs.FreeLists.{Lists, lists}
use Rattle.steps.specs.declared.Head.{Head}

-- The head, the slot table, the generations, and the tables of the three free lists.
pub record State : Type 0 where
  pub head : Head
  pub words : List ℕ
  pub generations : List ℕ
  pub small : List ℕ
  pub medium : List ℕ
  pub large : List ℕ

abbrev pub state : Head → List ℕ → List ℕ → List ℕ → List ℕ → List ℕ → State
state h w g a b c = record { head = h; words = w; generations = g; small = a; medium = b; large = c }

-- The free lists of a state: each table with the length that the head gives.
abbrev pub lists_of : State → Lists
lists_of s = lists s.head.lengths s.small s.medium s.large
