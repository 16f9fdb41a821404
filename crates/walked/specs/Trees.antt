-- The tables that the check makes of the slots and the lists, and what making them asks.
-- Assumes nothing.
use Rattle.std.specs.Prelude.{◌≡◌, List, ℕ, ◌-◌, ◌<◌, take, replicate}
use Rattle.buckets.specs.FreeLists.{Lists}
use Rattle.links.specs.Links.{firsts_to, Table}
use Rattle.steps.specs.Spares.{unused_below}
use Rattle.marks.specs.Marks.{ListsReady}

-- The table of first children, none where there is none.
unfoldable pub firsts_of : List ℕ → ℕ → List ℕ
firsts_of w n = take n (firsts_to w n n (replicate 4096 4294967295))

-- What making the tables asks: n slots, the root one of them, lists whose entries can be marked, and the number of live slots.
pub record TreeReady (w : List ℕ) (l : Lists) (n root live : ℕ) : Type 0 where
  pub table : Table w n
  pub top : root < n
  pub lists : ListsReady l
  pub count : live ≡ n - unused_below w n
