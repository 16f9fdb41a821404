-- THE LISTINGS: what stands in the lent list, and what is answered.
-- Assumes nothing.
use Rattle.std.specs.Prelude.{List, [], ◌++◌, ℕ, zero, suc, length, drop, leb}
use Rattle.geometry.specs.Choice.{pick}
use Rattle.slots.specs.declared.NodeKind.{NodeKind}
use Rattle.steps.specs.Spares.{count_kind}
use Rattle.written.specs.Entries.{entry_at}

-- The listing of the first n slots, in slot order.
unfoldable pub entries : List ℕ → List ℕ → NodeKind → ℕ → List ℕ
entries w g kind zero = []
entries w g kind (suc n) = entries w g kind n ++ entry_at w g kind n

-- What a listing hands over: its count, and the lent list, whole.
pub record Filled : Type 0 where
  pub count : ℕ
  pub list : List ℕ

abbrev pub filled : ℕ → List ℕ → Filled
filled k l = record { count = k; list = l }

-- The listing stands first in the lent list; places past it keep their bytes.
abbrev pub written_over : List ℕ → List ℕ → List ℕ
written_over listing out = listing ++ drop (length listing) out

-- 12: the lent list is shorter than the listing; else 0.
unfoldable pub list_answer : List ℕ → List ℕ → NodeKind → ℕ → List ℕ → ℕ
list_answer w g kind n out = pick (leb (length (entries w g kind n)) (length out)) 0 12

-- The count of the slots of the kind, and the listing in the lent list; after 12 the count 0, and the lent list as it was.
unfoldable pub list_filled : List ℕ → List ℕ → NodeKind → ℕ → List ℕ → Filled
list_filled w g kind n out =
    pick (leb (length (entries w g kind n)) (length out)) (filled (count_kind w kind n) (written_over (entries w g kind n) out)) (filled 0 out)
