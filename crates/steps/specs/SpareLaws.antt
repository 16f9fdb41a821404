-- Laws of the count of slots of a kind.
-- Assumes nothing.
use Rattle.std.specs.Prelude.{◌≡◌, ℕ, ◌+◌, ◌≤◌, List}
use Rattle.std.proofs.Common.{ap, ◌∙◌, add-one, arith}
use Rattle.slots.specs.declared.NodeKind.{NodeKind}
use Rattle.steps.specs.Spares.{of_kind, count_kind}

-- The count, one slot further.
pub count_more : (w : List ℕ) (kind : NodeKind) (i u a : ℕ) → u ≡ count_kind w kind i → a ≡ of_kind w kind i → u + a ≡ count_kind w kind (i + 1)
unfolding count_kind
count_more w kind i u a e f = rw (add-one, e, f)

-- The count at the end.
pub count_all : (w : List ℕ) (kind : NodeKind) (i n u : ℕ) → u ≡ count_kind w kind i → i ≤ n → n ≤ i → u ≡ count_kind w kind n
count_all w kind i n u e l m = e ∙ ap (count_kind w kind) (omega arith)
