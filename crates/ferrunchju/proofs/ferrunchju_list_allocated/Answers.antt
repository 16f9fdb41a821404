-- `ferrunchju::ferrunchju_list_allocated` meets its contract: what the call ensures, of the head that the words hold.
-- Assumes nothing.
use mathlib.Core.Path.{◌≡◌}
use borrow.Author.Rules.{rules}
use Rattle.std.specs.Prelude.{ℕ}
use Rattle.refusals.specs.Refusals.{handed}
use Rattle.ferrunchju.proofs.ferrunchju_list_allocated.Goals as goal

pub returns : goal.returns
returns c = let over : ◌≡◌ {A = ℕ} c.unwrap_or.result (handed 0 c.for_each_allocated_rectangle-listed.result) = search rules in
    rw (c.answer_of.ensures, over, ← c.head_of.ensures.0) c.for_each_allocated_rectangle-listed.ensures
