-- `ferrunchju::ferrunchju_is_empty` meets its contract: what the call ensures, of the head that the words hold, and the word that stands for yes or no.
-- Assumes nothing.
use mathlib.Core.Path.{◌≡◌}
use borrow.Author.Rules.{rules}
use Rattle.std.specs.Prelude.{Bool, false}
use Rattle.refusals.specs.Refusals.{handed}
use Rattle.ferrunchju.proofs.ferrunchju_is_empty.Goals as goal

pub returns : goal.returns
returns c = let over : ◌≡◌ {A = Bool} c.unwrap_or.result (handed false c.is_empty-seen.result) = search rules in
    (c.flag_of.ensures.0, rw (c.answer_of.ensures, c.flag_of.ensures.1, over, ← c.head_of.ensures.0) c.is_empty-seen.ensures)
