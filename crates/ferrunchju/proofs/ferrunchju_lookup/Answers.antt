-- `ferrunchju::ferrunchju_lookup` meets its contract: what the call ensures, of the head that the words hold.
-- Assumes nothing.
use mathlib.Core.Path.{◌≡◌}
use borrow.Author.Rules.{rules}
use Rattle.geometry.specs.Rectangles.{no_rect}
use Rattle.geometry.specs.declared.Rectangle.{Rectangle}
use Rattle.refusals.specs.Refusals.{handed}
use Rattle.ferrunchju.proofs.ferrunchju_lookup.Goals as goal

pub returns : goal.returns
returns c = let over : ◌≡◌ {A = Rectangle} c.unwrap_or.result (handed no_rect c.index-looked.result) = search rules in
    rw (c.answer_of.ensures, c.put_rect.ensures, over, ← c.head_of.ensures.0) c.index-looked.ensures
