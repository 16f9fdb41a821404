-- `strips::appended_rect` meets its contract: the stretched rectangle starts where the rectangle ends.
-- Assumes nothing.
use Rattle.strips.specs.StripLaws.{ends_along}
use Rattle.strips.proofs.appended_rect.Goals as goal

pub returns : goal.returns
returns c = let a = c.args in
    rw (c.started_at.ensures, c.stretched_rect-longer.ensures, ends_along a.o a.rect _ c.side_along.ensures)
