-- `ways::ways_of` meets its contract: the sides of the new sheet less those of the old one, and the strip.
-- Assumes nothing.
use Rattle.ways.specs.WayLaws.{sides_grow, ways_done}
use Rattle.ways.proofs.ways_of.Goals as goal

pub overflow_sub-by : goal.overflow_sub-by
overflow_sub-by c = (sides_grow _ _ _ _ _ c.setup_of.ensures.0 c.setup_of-2.ensures.0 c.requires).0

pub overflow_sub-by-2 : goal.overflow_sub-by-2
overflow_sub-by-2 c = (sides_grow _ _ _ _ _ c.setup_of.ensures.0 c.setup_of-2.ensures.0 c.requires).1

pub returns : goal.returns
returns c = ways_done _ _ _ _ _ c.setup_of.ensures.0 c.setup_of-2.ensures.0 _ _ _ _ _ c.flipped-over.ensures c.side_along.ensures c.side_along-2.ensures c.strip_rect.ensures
