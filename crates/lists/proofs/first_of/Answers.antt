-- `lists::first_of` meets its contract: the library's first position is the first occurrence (`first_position`).
-- Assumes nothing.
use Rattle.std.proofs.Common.{◌∙◌}
use Rattle.lists.specs.FirstLaws.{first_position}
use Rattle.lists.proofs.first_of.Goals as goal

pub returns : goal.returns
returns c = c.place_of.ensures ∙ first_position _ _ _ c.requires
