-- `rounding::rest_of` meets its contract: where the alignment shares no digit with the number below it, it is a power of two.
-- Assumes nothing.
use Rattle.rounding.specs.PowerLaws.{masked}
use Rattle.rounding.proofs.rest_of.Goals as goal

pub returns-then-shared-eq0 : goal.returns-then-shared-eq0
returns-then-shared-eq0 c = masked _ _ c.requires c.if-shared-eq0.true
