-- `spares::has_spare_slots` meets its contract: the slots past n are enough, or the chain has the rest.
-- Assumes nothing.
use Rattle.spares.specs.ChainLaws.{spare_chain}
use Rattle.spares.proofs.has_spare_slots.Goals as goal

pub returns-else-need-room : goal.returns-else-need-room
returns-else-need-room c = spare_chain _ _ _ _ _ c.requires c.if-need-room.false _ c.chain_has.ensures
