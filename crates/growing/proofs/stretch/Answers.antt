-- `growing::stretch` meets its contract: the rectangle is stored, and the entry moves.
-- Assumes nothing.
use Rattle.growing.specs.StepLaws.{stretch_moves, stretch_done}
use Rattle.growing.proofs.stretch.Goals as goal

pub move_entry-lengths-requires : goal.move_entry-lengths-requires
move_entry-lengths-requires c = stretch_moves _ c.requires c.set_rect.ensures

pub returns : goal.returns
returns c = stretch_done _ _ _ _ _ _ _ _ _ _ c.setup_of-setup.ensures.0 c.set_rect.ensures c.move_entry-lengths.ensures
