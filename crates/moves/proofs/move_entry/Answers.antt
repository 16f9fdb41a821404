-- `moves::move_entry` meets its contract: the first occurrence is taken out, and the entry is pushed.
-- Assumes nothing.
use Rattle.moves.specs.MoveLaws.{ready_within, forgotten_enterable}
use borrow.Author.Rules.{rules}
use Rattle.moves.proofs.move_entry.Goals as goal

pub add_free_rect-requires : goal.add_free_rect-requires
add_free_rect-requires c = (forgotten_enterable _ _ _ _ c.forget-without.ensures c.requires.0 c.requires.1, c.requires.2, c.requires.3)
