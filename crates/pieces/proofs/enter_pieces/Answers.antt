-- `pieces::enter_pieces` meets its contract: split can be entered if there is one, and then leftover if there is one.
-- Assumes nothing.
use mathlib.Core.Path.{sym, ◌∙◌}
use Rattle.entries.specs.EntryLaws.{ready_enterable}
use Rattle.pieces.specs.PieceLaws.{left_enterable}
use Rattle.pieces.proofs.enter_pieces.Goals as goal

pub add_free_rect-between-requires : goal.add_free_rect-between-requires
add_free_rect-between-requires c = let p = c.requires in
    let z = p.split (sym c.has_split.ensures ∙ c.if-not-has_split.false) in
    (ready_enterable _ _ _ p.lists z.0, z.1.0, z.1.1)

pub add_free_rect-requires : goal.add_free_rect-requires
add_free_rect-requires c = left_enterable c.args.setup _ c.requires (sym c.has_split.ensures ∙ c.if-not-has_split.false)
    (sym c.has_left.ensures ∙ c.if-not-has_left.false) c.add_free_rect-between.ensures
