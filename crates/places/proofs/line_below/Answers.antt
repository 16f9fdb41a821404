-- `places::line_below` meets its contract: each turn goes from a Container to its only child, a Container too.
-- Assumes nothing.
use mathlib.Core.Path.{refl, sym, ◌∙◌}
use Rattle.places.proofs.WalkLaws.{lined_on}
use Rattle.places.proofs.line_below.Goals as goal

pub loop-line-preserved : goal.loop-line-preserved
loop-line-preserved c = rw c.flipped.ensures (lined_on _ _ c.requires.0 _ _ _ _ _ _ _ c.loop-line.invariant c.loop-line-test.true refl (sym c.lone_at.ensures ∙ c.if-not-lone_at.false))
