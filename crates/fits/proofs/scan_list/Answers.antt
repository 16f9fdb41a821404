-- `scan_list` is the whole scan: what one look keeps of the loop's invariant, and that it leaves fewer places.
-- Assumes nothing.
use mathlib.Core.Path.{◌∙◌}
use Rattle.fits.proofs.ScanLaws.{look_left, look_ready, look_open, looking_on}
use Rattle.fits.proofs.scan_list.Goals as goal

pub loop-s-smaller : goal.loop-s-smaller
loop-s-smaller c = look_left _ _ _ _ c.loop-s-test.true c.look_at-s.ensures

pub loop-s-preserved : goal.loop-s-preserved
loop-s-preserved c = let t = c.loop-s-test.true in
    let i = c.loop-s.invariant in
    (look_ready _ _ _ _ t c.look_at-s.ensures i.0, c.look_at-s.auto.list ∙ i.1, look_open _ _ _ _ t c.look_at-s.ensures i.2, looking_on _ _ _ _ t c.look_at-s.ensures ∙ i.3)
