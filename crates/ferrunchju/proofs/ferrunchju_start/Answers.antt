-- `ferrunchju::ferrunchju_start` meets its contract: what the call ensures, of the head that the words held and the one that was written over them.
-- Assumes nothing.
use Rattle.heads.specs.WordLaws.{size_read, options_read}
use Rattle.ferrunchju.specs.HeadLaws.{start_short}
use Rattle.ferrunchju.proofs.ferrunchju_start.Goals as goal

pub put_head-requires : goal.put_head-requires
put_head-requires c = start_short _ _ _ c.start-begun.ensures c.head_of-after.ensures.1

pub returns : goal.returns
returns c = let fits = c.ranges in
    let args = c.args in
    let sheet_is = size_read {w = args.width} {h = args.height} c.size_of-sheet.ensures fits.width.sfits fits.height.sfits in
    let options_are = options_read {w = args.alignment_width} {h = args.alignment_height} {a = args.small_threshold} {b = args.large_threshold} c.options_of-options.ensures fits.alignment_width.sfits fits.alignment_height.sfits fits.small_threshold.sfits fits.large_threshold.sfits in
    rw (c.answer_of.ensures, c.put_head.ensures, ← c.head_of-after.ensures.0) (rw (sheet_is, options_are) at c.start-begun.ensures)
