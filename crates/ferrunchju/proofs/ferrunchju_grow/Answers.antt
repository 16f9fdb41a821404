-- `ferrunchju::ferrunchju_grow` meets its contract: what the call ensures, of the head that the words held and the one that was written over them.
-- Assumes nothing.
use Rattle.heads.specs.WordLaws.{size_read}
use Rattle.ferrunchju.specs.HeadLaws.{grow_short}
use Rattle.ferrunchju.proofs.ferrunchju_grow.Goals as goal

pub put_head-requires : goal.put_head-requires
put_head-requires c = grow_short _ c.grow-grown.ensures c.head_of-after.ensures.1

pub returns : goal.returns
returns c = let args = c.args in
    let fits = c.ranges in
    let size_is = size_read {w = args.width} {h = args.height} c.size_of-size.ensures fits.width.sfits fits.height.sfits in
    rw (c.answer_of.ensures, c.put_head.ensures, ← c.head_of-after.ensures.0) (rw size_is at c.grow-grown.ensures)
