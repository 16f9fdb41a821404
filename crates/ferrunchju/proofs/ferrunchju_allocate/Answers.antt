-- `ferrunchju::ferrunchju_allocate` meets its contract: what the call ensures, of the head that the words held and what was changed of it and written over them.
-- Assumes nothing.
use Rattle.heads.specs.WordLaws.{size_read}
use Rattle.ferrunchju.specs.HeadLaws.{allocate_short, allocate_rest}
use Rattle.ferrunchju.proofs.ferrunchju_allocate.Goals as goal

pub put_changes-requires : goal.put_changes-requires
put_changes-requires c = let read = c.head_of-changed.ensures.1 in
    let left = allocate_short _ c.allocate-got.ensures read in
    search (read, left)

pub returns : goal.returns
returns c = let args = c.args in
    let fits = c.ranges in
    let size_is = size_read {w = args.width} {h = args.height} c.size_of-size.ensures fits.width.sfits fits.height.sfits in
    let told = c.allocate-got.ensures in
    rw (c.answer_of.ensures, c.put_crop.ensures.0, c.put_crop.ensures.1, c.handed_over-crop.ensures, c.put_changes.ensures, ← c.head_of-changed.ensures.0, allocate_rest _ told)
    (rw size_is at told)
