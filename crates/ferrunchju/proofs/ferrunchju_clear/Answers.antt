-- `ferrunchju::ferrunchju_clear` meets its contract: what the call ensures, of the head that the words held and the one that was written over them.
-- Assumes nothing.
use Rattle.ferrunchju.specs.HeadLaws.{clear_short}
use Rattle.ferrunchju.proofs.ferrunchju_clear.Goals as goal

pub put_head-requires : goal.put_head-requires
put_head-requires c = clear_short _ c.clear-begun.ensures c.head_of-after.ensures.1

pub returns : goal.returns
returns c = rw (c.answer_of.ensures, c.put_head.ensures, ← c.head_of-after.ensures.0) c.clear-begun.ensures
