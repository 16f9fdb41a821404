-- `ferrunchju::ferrunchju_deallocate` meets its contract: what the call ensures, of the head that the words held and what was changed of it and written over them.
-- Assumes nothing.
use Rattle.ferrunchju.specs.HeadLaws.{deallocate_short, deallocate_rest}
use Rattle.ferrunchju.proofs.ferrunchju_deallocate.Goals as goal

pub put_changes-requires : goal.put_changes-requires
put_changes-requires c = deallocate_short _ c.deallocate-freed.ensures c.head_of-after.ensures.1

pub returns : goal.returns
returns c = let call = c.deallocate-freed.ensures in
    rw (c.answer_of.ensures, c.put_changes.ensures, ← c.head_of-after.ensures.0, deallocate_rest _ call) call
