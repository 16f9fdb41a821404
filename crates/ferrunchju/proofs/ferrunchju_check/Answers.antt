-- `ferrunchju::ferrunchju_check` meets its contract: what the check ensures, of the head that the words hold.
-- Assumes nothing.
use Rattle.ferrunchju.proofs.ferrunchju_check.Goals as goal

pub returns : goal.returns
returns c = rw (c.answer_of.ensures, ← c.head_of.ensures.0) c.check.ensures
