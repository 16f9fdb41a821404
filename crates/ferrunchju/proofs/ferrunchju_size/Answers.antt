-- `ferrunchju::ferrunchju_size` meets its contract: the size that is written is that of the head that the words hold.
-- Assumes nothing.
use mathlib.Core.Path.{refl}
use Rattle.ferrunchju.proofs.ferrunchju_size.Goals as goal

pub returns : goal.returns
returns c = rw (c.put_size.ensures, c.size.ensures, c.head_of.ensures.0) refl
