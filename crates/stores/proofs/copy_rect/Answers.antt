-- `stores::copy_rect` meets its contract: no word that is read was written (`copied`).
-- Assumes nothing.
use Rattle.stores.proofs.StoreLaws.{copied}
use Rattle.stores.proofs.copy_rect.Goals as goal

pub returns : goal.returns
returns c = copied _ _ _ _ _ _ _ _ _ _ _ c.word_at-x0.ensures c.word_at-y0.ensures c.put_word.ensures c.put_word-2.ensures
    c.word_at-x1.ensures c.word_at-y1.ensures c.put_word-3.ensures c.put_word-4.ensures
