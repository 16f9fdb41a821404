-- `ferrunchju::ferrunchju_reset` meets its contract: it is a start, of the numbers that it is given.
-- Assumes nothing.
use Rattle.heads.specs.SignedLaws.{read_back}
use Rattle.ferrunchju.proofs.ferrunchju_reset.Goals as goal

pub returns : goal.returns
returns c = let args = c.args in
    let fits = c.ranges in
    rw (read_back args.width fits.width.sfits, read_back args.height fits.height.sfits, read_back args.alignment_width fits.alignment_width.sfits, read_back args.alignment_height fits.alignment_height.sfits, read_back args.small_threshold fits.small_threshold.sfits, read_back args.large_threshold fits.large_threshold.sfits)
    at c.ferrunchju_start.ensures
