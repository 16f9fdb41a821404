-- `enlarging::grow_sheet` meets its contract: a single Free root is stretched over the new sheet, and otherwise the two steps are taken.
-- Assumes nothing.
use Rattle.enlarging.specs.GrowLaws.{lone_done, both_ready, both_grows}
use Rattle.enlarging.proofs.grow_sheet.Goals as goal

pub returns-then-is_lone : goal.returns-then-is_lone
returns-then-is_lone c = lone_done c.requires.0 c.requires.1 c.requires.2 c.is_lone.ensures c.if-is_lone.true c.setup_of.ensures.0 (rw c.from-whole.ensures at (c.stretch.ensures c.args.generations.now))

pub grow_both-requires : goal.grow_both-requires
grow_both-requires c = both_ready c.requires.0 c.requires.1 c.requires.2 c.is_lone.ensures c.if-is_lone.false

pub returns : goal.returns
returns c = both_grows c.requires.0 c.requires.1 c.requires.2 c.is_lone.ensures c.if-is_lone.false c.grow_both.ensures
