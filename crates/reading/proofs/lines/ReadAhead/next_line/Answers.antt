use Rattle.reading.proofs.Inputs.{read_twice}
use Rattle.reading.proofs.lines.ReadAhead.next_line.Goals as goal

pub returns-then-not-branch : goal.returns-then-not-branch
returns-then-not-branch g c = read_twice _ _ _ c.loop.invariant c.read_on.ensures.source

pub loop-preserved : goal.loop-preserved
loop-preserved g c = read_twice _ _ _ c.loop.invariant c.read_on.ensures.source
