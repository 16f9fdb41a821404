-- The source was read on.
use Rattle.reading.specs.Inputs.{ReadsOn}
use Rattle.reading.proofs.lines.ReadAhead.next_line.Given as goal

abbrev pub invariant-loop : goal.invariant-loop
invariant-loop g l = ReadsOn (g.R.Read.remaining l.initial.source) (g.R.Read.remaining l.source)
