use Rattle.starts.specs.Starts.{clear_call}
use Rattle.starts.proofs.clear.Goals as goal

pub returns : goal.returns
unfolding clear_call
returns c = c.start.ensures
