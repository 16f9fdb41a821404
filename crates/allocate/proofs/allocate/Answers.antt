-- `allocate::allocate` meets its contract: sound tables have a valid setup.
-- Assumes nothing.
use mathlib.Core.Path.{refl}
use Rattle.allocate.specs.AllocateLaws.{sound_setup}
use Rattle.allocate.proofs.allocate.Goals as goal

pub request_of-requires : goal.request_of-requires
request_of-requires c = sound_setup _ _ (c.in_ok-check.ensures.gives_0.0 refl).1 c.setup_of-setup.ensures
