-- `deallocate::deallocate` meets its contract: a live ticket is released, which is the call on sound tables.
-- Assumes nothing.
use mathlib.Core.Path.{refl}
use Rattle.deallocate.specs.DeallocateLaws.{live_releasable, leaves_freed}
use Rattle.deallocate.proofs.deallocate.Goals as goal

pub release-requires : goal.release-requires
release-requires c = live_releasable _ _ c.in_ok-check.ensures refl c.in_ok-ticket_answer.ensures refl c.get_index-i.ensures

pub returns : goal.returns
returns c = leaves_freed _ _ c.in_ok-check.ensures refl c.in_ok-ticket_answer.ensures refl c.get_index-i.ensures
    (c.release.ensures c.args.generations.now)
