-- `buckets::forget` meets its contract: an entry that is found stands in its list.
-- Assumes nothing.
use Rattle.buckets.specs.ForgetLaws.{entry_within}
use Rattle.buckets.proofs.forget.Goals as goal

pub remove_from-requires : goal.remove_from-requires
remove_from-requires c = (c.requires, entry_within _ _ _ _ c.entry_of.ensures c.in-Some.is)
