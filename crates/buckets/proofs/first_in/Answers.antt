-- `buckets::first_in` meets its contract: in each arm the bucket is known, and its list is searched.
-- Assumes nothing.
use Rattle.geometry.specs.declared.Bucket.TheVariants.{Small, Medium, Large}
use Rattle.buckets.proofs.first_in.Goals as goal

pub first_of-requires : goal.first_of-requires
first_of-requires c = c.requires Small

pub first_of-requires-in-Medium : goal.first_of-requires-in-Medium
first_of-requires-in-Medium c = c.requires Medium

pub first_of-requires-in-Large : goal.first_of-requires-in-Large
first_of-requires-in-Large c = c.requires Large
