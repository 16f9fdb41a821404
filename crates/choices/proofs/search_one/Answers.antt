-- `search_one` scans the list of its bucket, in each of the three arms.
-- Assumes nothing.
use Rattle.geometry.specs.declared.Bucket.TheVariants.{Small, Medium, Large}
use Rattle.choices.specs.ChoiceLaws.{one_searched}
use Rattle.choices.proofs.search_one.Goals as goal

pub scan_bucket-a-requires : goal.scan_bucket-a-requires
scan_bucket-a-requires c = c.requires Small

pub scan_bucket-a-requires-in-Medium : goal.scan_bucket-a-requires-in-Medium
scan_bucket-a-requires-in-Medium c = c.requires Medium

pub scan_bucket-a-requires-in-Large : goal.scan_bucket-a-requires-in-Large
scan_bucket-a-requires-in-Large c = c.requires Large

pub returns-in-Small : goal.returns-in-Small
returns-in-Small c = one_searched _ _ _ Small _ _ c.in-Small.is c.scan_bucket-a.ensures

pub returns-in-Medium : goal.returns-in-Medium
returns-in-Medium c = one_searched _ _ _ Medium _ _ c.in-Medium.is c.scan_bucket-a-in-Medium.ensures

pub returns-in-Large : goal.returns-in-Large
returns-in-Large c = one_searched _ _ _ Large _ _ c.in-Large.is c.scan_bucket-a-in-Large.ensures
