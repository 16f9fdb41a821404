-- `scan_bucket` is a scan, whose best candidate's place is in the list.
-- Assumes nothing.
use Rattle.choices.specs.ChoiceLaws.{scan_best}
use Rattle.choices.proofs.scan_bucket.Goals as goal

pub chosen_of-requires : goal.chosen_of-requires
chosen_of-requires c = scan_best _ _ _ _ c.scan_list-s.ensures c.requires
