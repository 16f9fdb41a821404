-- The laws of a scan: what a look does, and that as many looks as there are entries are enough.
-- Each takes the outcome as a variable with its equation, so that a proof hands over what a call ensures.
-- Assumes nothing.
use Rattle.std.specs.Prelude.{ℕ, ◌-◌}
use Rattle.lists.specs.Lists.{Bag, bag}
use Rattle.fits.specs.Scans.{Scanned}

-- The filled part of a scan's table.
abbrev pub list_in : Scanned → Bag
list_in o = bag o.table o.scan.len

-- How many places a scan has left.
abbrev pub left : Scanned → ℕ
left o = o.scan.len - o.scan.at
