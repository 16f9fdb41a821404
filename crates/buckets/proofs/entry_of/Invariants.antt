-- `buckets::entry_of` meets its contract. The loop's invariant: the first entry in the buckets from the next one on is the first of all.
-- Assumes nothing.
use Rattle.std.proofs.Common.{◌≡◌, drop}
use Rattle.buckets.specs.FreeLists.{lists, entry_in, entry_of}
use Rattle.buckets.proofs.entry_of.Given as goal

abbrev pub invariant-loop-bucket : goal.invariant-loop-bucket
invariant-loop-bucket l =
    entry_in l.v (drop l.bucket-index l.bucket-items) (lists l.lengths l.small l.medium l.large) ≡ entry_of l.v (lists l.lengths l.small l.medium l.large)
