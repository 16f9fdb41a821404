-- What a search for a request does and what its answer means: the laws that its callers use.
-- Each is about the outcome f of a search of lists that are ready for it. Assumes nothing.
use Rattle.std.specs.Prelude.{ℕ}
use Rattle.geometry.specs.Buckets.{bucket_of}
use Rattle.geometry.specs.declared.Bucket.{Bucket}
use Rattle.geometry.specs.declared.Setup.{Setup}

-- The bucket of a width and a height, by the thresholds of a setup.
abbrev pub ideal_of : Setup → ℕ → ℕ → Bucket
ideal_of s width height = bucket_of s.small s.large width height
