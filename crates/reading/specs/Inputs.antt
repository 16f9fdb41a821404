-- What a read does to an input.
-- Assumes nothing.
use Rattle.std.specs.Prelude.{ℕ, List}
use Rattle.std.specs.declared.option.Option.{Option}
use Rattle.std.specs.Io.KnownBytes.{Consumes}

-- Of the bytes that an input is known to have left, some at the front are read, and the others stay.
abbrev pub ReadsOn : Option (List ℕ) → Option (List ℕ) → Type 0
ReadsOn old new = (bs : List ℕ) × Consumes old new bs
