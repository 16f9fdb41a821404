-- What the laws of proofs/RuleLaws.antt speak of.
-- Assumes nothing.
use Rattle.std.specs.Prelude.{◌≡◌, List, ℕ, length, get_or}
use Rattle.slots.specs.declared.NodeKind.TheVariants.{Container}
use Rattle.sound.specs.View.{seen, in_use, Live}
use Rattle.sound.specs.Rules.{FirstChild}
use Rattle.lists.specs.Counts.{count}

-- How many slots of the table are live.
unfoldable pub live_slots : List ℕ → ℕ → ℕ
live_slots w n = count (λ j. in_use (seen w j).kind) n

-- The table of first children names each Container's child without prev.
abbrev pub FirstsRight : List ℕ → List ℕ → Type 0
FirstsRight w fs = (i c : ℕ) → Live (seen w) (length fs) i → (seen w i).kind ≡ Container → FirstChild (seen w) (length fs) i c → get_or fs i 0 ≡ c
