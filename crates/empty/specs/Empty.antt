-- EMPTINESS: one Free slot is the whole sheet. To ask it changes no table.
-- Assumes nothing.
use Rattle.std.specs.Prelude.{◌≡◌, Bool, false, ℕ, ◌<◌}
use Rattle.slots.specs.declared.NodeKind.TheVariants.{Free}
use Rattle.steps.specs.State.{State}
use Rattle.sound.specs.View.{seen, Live}
use Rattle.sound.specs.Sound.{sheet_of}
use Rattle.lone.specs.Lone.{lone_free}
use Rattle.outcomes.specs.Given.{Given, given}
use Rattle.audit.specs.Answers.{Answers}

-- One Free slot is the whole sheet.
abbrev pub WholeFree : State → Type 0
WholeFree s = (i : ℕ) × (i < s.head.count) × ((seen s.words i).kind ≡ Free) × ((seen s.words i).rect ≡ sheet_of s.head.sheet)

-- The same another way: one Free slot is live, and no other slot is (`whole_free_only`).
abbrev pub OnlyFree : State → Type 0
OnlyFree s =
    (i : ℕ) × Live (seen s.words) s.head.count i × ((seen s.words i).kind ≡ Free) × ((j : ℕ) → Live (seen s.words) s.head.count j → j ≡ i)

-- The call: 1, 2. One Free slot is the whole sheet where the root is Free and has no next (`whole_free_at_root`).
abbrev pub EmptyCall : State → Given Bool → Type 0
EmptyCall s o = Answers false s (given 0 (lone_free s.words s.head.root) s) o
