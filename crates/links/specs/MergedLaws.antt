-- RULE 4, EXACT, where rule 3 holds: the test of a slot is the rule of the slot, and all slots that pass are the rule.
-- Assumes nothing.
use Rattle.std.specs.Prelude.{◌≡◌, ℕ}
use Rattle.slots.specs.Slots.{slot}
use Rattle.slots.specs.declared.NodeKind.TheVariants.{Free}
use Rattle.sound.specs.View.{none, to, Seen}

-- Rule 4 of slot i: a Free slot isn't followed by another, and with a parent it has a sibling.
pub record MergedHere (get : ℕ → Seen) (i : ℕ) : Type 0 where
  pub apart : (get i).kind ≡ Free → (j : ℕ) → (get i).next ≡ to j → (get j).kind ≡ Free → ⊥
  pub sibling : (get i).kind ≡ Free → (j : ℕ) → (get i).parent ≡ to j → (get i).next ≡ none → (get i).prev ≡ none → ⊥
