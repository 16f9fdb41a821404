-- What the test of a slot's links says of the slot: rule 3, but for the sentences that follow links to their end.
-- Assumes nothing.
use Rattle.std.specs.Prelude.{◌≡◌, false, List, ◌↔◌, ℕ}
use Rattle.std.proofs.Math.ListN.{get_or}
use Rattle.geometry.specs.Rectangles.{flip}
use Rattle.slots.specs.Slots.{slot, is_none}
use Rattle.slots.specs.declared.NodeKind.TheVariants.{Container}
use Rattle.sound.specs.View.{none, to, Seen, Live}

-- Rule 3 of slot i, with the table of first children.
pub record LinksHere (get : ℕ → Seen) (fs : List ℕ) (n root i : ℕ) : Type 0 where
  pub parent_live : (j : ℕ) → (get i).parent ≡ to j → Live get n j
  pub next_live : (j : ℕ) → (get i).next ≡ to j → Live get n j
  pub prev_live : (j : ℕ) → (get i).prev ≡ to j → Live get n j
  pub next : (j : ℕ) → (get i).next ≡ to j → ((get j).prev ≡ to i) × (((get j).parent ≡ (get i).parent) × ((get j).orientation ≡ (get i).orientation))
  pub prev : (j : ℕ) → (get i).prev ≡ to j → (get j).next ≡ to i
  pub parent : (j : ℕ) → (get i).parent ≡ to j → ((get j).kind ≡ Container) × ((get j).orientation ≡ flip (get i).orientation)
  pub child : (get i).kind ≡ Container → is_none (slot (get_or fs i 0)) ≡ false
  pub first : (get i).prev ≡ none → (j : ℕ) → (get i).parent ≡ to j → get_or fs j 0 ≡ i
  pub top : (((get i).parent ≡ none) × ((get i).prev ≡ none)) ↔ (i ≡ root)
