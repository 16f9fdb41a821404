-- The tests that the check makes of each slot.
-- Assumes nothing.
use Rattle.std.specs.Prelude.{◌≡◌, Bool, true, ◌&&◌, ◌||◌, not, List, ℕ, ◌<◌}
use Rattle.geometry.specs.Rectangles.{empty_rect}
use Rattle.geometry.specs.declared.Rectangle.{Rectangle}
use Rattle.geometry.specs.declared.Setup.{Setup}
use Rattle.slots.specs.Slots.{slot, is_none}
use Rattle.table.specs.Table.{node_at}
use Rattle.slots.specs.declared.AllocIndex.{AllocIndex}
use Rattle.slots.specs.declared.NodeKind.{NodeKind}
use Rattle.slots.specs.declared.NodeKind.TheVariants.{Container, Alloc, Free, Unused}
use Rattle.links.specs.Links.{live_at, merged_at}
use Rattle.marks.specs.Marks.{listed_at}

-- The rectangle of an Alloc or Free slot is never empty.
abbrev pub filled_as : NodeKind → Rectangle → Bool
filled_as Container r = true
filled_as Unused r = true
filled_as Alloc r = not (empty_rect r)
filled_as Free r = not (empty_rect r)

unfoldable pub filled_at : List ℕ → ℕ → Bool
filled_at w i = filled_as (node_at w (slot i)).kind (node_at w (slot i)).rect

-- The slot is not the last of the top chain: live, with neither parent nor next.
unfoldable pub not_last_at : List ℕ → ℕ → ℕ → Bool
not_last_at w n i = not (live_at w n i) || (not (is_none (node_at w (slot i)).parent) || not (is_none (node_at w (slot i)).next))

-- Rules 4 and 6 of a slot.
unfoldable pub settled_at : List ℕ → List ℕ → ℕ → Setup → ℕ → Bool
settled_at w ms n u i = merged_at w n i && listed_at w ms u i

-- What is called computes a test of the first n slots.
abbrev pub Computes : (AllocIndex → Bool → Type 0) → ℕ → (ℕ → Bool) → Type 0
Computes post n p = (i : ℕ) → i < n → (b : Bool) → post (slot i) b → b ≡ p i
