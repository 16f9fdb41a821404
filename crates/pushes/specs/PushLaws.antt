-- The laws of a push: by its two branches, and what it keeps.
-- Assumes nothing.
use Rattle.std.specs.Prelude.{List, ℕ}
use Rattle.geometry.specs.Choice.{pick}
use Rattle.lists.specs.Lists.{Bag}
use Rattle.pushes.specs.Pushes.{swept, has_room}

-- The list that a push appends to: swept if it was full.
unfoldable pub ready : List ℕ → ℕ → Bag → Bag
ready w v b = pick (has_room b) b (swept w v b)
