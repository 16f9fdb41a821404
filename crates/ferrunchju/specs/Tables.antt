-- What crosses to a call: the head as words, and the lent tables.
-- Assumes nothing.
use Rattle.std.specs.Prelude.{List, ℕ}
use Rattle.steps.specs.State.{State, state}
use Rattle.heads.specs.Words.{head_at, ticket_at, rect_at}
use Rattle.allocate.specs.Allocate.{Crop, crop}

-- The head that the words hold, and every lent table, whole.
abbrev pub state_at : List ℕ → List ℕ → List ℕ → List ℕ → List ℕ → List ℕ → State
state_at h w g a b c = state (head_at h) w g a b c

-- What allocate hands over, in five words: the ticket, then the corners.
abbrev pub crop_at : List ℕ → Crop
crop_at l = crop (ticket_at l) (rect_at 1 l)
