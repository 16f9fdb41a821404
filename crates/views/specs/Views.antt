-- WHAT CAN BE READ OFF THE TABLES beside a ticket's rectangle: the listings. They change no table.
-- Assumes nothing.
use Rattle.std.specs.Prelude.{List, ℕ}
use Rattle.slots.specs.declared.NodeKind.{NodeKind}
use Rattle.steps.specs.State.{State}
use Rattle.outcomes.specs.Given.{Given, given}
use Rattle.audit.specs.Answers.{Answers}
use Rattle.listings.specs.Listings.{Filled, filled, list_answer, list_filled}

-- What a listing gives on sound tables.
abbrev pub listing : NodeKind → State → List ℕ → Given Filled
listing kind s out =
    given (list_answer s.words s.generations kind s.head.count out) (list_filled s.words s.generations kind s.head.count out) s

-- The call: 1, 2, 12.
abbrev pub ListCall : NodeKind → State → List ℕ → Given Filled → Type 0
ListCall kind s out o = Answers (filled 0 out) s (listing kind s out) o
