-- LOOKUP: a live ticket's rectangle. It changes no table.
-- Assumes nothing.
use Rattle.geometry.specs.Rectangles.{no_rect}
use Rattle.geometry.specs.declared.Rectangle.{Rectangle}
use Rattle.tickets.specs.declared.AllocId.{AllocId}
use Rattle.steps.specs.State.{State}
use Rattle.outcomes.specs.Given.{Given, given}
use Rattle.audit.specs.Answers.{Answers}
use Rattle.live.specs.Live.{ticket_answer, ticket_rect}

-- What the lookup gives on sound tables.
abbrev pub lookup : State → AllocId → Given Rectangle
lookup s t =
    given (ticket_answer s.words s.generations s.head.count t) (ticket_rect s.words s.generations s.head.count t) s

-- The call: 1, 2, 8, 9, 10.
abbrev pub IndexCall : State → AllocId → Given Rectangle → Type 0
IndexCall s t o = Answers no_rect s (lookup s t) o
