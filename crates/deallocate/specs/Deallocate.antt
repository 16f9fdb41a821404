-- DEALLOCATE: 1, 2, 8, 9, 10 in that order, else 0.
-- Assumes nothing.
use Rattle.tickets.specs.Tickets.{slot_of}
use Rattle.tickets.specs.declared.AllocId.{AllocId}
use Rattle.steps.specs.State.{State}
use Rattle.outcomes.specs.Given.{Given, nothing, given}
use Rattle.audit.specs.Answers.{after_check, Answers}
use Rattle.live.specs.Live.{ticket_answer}
use Rattle.frees.specs.Frees.{released}

-- On sound tables: 8, 9 or 10 where the ticket gets it, changing nothing, else its slot is freed.
abbrev pub deallocated : State → AllocId → Given (Unit {0})
deallocated s t = after_check nothing s (given 0 nothing (released s (slot_of t))) (ticket_answer s.words s.generations s.head.count t)

-- THE CALL: 1 or 2 where the check says so, changing nothing, else what deallocate does on sound tables.
abbrev pub DeallocateCall : State → AllocId → Given (Unit {0}) → Type 0
DeallocateCall s t o = Answers nothing s (deallocated s t) o
