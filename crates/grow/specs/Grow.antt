-- GROW: 1, 2, 11, 3, 7 in that order, else 0.
-- Assumes nothing.
use Rattle.std.specs.Prelude.{◌⊎◌, ◌<◌}
use Rattle.geometry.specs.Sides.{natural}
use Rattle.geometry.specs.declared.Size.{Size}
use Rattle.steps.specs.State.{State}
use Rattle.outcomes.specs.Given.{Given, nothing, given}
use Rattle.audit.specs.Answers.{after_check, Answers}
use Rattle.grows.specs.Grows.{grown}
use Rattle.grows.specs.Refusals.{grow_answer}

-- On sound tables: 11, 3 or 7 where it is refused so, changing nothing, else the sheet grows.
abbrev pub grown_to : State → Size → Given (Unit {0})
grown_to s new = after_check nothing s (given 0 nothing (grown s new)) (grow_answer s new)

-- THE CALL: 1 or 2 where the check says so, changing nothing, else what grow does on sound tables.
abbrev pub GrowCall : State → Size → Given (Unit {0}) → Type 0
GrowCall s new o = Answers nothing s (grown_to s new) o

-- Either side is smaller than now.
abbrev pub Smaller : State → Size → Type 0
Smaller s new = (natural new.width < natural s.head.sheet.width) ⊎ (natural new.height < natural s.head.sheet.height)
