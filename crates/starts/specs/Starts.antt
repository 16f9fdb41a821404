-- START, CLEAR, RESET: refused by 1, then 3, changing nothing; else a new sheet.
-- Assumes nothing.
use Rattle.std.specs.Prelude.{Bool}
use Rattle.geometry.specs.Choice.{pick}
use Rattle.geometry.specs.Sides.{valid_setup}
use Rattle.geometry.specs.declared.AllocatorOptions.{AllocatorOptions}
use Rattle.geometry.specs.declared.Size.{Size}
use Rattle.steps.specs.State.{State}
use Rattle.outcomes.specs.Given.{Given, nothing, given}
use Rattle.lent.specs.Lent.{lent}
use Rattle.sheets.specs.Sheets.{started}

-- Start and reset: 1, then 3, changing nothing; else the new sheet.
abbrev pub start_answer : Bool → Bool → Size → AllocatorOptions → State → Given (Unit {0})
start_answer in_range valid sheet options s =
    pick in_range (pick valid (given 0 nothing (started sheet options s.words s.generations s.small s.medium s.large)) (given 3 nothing s)) (given 1 nothing s)

unfoldable pub start_call : Size → AllocatorOptions → State → Given (Unit {0})
start_call sheet options s = start_answer (lent s) (valid_setup sheet options) sheet options s

-- Clear: the same with the setup in the head.
unfoldable pub clear_call : State → Given (Unit {0})
clear_call s = start_call s.head.sheet s.head.options s
