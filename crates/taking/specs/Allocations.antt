-- An allocation and a refusal, as the grants that they are.
-- Assumes nothing.
use Rattle.std.specs.Prelude.{Result, Ok, Err}
use Rattle.geometry.specs.Rectangles.{no_rect}
use Rattle.refusals.specs.Refusals.{number_of}
use Rattle.refusals.specs.declared.Refusal.{Refusal}
use Rattle.steps.specs.State.{State}
use Rattle.grants.specs.Grants.{Grant, grant, no_ticket, refused}
use Rattle.taking.specs.declared.Allocation.{Allocation}

-- What a refusal hands over.
abbrev pub no_allocation : Allocation
no_allocation = record { id = no_ticket; rectangle = no_rect }

-- The grant of an outcome that leaves this state.
abbrev pub grant_by : Result Allocation Refusal → State → Grant
grant_by (Ok a) s = grant 0 a.id a.rectangle s
grant_by (Err r) s = refused (number_of r) s
