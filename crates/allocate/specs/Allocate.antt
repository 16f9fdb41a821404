-- ALLOCATE: 1, 2, 4, 5, 6, 7 in that order, else 0 with ticket and rectangle.
-- Assumes nothing.
use Rattle.std.specs.Prelude.{Result, Ok, Err}
use Rattle.geometry.specs.Rectangles.{no_rect}
use Rattle.geometry.specs.Sides.{setup_of}
use Rattle.geometry.specs.declared.Extent.{Extent}
use Rattle.geometry.specs.declared.Rectangle.{Rectangle}
use Rattle.geometry.specs.declared.Size.{Size}
use Rattle.rounding.specs.Rounding.{request_of}
use Rattle.refusals.specs.Refusals.{number_of, handed}
use Rattle.refusals.specs.declared.Refusal.{Refusal}
use Rattle.tickets.specs.declared.AllocId.{AllocId}
use Rattle.steps.specs.State.{State}
use Rattle.outcomes.specs.Given.{Given, given}
use Rattle.audit.specs.Answers.{Answers}
use Rattle.grants.specs.Grants.{Grant, no_ticket, refused, granted}
use Rattle.taking.specs.Allocations.{no_allocation}
use Rattle.taking.specs.declared.Allocation.{Allocation}

-- What allocate hands over: a ticket and its rectangle.
pub record Crop : Type 0 where
  pub ticket : AllocId
  pub rect : Rectangle

abbrev pub crop : AllocId → Rectangle → Crop
crop t r = record { ticket = t; rect = r }

-- A refusal gives zero ticket and rectangle.
abbrev pub no_crop : Crop
no_crop = crop no_ticket no_rect

abbrev pub crop_of : Result Allocation Refusal → Crop
crop_of r = let a = handed no_allocation r in crop a.id a.rectangle

-- On sound tables: 4, 5, else the rounded request.
unfoldable pub allocated_for : State → Result Extent Refusal → Grant
allocated_for s (Err e) = refused (number_of e) s
allocated_for s (Ok e) = granted s e

unfoldable pub allocated : State → Size → Grant
allocated s size = allocated_for s (request_of (setup_of s.head.sheet s.head.options) size)

-- What is left, as the calls that check first have it.
abbrev pub leaves : Grant → Given Crop
leaves g = given g.answer (crop g.ticket g.rect) g.after

-- THE CALL: 1 or 2 where the check says so, changing nothing, else what allocate does on sound tables.
abbrev pub AllocateCall : Size → State → Given Crop → Type 0
AllocateCall size s o = Answers no_crop s (leaves (allocated s size)) o
