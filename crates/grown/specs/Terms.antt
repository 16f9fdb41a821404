-- The words in which the promises of grow are said.
-- Assumes nothing.
use Rattle.std.specs.Prelude.{ℕ, ◌+◌, ◌≤◌, ◌≡◌, true, get_or}
use Rattle.geometry.specs.Sides.{natural, valid_setup}
use Rattle.geometry.specs.declared.Size.{Size}
use Rattle.tickets.specs.Tickets.{slot_of}
use Rattle.tickets.specs.declared.AllocId.{AllocId}
use Rattle.steps.specs.State.{State}
use Rattle.sound.specs.View.{seen, Live}
use Rattle.sound.specs.LiveTickets.{LiveTicket}
use Rattle.cover.specs.Sums.{rect_at}
use Rattle.granted.specs.Terms.{spare_at}
use Rattle.grows.specs.Grows.{grow_slots}

-- A grow to a size is due: no side is smaller than now, the setup is valid with it, and as many slots are spare as it needs.
pub record GrowDue (s : State) (new : Size) : Type 0 where
  pub wide : natural s.head.sheet.width ≤ natural new.width
  pub tall : natural s.head.sheet.height ≤ natural new.height
  pub valid : valid_setup new s.head.options ≡ true
  pub enough : grow_slots s new ≤ spare_at s

-- The sheet grows.
pub record Grows (s : State) (new : Size) (after : State) : Type 0 where
  -- It has the new size, and the options stay.
  pub sheet : after.head.sheet ≡ new
  pub options : after.head.options ≡ s.head.options
  -- Every live ticket stays live with its rectangle, and none becomes live.
  pub stays : (t : AllocId) → LiveTicket s t → LiveTicket after t × (rect_at after (slot_of t).0 ≡ rect_at s (slot_of t).0)
  pub only : (t : AllocId) → LiveTicket after t → LiveTicket s t
  -- Every live slot stays live with its generation.
  pub lives : (j : ℕ) → Live (seen s.words) s.head.count j → Live (seen after.words) after.head.count j
  pub generations : (j : ℕ) → Live (seen s.words) s.head.count j → get_or after.generations j 0 ≡ get_or s.generations j 0
  -- As many fewer slots are spare as it needs.
  pub spares : spare_at s ≡ spare_at after + grow_slots s new
