-- A ticket is slot + generation × 16,777,216.
-- Assumes nothing.
use Rattle.std.specs.Prelude.{ℕ, ◌+◌, ◌*◌, ◌%◌, ◌/◌}
use Rattle.slots.specs.Slots.{slot}
use Rattle.slots.specs.declared.AllocIndex.{AllocIndex}
use Rattle.tickets.specs.declared.AllocId.{AllocId}

-- The ticket of a slot and a generation.
abbrev pub ticket_of : AllocIndex → ℕ → AllocId
ticket_of i generation = record { 0 = i.0 + generation * 16777216 }

-- The slot and the generation that a ticket names.
abbrev pub slot_of : AllocId → AllocIndex
slot_of t = slot (t.0 % 16777216)

abbrev pub generation_of : AllocId → ℕ
generation_of t = t.0 / 16777216
