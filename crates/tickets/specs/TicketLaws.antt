-- Tickets taken apart and put together: nothing is lost either way.
-- Assumes nothing.
use Rattle.std.specs.Prelude.{◌≡◌, ℕ, ◌+◌, ◌*◌, ◌%◌, ◌/◌, ◌<◌}
use Rattle.std.proofs.Common.{ap, ◌∙◌, arith, mod-eq_of_lt}
use Rattle.std.proofs.Math.Nat.{mod-add-div', add-mul-mod_self_right}
use Rattle.slots.specs.Slots.{slot}
use Rattle.tickets.specs.Tickets.{ticket_of, slot_of, generation_of}
use Rattle.slots.specs.declared.AllocIndex.{AllocIndex}
use Rattle.tickets.specs.declared.AllocId.{AllocId}

abbrev ticket : ℕ → AllocId
ticket n = record { 0 = n }

-- Every ticket is that of its slot and its generation: the top digits never get lost.
pub ticket_together : (t : AllocId) → ticket_of (slot_of t) (generation_of t) ≡ t
ticket_together t = ap ticket (mod-add-div' t.0 16777216)

-- The slot and the generation that a ticket was made of come back.
pub ticket_slot : (i : AllocIndex) (g : ℕ) → i.0 < 16777216 → slot_of (ticket_of i g) ≡ i
ticket_slot i g h = ap slot (add-mul-mod_self_right i.0 g 16777216 ∙ mod-eq_of_lt h)

pub ticket_generation : (i : AllocIndex) (g : ℕ) → i.0 < 16777216 → generation_of (ticket_of i g) ≡ g
ticket_generation i g h = omega (arith, mod-add-div' (i.0 + g * 16777216) 16777216, add-mul-mod_self_right i.0 g 16777216, mod-eq_of_lt h)

-- A u32 has a generation that is a byte, and a slot below 16,777,216.
pub ticket_byte : (t : AllocId) → t.0 < 4294967296 → generation_of t < 256
ticket_byte t h = omega (arith, mod-add-div' t.0 16777216)
