-- A TICKET on the tables: whether it is live, and its rectangle.
-- Assumes nothing.
use Rattle.std.specs.Prelude.{not, List, ℕ, get_or, eqb, leb}
use Rattle.geometry.specs.Choice.{pick}
use Rattle.geometry.specs.Rectangles.{no_rect}
use Rattle.geometry.specs.declared.Rectangle.{Rectangle}
use Rattle.slots.specs.Slots.{same_kind}
use Rattle.table.specs.Table.{node_at}
use Rattle.tickets.specs.Tickets.{slot_of, generation_of}
use Rattle.tickets.specs.declared.AllocId.{AllocId}
use Rattle.slots.specs.declared.NodeKind.TheVariants.{Alloc}

-- 8: the ticket's slot is not below n; 9: its generation differs; 10: its slot is not Alloc; else 0.
unfoldable pub ticket_answer : List ℕ → List ℕ → ℕ → AllocId → ℕ
ticket_answer w g n t =
    pick (leb n (slot_of t).0) 8
    (pick (not (eqb (get_or g (slot_of t).0 0) (generation_of t))) 9 (pick (not (same_kind (node_at w (slot_of t)).kind Alloc)) 10 0))

-- The rectangle of a live ticket, the zero rectangle of another.
unfoldable pub ticket_rect : List ℕ → List ℕ → ℕ → AllocId → Rectangle
ticket_rect w g n t = pick (eqb (ticket_answer w g n t) 0) (node_at w (slot_of t)).rect no_rect
