-- Tickets on the tables.
-- Assumes nothing.
use Rattle.std.specs.Prelude.{◌≡◌, ◌<◌, get_or}
use Rattle.slots.specs.declared.NodeKind.TheVariants.{Alloc}
use Rattle.tickets.specs.Tickets.{slot_of, generation_of}
use Rattle.tickets.specs.declared.AllocId.{AllocId}
use Rattle.table.specs.Table.{node_at}
use Rattle.steps.specs.State.{State}

-- A live ticket is one naming an Alloc slot with its present generation.
pub record LiveTicket (s : State) (t : AllocId) : Type 0 where
  pub below : (slot_of t).0 < s.head.count
  pub present : get_or s.generations (slot_of t).0 0 ≡ generation_of t
  pub alloc : (node_at s.words (slot_of t)).kind ≡ Alloc
