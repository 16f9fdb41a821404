-- AN ENTRY OF A LISTING, as words.
-- Assumes nothing.
use Rattle.std.specs.Prelude.{List, [], ◌∷◌, ℕ, get_or}
use Rattle.geometry.specs.Choice.{pick}
use Rattle.geometry.specs.declared.Rectangle.{Rectangle}
use Rattle.slots.specs.Slots.{slot, same_kind}
use Rattle.table.specs.Table.{node_at}
use Rattle.tickets.specs.Tickets.{ticket_of}
use Rattle.tickets.specs.declared.AllocId.{AllocId}
use Rattle.slots.specs.declared.NodeKind.{NodeKind}
use Rattle.slots.specs.declared.NodeKind.TheVariants.{Alloc}

-- LISTINGS. The four corners of a rectangle, as words.
abbrev pub corners : Rectangle → List ℕ
corners r = r.x0 ∷ r.y0 ∷ r.x1 ∷ r.y1 ∷ []

-- An entry of the Alloc listing is the ticket and the corners; one of the Free listing the corners.
abbrev pub entry_of : NodeKind → AllocId → Rectangle → List ℕ
entry_of kind t r = pick (same_kind kind Alloc) (t.0 ∷ corners r) (corners r)

-- The entry of slot i, if it is of the kind.
unfoldable pub entry_at : List ℕ → List ℕ → NodeKind → ℕ → List ℕ
entry_at w g kind i = pick (same_kind (node_at w (slot i)).kind kind) (entry_of kind (ticket_of (slot i) (get_or g i 0)) (node_at w (slot i)).rect) []
