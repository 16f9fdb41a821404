-- What is stored at a slot: one field or the whole node.
-- Assumes nothing.
use Rattle.std.specs.Prelude.{List, ℕ, ◌+◌, ◌*◌, set}
use Rattle.geometry.specs.declared.Rectangle.{Rectangle}
use Rattle.table.specs.Table.{word}
use Rattle.slots.specs.Slots.{code_of, orientation_of}
use Rattle.slots.specs.declared.AllocIndex.{AllocIndex}
use Rattle.slots.specs.declared.NodeKind.{NodeKind}
use Rattle.slots.specs.declared.Node.{Node}

-- The table with another word f of slot i.
unfoldable pub set_word : List ℕ → AllocIndex → ℕ → ℕ → List ℕ
set_word w i f v = set w (i.0 * 8 + f) v

-- A store: of a link, of the kind, of the rectangle, or of all.
pub data Store : Type 0 where
  to_parent toNext toPrev : AllocIndex → Store
  to_kind : NodeKind → Store
  to_rect : Rectangle → Store
  to_node : Node → Store

-- The four words of a rectangle.
unfoldable pub stored_rect : List ℕ → AllocIndex → Rectangle → List ℕ
stored_rect w i r = set_word (set_word (set_word (set_word w i 4 r.x0) i 5 r.y0) i 6 r.x1) i 7 r.y1

-- The table after a store at slot i. A kind is stored beside the orientation that stands there.
unfoldable pub stored : List ℕ → AllocIndex → Store → List ℕ
stored w i (to_parent j) = set_word w i 0 j.0
stored w i (toNext j) = set_word w i 1 j.0
stored w i (toPrev j) = set_word w i 2 j.0
stored w i (to_kind k) = set_word w i 3 (code_of k (orientation_of (word w i 3)))
stored w i (to_rect r) = stored_rect w i r
stored w i (to_node n) =
    stored_rect
    (set_word (set_word (set_word (set_word w i 0 n.parent.0) i 1 n.next.0) i 2 n.prev.0) i 3 (code_of n.kind n.orientation))
    i n.rect

-- The node after a store: that field is the new one, every other as it was.
abbrev pub after : Store → Node → Node
after (to_parent j) n = record { parent = j; next = n.next; prev = n.prev; kind = n.kind; orientation = n.orientation; rect = n.rect }
after (toNext j) n = record { parent = n.parent; next = j; prev = n.prev; kind = n.kind; orientation = n.orientation; rect = n.rect }
after (toPrev j) n = record { parent = n.parent; next = n.next; prev = j; kind = n.kind; orientation = n.orientation; rect = n.rect }
after (to_kind k) n = record { parent = n.parent; next = n.next; prev = n.prev; kind = k; orientation = n.orientation; rect = n.rect }
after (to_rect r) n = record { parent = n.parent; next = n.next; prev = n.prev; kind = n.kind; orientation = n.orientation; rect = r }
after (to_node m) n = m
