-- Allocate in the slot table: the new slots in creation order, and what is written at them, at the chosen slot and at its next.
-- Assumes nothing.
use Rattle.std.specs.Prelude.{List, ℕ}
use Rattle.geometry.specs.Choice.{pick}
use Rattle.geometry.specs.Rectangles.{flip, no_rect}
use Rattle.cuts.specs.declared.Cut.{Cut}
use Rattle.geometry.specs.declared.Orientation.{Orientation}
use Rattle.geometry.specs.declared.Rectangle.{Rectangle}
use Rattle.slots.specs.Slots.{none, is_none}
use Rattle.table.specs.Table.{node_at}
use Rattle.stores.specs.Stores.{stored, toNext, toPrev, to_kind, to_rect, to_node}
use Rattle.slots.specs.declared.AllocIndex.{AllocIndex}
use Rattle.slots.specs.declared.Node.{Node}
use Rattle.slots.specs.declared.NodeKind.{NodeKind}
use Rattle.slots.specs.declared.NodeKind.TheVariants.{Container, Alloc, Free}
use Rattle.steps.specs.Spares.{new_node}
use Rattle.steps.specs.declared.Head.{Head}
use Rattle.grants.specs.declared.CutSlots.{CutSlots}
use Rattle.grants.specs.declared.Shape.{Shape}
use Rattle.grants.specs.declared.Shape.TheVariants.{Exact, Along, AlongLeft, Across, AcrossLeft}

-- The slots of a cut: split, inner Container, Alloc and leftover, none where there is none.
abbrev pub cut_slots : AllocIndex → AllocIndex → AllocIndex → AllocIndex → CutSlots
cut_slots s c a l = record { split = s; inner = c; alloc = a; left = l }

-- The slots of a cut, and what taking them changed.
pub record News : Type 0 where
  pub slots : CutSlots
  pub head : Head
  pub generations : List ℕ

abbrev pub news : CutSlots → Head → List ℕ → News
news s h g = record { slots = s; head = h; generations = g }

-- New slots in creation order: split, then the inner Container, then Alloc, then leftover. Without a new Alloc slot it is the chosen one.
unfoldable pub news_of : Shape → List ℕ → List ℕ → Head → AllocIndex → News
news_of Exact w g h i = news (cut_slots none none i none) h g
news_of Along w g h i =
    let s = new_node w g h in
    news (cut_slots s.taken none i none) s.head s.generations
news_of AlongLeft w g h i =
    let s = new_node w g h in
    let a = new_node w s.generations s.head in
    let l = new_node w a.generations a.head in
    news (cut_slots s.taken none a.taken l.taken) l.head l.generations
news_of Across w g h i =
    let s = new_node w g h in
    let a = new_node w s.generations s.head in
    news (cut_slots s.taken none a.taken none) a.head a.generations
news_of AcrossLeft w g h i =
    let s = new_node w g h in
    let c = new_node w s.generations s.head in
    let a = new_node w c.generations c.head in
    let l = new_node w a.generations a.head in
    news (cut_slots s.taken c.taken a.taken l.taken) l.head l.generations

-- The chosen slot turns Alloc, with the request's rectangle.
unfoldable pub turned : List ℕ → AllocIndex → Rectangle → List ℕ
turned w i q = stored (stored w i (to_kind Alloc)) i (to_rect q)

-- A link to j, unless it is none, is answered by j's prev.
unfoldable pub answered_by : List ℕ → AllocIndex → AllocIndex → List ℕ
answered_by w j s = pick (is_none j) w (stored w j (toPrev s))

-- Split becomes the chosen slot's next sibling.
abbrev pub split_node : Node → AllocIndex → Rectangle → Node
split_node m i t = record { parent = m.parent; next = m.next; prev = i; kind = Free; orientation = m.orientation; rect = t }

unfoldable pub beside : List ℕ → AllocIndex → AllocIndex → Rectangle → List ℕ
beside w i s t = answered_by (stored (stored w s (to_node (split_node (node_at w i) i t))) i (toNext s)) (node_at w i).next s

-- Two new slots under p, a and then b, which is Free.
abbrev pub first_node : AllocIndex → AllocIndex → NodeKind → Orientation → Rectangle → Node
first_node p b k o r = record { parent = p; next = b; prev = none; kind = k; orientation = o; rect = r }

abbrev pub last_node : AllocIndex → AllocIndex → Orientation → Rectangle → Node
last_node p a o r = record { parent = p; next = none; prev = a; kind = Free; orientation = o; rect = r }

unfoldable pub pair_under : List ℕ → AllocIndex → Orientation → AllocIndex → NodeKind → Rectangle → AllocIndex → Rectangle → List ℕ
pair_under w p o a k r b t = stored (stored w a (to_node (first_node p b k o r))) b (to_node (last_node p a o t))

-- The slot table after the cut of slot i for a request at q. Exact: it turns Alloc.
-- Along: split becomes its next sibling; with a leftover, the chosen slot turns Container over Alloc, leftover; without, it turns Alloc.
-- Across: the chosen slot turns Container; with a leftover, over an inner Container with zero rectangle and split, the inner one
-- over Alloc, leftover; without, over Alloc and split.
unfoldable pub carved : Shape → List ℕ → AllocIndex → CutSlots → Rectangle → Cut → List ℕ
carved Exact w i n q c = turned w i q
carved Along w i n q c = turned (beside w i n.split c.split) i q
carved AlongLeft w i n q c =
    pair_under (stored (beside w i n.split c.split) i (to_kind Container)) i (flip (node_at w i).orientation) n.alloc Alloc q n.left c.leftover
carved Across w i n q c =
    pair_under (stored w i (to_kind Container)) i (flip (node_at w i).orientation) n.alloc Alloc q n.split c.split
carved AcrossLeft w i n q c =
    pair_under
    (pair_under (stored w i (to_kind Container)) i (flip (node_at w i).orientation) n.inner Container no_rect n.split c.split)
    n.inner (node_at w i).orientation n.alloc Alloc q n.left c.leftover
