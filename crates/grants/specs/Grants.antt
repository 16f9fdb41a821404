-- ALLOCATE on sound tables: search, spare-slot count, cut, slots in creation order, pushes.
-- Assumes nothing.
use Rattle.std.specs.Prelude.{List, Option, Some, None, ℕ, length, get_or, leb}
use Rattle.geometry.specs.Choice.{pick}
use Rattle.geometry.specs.Rectangles.{no_rect}
use Rattle.cuts.specs.Cuts.{at_corner, cut_of}
use Rattle.geometry.specs.Sides.{setup_of}
use Rattle.geometry.specs.declared.Bucket.{Bucket}
use Rattle.cuts.specs.declared.Cut.{Cut}
use Rattle.geometry.specs.declared.Extent.{Extent}
use Rattle.geometry.specs.declared.Rectangle.{Rectangle}
use Rattle.geometry.specs.declared.Setup.{Setup}
use Rattle.table.specs.Table.{node_at}
use Rattle.tickets.specs.Tickets.{ticket_of}
use Rattle.tickets.specs.declared.AllocId.{AllocId}
use Rattle.slots.specs.declared.AllocIndex.{AllocIndex}
use Rattle.buckets.specs.FreeLists.{Lists, removed_from}
use Rattle.entries.specs.Entries.{entered}
use Rattle.search.specs.Search.{find_suitable}
use Rattle.choices.specs.declared.Chosen.{Chosen}
use Rattle.steps.specs.Spares.{spare_slots}
use Rattle.steps.specs.State.{State, state, lists_of}
use Rattle.steps.specs.declared.Head.{Head}
use Rattle.grants.specs.Shapes.{shape_of, slots_needed}
use Rattle.grants.specs.Carves.{news_of, carved}
use Rattle.grants.specs.declared.CutSlots.{CutSlots}
use Rattle.grants.specs.declared.Shape.{Shape}
use Rattle.grants.specs.declared.Shape.TheVariants.{Exact, Along, AlongLeft, Across, AcrossLeft}

-- What allocate leaves: its answer, the ticket and the rectangle, and every table, whole.
pub record Grant : Type 0 where
  pub answer : ℕ
  pub ticket : AllocId
  pub rect : Rectangle
  pub after : State

abbrev pub grant : ℕ → AllocId → Rectangle → State → Grant
grant n t r s = record { answer = n; ticket = t; rect = r; after = s }

-- A refusal gives zero ticket and rectangle.
abbrev pub no_ticket : AllocId
no_ticket = record { 0 = 0 }

abbrev pub refused : ℕ → State → Grant
refused n s = grant n no_ticket no_rect s

-- A head, a slot table and generations, with the lists given.
abbrev pub with_lists : Head → List ℕ → List ℕ → Lists → State
with_lists h w g l =
    state
    (record {
      sheet = h.sheet;
      options = h.options;
      root = h.root;
      spare = h.spare;
      count = h.count;
      lengths = record { small = l.small.len; medium = l.medium.len; large = l.large.len };
    })
    w g l.small.table l.medium.table l.large.table

-- Push split, then leftover: the pieces that the shape has.
unfoldable pub pieces_entered : Shape → List ℕ → Setup → CutSlots → Cut → Lists → Lists
pieces_entered Exact w s n c l = l
pieces_entered Along w s n c l = entered w s n.split c.split l
pieces_entered AlongLeft w s n c l = entered w s n.left c.leftover (entered w s n.split c.split l)
pieces_entered Across w s n c l = entered w s n.split c.split l
pieces_entered AcrossLeft w s n c l = entered w s n.left c.leftover (entered w s n.split c.split l)

-- Slot i, whose entry is at place k of a bucket's list, is cut for a request at q.
unfoldable pub taken : Shape → State → Setup → Lists → AllocIndex → Bucket → ℕ → Rectangle → Cut → Grant
taken shape s setup l i b k q c =
    let n = news_of shape s.words s.generations s.head i in
    let w = carved shape s.words i n.slots q c in
    grant 0 (ticket_of n.slots.alloc (get_or n.generations n.slots.alloc.0 0)) q
    (with_lists n.head w n.generations (pieces_entered shape w setup n.slots c (removed_from b k l)))

-- 7: fewer spare slots than the call needs, decided before the first slot is written. The lists stay as the search left them.
unfoldable pub cut_for : State → Setup → Lists → Extent → AllocIndex → Bucket → ℕ → Grant
cut_for s setup l e i b k =
    let m = node_at s.words i in
    let c = cut_of m.rect e.width e.height m.orientation in
    let shape = shape_of c m.orientation in
    pick (leb (slots_needed shape) (spare_slots s.words (length s.generations) s.head.count))
    (taken shape s setup l i b k (at_corner m.rect e.width e.height) c)
    (refused 7 (with_lists s.head s.words s.generations l))

-- 6: no Free rectangle suits. The lists stay as the search left them.
unfoldable pub grant_of : State → Setup → Extent → Lists → Option Chosen → Grant
grant_of s setup e l None = refused 6 (with_lists s.head s.words s.generations l)
grant_of s setup e l (Some c) = cut_for s setup l e c.slot c.bucket c.place

-- Allocate a rounded request.
unfoldable pub granted : State → Extent → Grant
granted s e =
    let setup = setup_of s.head.sheet s.head.options in
    let f = find_suitable s.words setup e (lists_of s) in
    grant_of s setup e f.lists f.chosen
