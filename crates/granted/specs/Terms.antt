-- The words in which the promises of allocate are said.
-- Assumes nothing.
use Rattle.std.specs.Prelude.{ℕ, ◌≤◌, ◌<◌, ◌≡◌, ◌⊎◌, length, get_or}
use Rattle.geometry.specs.Rectangles.{no_rect, width_of, height_of}
use Rattle.cuts.specs.Cuts.{cut_of}
use Rattle.cuts.specs.PieceLaws.{Inside}
use Rattle.geometry.specs.declared.Bucket.{Bucket}
use Rattle.cuts.specs.declared.Cut.{Cut}
use Rattle.geometry.specs.declared.Extent.{Extent}
use Rattle.table.specs.Table.{node_at}
use Rattle.tickets.specs.Tickets.{slot_of, generation_of}
use Rattle.tickets.specs.declared.AllocId.{AllocId}
use Rattle.slots.specs.declared.AllocIndex.{AllocIndex}
use Rattle.slots.specs.declared.NodeKind.TheVariants.{Alloc}
use Rattle.buckets.specs.FreeLists.{list_of}
use Rattle.buckets.specs.declared.Lengths.{Lengths}
use Rattle.choices.specs.Choices.{chosen_at}
use Rattle.search.specs.Search.{find_suitable}
use Rattle.fits.specs.Suits.{Suits}
use Rattle.fits.specs.Thinned.{Thinned}
use Rattle.steps.specs.Spares.{spare_slots}
use Rattle.steps.specs.State.{State, lists_of}
use Rattle.steps.specs.declared.Head.{Head}
use Rattle.sound.specs.View.{seen, Live}
use Rattle.sound.specs.LiveTickets.{LiveTicket}
use Rattle.cover.specs.Sums.{rect_at, InRect}
use Rattle.grants.specs.Grants.{Grant, no_ticket}
use Rattle.grants.specs.Shapes.{shape_of, slots_needed}
use Rattle.grants.specs.declared.Shape.{Shape}
use Rattle.granted.specs.SoundFacts.{setup_at}

-- Slot x is Free, and its rectangle is as wide and as tall as the request.
abbrev pub Roomy : State → Extent → ℕ → Type 0
Roomy s e x = (x < s.head.count) × Suits s.words e.width e.height x

-- The search chooses slot i, whose entry stands at place k of a bucket's list.
abbrev pub ChoosesAt : State → Extent → AllocIndex → Bucket → ℕ → Type 0
ChoosesAt s e i b k = (find_suitable s.words (setup_at s) e (lists_of s)).chosen ≡ chosen_at i b k

abbrev pub Chooses : State → Extent → AllocIndex → Type 0
Chooses s e i = (b : Bucket) × (k : ℕ) × ChoosesAt s e i b k

-- The cut of slot i for the request, its shape, and the slots that it needs; and the spare slots.
abbrev pub cut_at : State → Extent → AllocIndex → Cut
cut_at s e i = cut_of (node_at s.words i).rect e.width e.height (node_at s.words i).orientation

abbrev pub shape_at : State → Extent → AllocIndex → Shape
shape_at s e i = shape_of (cut_at s e i) (node_at s.words i).orientation

abbrev pub needed_at : State → Extent → AllocIndex → ℕ
needed_at s e i = slots_needed (shape_at s e i)

abbrev pub spare_at : State → ℕ
spare_at s = spare_slots s.words (length s.generations) s.head.count

-- Fewer slots are spare than the cut of slot i needs, or enough.
abbrev pub TooFew : State → Extent → AllocIndex → Type 0
TooFew s e i = spare_at s < needed_at s e i

abbrev pub Enough : State → Extent → AllocIndex → Type 0
Enough s e i = needed_at s e i ≤ spare_at s

-- The head with other list lengths.
abbrev pub with_lengths : Head → Lengths → Head
with_lengths h n = record { sheet = h.sheet; options = h.options; root = h.root; spare = h.spare; count = h.count; lengths = n }

-- A refusal: zero ticket and rectangle; the slots, the generations and the head, but for the list lengths, are as they were. The lists
-- are as the search left them: only entries of slots that aren't Free are taken out, and the chosen slot's entry is still in.
pub record Refuses (s : State) (e : Extent) (g : Grant) : Type 0 where
  pub ticket : g.ticket ≡ no_ticket
  pub rect : g.rect ≡ no_rect
  pub head : g.after.head ≡ with_lengths s.head g.after.head.lengths
  pub words : g.after.words ≡ s.words
  pub generations : g.after.generations ≡ s.generations
  pub searched : lists_of g.after ≡ (find_suitable s.words (setup_at s) e (lists_of s)).lists
  pub thinned : (b : Bucket) → Thinned s.words (list_of b (lists_of s)) (list_of b (lists_of g.after))
  pub still : (i : AllocIndex) (b : Bucket) (k : ℕ) → ChoosesAt s e i b k
      → (k < (list_of b (lists_of g.after)).len) × (get_or (list_of b (lists_of g.after)).table k 0 ≡ i.0)

-- A ticket is given out.
pub record GivesOut (s : State) (e : Extent) (g : Grant) : Type 0 where
  -- It is live now and was not before, and its rectangle is the one returned, of the request's size.
  pub live : LiveTicket g.after g.ticket
  pub new : LiveTicket s g.ticket → ⊥
  pub own : rect_at g.after (slot_of g.ticket).0 ≡ g.rect
  pub wide : width_of g.rect ≡ e.width
  pub tall : height_of g.rect ≡ e.height
  -- It lies inside the rectangle of a slot that was Free, and has no point in common with that of an Alloc slot.
  pub inside : (x : ℕ) × Roomy s e x × Inside g.rect (rect_at s x)
  pub apart : (j : ℕ) → j < s.head.count → (seen s.words j).kind ≡ Alloc → (x y : ℕ) → InRect x y (rect_at s j) → InRect x y g.rect → ⊥
  -- Every other live ticket stays live with its rectangle, and no other becomes live.
  pub others : (t : AllocId) → LiveTicket s t → LiveTicket g.after t × (rect_at g.after (slot_of t).0 ≡ rect_at s (slot_of t).0)
  pub only : (t : AllocId) → LiveTicket g.after t → (t ≡ g.ticket) ⊎ LiveTicket s t
  -- No live slot's generation changes, and the head keeps sheet, options and root.
  pub generations : (j : ℕ) → Live (seen s.words) s.head.count j → get_or g.after.generations j 0 ≡ get_or s.generations j 0
  pub same : (g.after.head.sheet ≡ s.head.sheet) × (g.after.head.options ≡ s.head.options) × (g.after.head.root ≡ s.head.root)
