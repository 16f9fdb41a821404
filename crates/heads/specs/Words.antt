-- THE HEAD AS WORDS, and what a call hands over as words: how the library's calls reach C.
-- Assumes nothing.
use Rattle.std.specs.Prelude.{List, ℕ, ◌+◌, ◌<◌, ◌^◌, ℤ, get_or}
use Rattle.std.specs.Int.{w32}
use Rattle.std.proofs.Common.{to_z}
use Rattle.geometry.specs.declared.AllocatorOptions.{AllocatorOptions}
use Rattle.geometry.specs.declared.Rectangle.{Rectangle}
use Rattle.geometry.specs.declared.Size.{Size}
use Rattle.slots.specs.Slots.{slot}
use Rattle.tickets.specs.declared.AllocId.{AllocId}
use Rattle.buckets.specs.declared.Lengths.{Lengths}
use Rattle.steps.specs.declared.Head.{Head}

-- A size and options by their numbers.
abbrev pub size_of : ℤ → ℤ → Size
size_of w h = record { width = w; height = h }

abbrev pub options_of : ℤ → ℤ → ℤ → ℤ → AllocatorOptions
options_of w h a b = record { alignment = size_of w h; small = a; large = b }

-- A signed number is its 32 bits: a word below 2 ^ 31 is that number, and one from there on that number less 2 ^ 32.
unfoldable pub signed_of : ℕ → ℤ
signed_of w = to_z w32 w

-- A width and a height, as they arrive, from word k on.
abbrev pub size_at : ℕ → List ℕ → Size
size_at k l = size_of (signed_of (get_or l k 0)) (signed_of (get_or l (k + 1) 0))

-- The head in twelve words: sheet, alignment, small and large threshold, root, spare_chain head, slot count, and the lengths of the lists.
abbrev pub options_at : List ℕ → AllocatorOptions
options_at l = options_of (signed_of (get_or l 2 0)) (signed_of (get_or l 3 0)) (signed_of (get_or l 4 0)) (signed_of (get_or l 5 0))

abbrev pub lengths_at : List ℕ → Lengths
lengths_at l = record { small = get_or l 9 0; medium = get_or l 10 0; large = get_or l 11 0 }

unfoldable pub head_at : List ℕ → Head
head_at l =
    record { sheet = size_at 0 l; options = options_at l; root = slot (get_or l 6 0); spare = slot (get_or l 7 0); count = get_or l 8 0; lengths = lengths_at l }

-- A head with the spare_chain head, the slot count and the list lengths of another.
abbrev pub with_changes : Head → Head → Head
with_changes h k = record { sheet = h.sheet; options = h.options; root = h.root; spare = k.spare; count = k.count; lengths = k.lengths }

-- The ticket of a number; a ticket in the first word, and a rectangle from word k on.
abbrev pub ticket_of : ℕ → AllocId
ticket_of n = record { 0 = n }

unfoldable pub ticket_at : List ℕ → AllocId
ticket_at l = ticket_of (get_or l 0 0)

unfoldable pub rect_at : ℕ → List ℕ → Rectangle
rect_at k l = record { x0 = get_or l k 0; y0 = get_or l (k + 1) 0; x1 = get_or l (k + 2) 0; y1 = get_or l (k + 3) 0 }

-- Every list length fits a word. It does in a head that was read from words, and on sound tables.
pub record ShortLists (h : Head) : Type 0 where
  pub small : h.lengths.small < 2 ^ 32
  pub medium : h.lengths.medium < 2 ^ 32
  pub large : h.lengths.large < 2 ^ 32
