-- The days of the ledger: tables that are started and calls that follow one another, by the models that the contracts cite.
-- Assumes nothing.
use Rattle.std.specs.Prelude.{List, [], ◌∷◌, ◌++◌, map, ℕ, zero, suc, ◌*◌, pos, replicate, take}
use Rattle.geometry.specs.Choice.{pick}
use Rattle.geometry.specs.declared.AllocatorOptions.{AllocatorOptions}
use Rattle.geometry.specs.declared.Rectangle.{Rectangle}
use Rattle.geometry.specs.declared.Size.{Size}
use Rattle.slots.specs.Slots.{slot, none}
use Rattle.slots.specs.declared.Node.{Node}
use Rattle.table.specs.Table.{node_at}
use Rattle.tickets.specs.declared.AllocId.{AllocId}
use Rattle.steps.specs.State.{State, state}
use Rattle.sound.specs.View.{in_use}
use Rattle.outcomes.specs.Given.{Given}
use Rattle.grants.specs.Grants.{Grant}
use Rattle.starts.specs.Starts.{start_call}
use Rattle.allocate.specs.Allocate.{allocated}
use Rattle.deallocate.specs.Deallocate.{deallocated}
use Rattle.grow.specs.Grow.{grown_to}

-- A size, a ticket, corners (min-max), and options with thresholds 32 and 256.
abbrev pub size : ℕ → ℕ → Size
size w h = record { width = pos w; height = pos h }

abbrev pub ticket : ℕ → AllocId
ticket t = record { 0 = t }

abbrev pub corners : ℕ → ℕ → ℕ → ℕ → Rectangle
corners a b c d = record { x0 = a; y0 = b; x1 = c; y1 = d }

abbrev pub aligned : ℕ → ℕ → AllocatorOptions
aligned a b = record { alignment = size a b; small = pos 32; large = pos 256 }

-- A sheet started on tables of N slots that held zeros.
abbrev zeros : ℕ → Size → AllocatorOptions → State
zeros n z o =
    state (record { sheet = z; options = o; root = slot 0; spare = none; count = 0; lengths = record { small = 0; medium = 0; large = 0 } })
    (replicate (n * 8) 0) (replicate n 0) (replicate n 0) (replicate n 0) (replicate n 0)

abbrev pub begun : ℕ → Size → AllocatorOptions → State
begun n z o = (start_call z o (zeros n z o)).after

-- Alignment 1×1, sheet 1000×1000, eight slots.
abbrev pub morning : State
morning = begun 8 (size 1000 1000) (aligned 1 1)

-- 100×1000, then 900×200, then 300×200, then 1000×1.
abbrev pub first : Grant
first = allocated morning (size 100 1000)

abbrev pub second : Grant
second = allocated first.after (size 900 200)

abbrev pub third : Grant
third = allocated second.after (size 300 200)

abbrev pub fourth : Grant
fourth = allocated third.after (size 1000 1)

-- After the third, free two tickets.
abbrev pub free : Grant → ℕ → ℕ → Given (Unit {0})
free g a b = deallocated (deallocated g.after (ticket a)).after (ticket b)

-- After 4 then 6, 500×200.
abbrev pub fifth : Grant
fifth = allocated (free third 4 6).after (size 500 200)

-- The whole sheet, freed, and taken again.
abbrev pub whole : Grant
whole = allocated morning (size 1000 1000)

abbrev pub whole_again : Grant
whole_again = allocated (deallocated whole.after (ticket 0)).after (size 1000 1000)

-- 100×100, a grow to 3000×3000, then 1000×2900.
abbrev pub larger : Given (Unit {0})
larger = grown_to (allocated morning (size 100 100)).after (size 3000 3000)

abbrev pub on_larger : Grant
on_larger = allocated larger.after (size 1000 2900)

-- Sheet 10×10: 3×6, with N slots.
abbrev pub tight : ℕ → Grant
tight n = allocated (begun n (size 10 10) (aligned 1 1)) (size 3 6)

-- An alignment of width a: a request of the largest width.
abbrev pub widest : ℕ → Grant
widest a = allocated (begun 8 (size 1000 1000) (aligned a 1)) (size 2147483647 1)

-- The entries of the large list,
abbrev pub large_list : State → List ℕ
large_list s = take s.head.lengths.large s.large

-- the slots in use below k, in order,
unfoldable pub in_use_below : State → ℕ → List ℕ
in_use_below s zero = []
in_use_below s (suc k) = in_use_below s k ++ pick (in_use (node_at s.words (slot k)).kind) (k ∷ []) []

-- and what each of the live slots holds.
abbrev pub live_slots : State → List ℕ
live_slots s = in_use_below s s.head.count

abbrev pub contents : State → List Node
contents s = map (λ i. node_at s.words (slot i)) (live_slots s)
