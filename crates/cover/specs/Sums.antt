-- What Covered.antt adds up: a measure of the rectangles of the Alloc and the Free slots of a state, those below its count.
-- Assumes nothing.
use Rattle.std.specs.Prelude.{Bool, ◌||◌, ℕ, zero, suc, ◌+◌, ◌≤◌, ◌<◌}
use Rattle.geometry.specs.Choice.{pick}
use Rattle.geometry.specs.declared.Rectangle.{Rectangle}
use Rattle.slots.specs.Slots.{same_kind}
use Rattle.slots.specs.declared.NodeKind.{NodeKind}
use Rattle.slots.specs.declared.NodeKind.TheVariants.{Alloc, Free}
use Rattle.steps.specs.State.{State}
use Rattle.sound.specs.View.{Seen, seen}
use Rattle.sound.specs.Rules.{Leaf}

-- The sum of f over the slots below n.
unfoldable pub sum_below : (ℕ → ℕ) → ℕ → ℕ
sum_below f zero = 0
sum_below f (suc k) = f k + sum_below f k

-- An Alloc or Free slot.
abbrev pub is_leaf : NodeKind → Bool
is_leaf k = same_kind k Alloc || same_kind k Free

-- μ of the rectangle of an Alloc or Free slot, and 0 of another slot.
unfoldable pub leaf_measure : (Rectangle → ℕ) → Seen → ℕ
leaf_measure μ m = pick (is_leaf m.kind) (μ m.rect) 0

-- μ of the rectangle of an Alloc slot, and 0 of another slot.
unfoldable pub alloc_measure : (Rectangle → ℕ) → Seen → ℕ
alloc_measure μ m = pick (same_kind m.kind Alloc) (μ m.rect) 0

-- μ of the rectangle of a Free slot, and 0 of another slot.
unfoldable pub free_measure : (Rectangle → ℕ) → Seen → ℕ
free_measure μ m = pick (same_kind m.kind Free) (μ m.rect) 0

-- The sum of f over the slots of a state.
abbrev pub sum_slots : (Seen → ℕ) → State → ℕ
sum_slots f s = sum_below (λ i. f (seen s.words i)) s.head.count

-- Slot i of a state is an Alloc or Free slot.
abbrev pub LeafAt : State → ℕ → Type 0
LeafAt s i = (i < s.head.count) × Leaf (seen s.words i).kind

-- The rectangle that slot i of a state stores.
abbrev pub rect_at : State → ℕ → Rectangle
rect_at s i = (seen s.words i).rect

-- The point x, y lies in a rectangle, its far sides excluded.
abbrev pub InRect : ℕ → ℕ → Rectangle → Type 0
InRect x y r = (r.x0 ≤ x) × (x < r.x1) × (r.y0 ≤ y) × (y < r.y1)
