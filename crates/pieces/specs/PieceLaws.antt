-- The pieces of each shape, and that the leftover can be entered after the split.
-- Assumes nothing.
use Rattle.std.specs.Prelude.{◌≡◌, refl, true, List, ℕ, ◌≤◌}
use Rattle.cuts.specs.declared.Cut.{Cut}
use Rattle.geometry.specs.declared.Setup.{Setup}
use Rattle.slots.specs.declared.AllocIndex.{AllocIndex}
use Rattle.buckets.specs.FreeLists.{Lists}
use Rattle.entries.specs.Entries.{entered, Enterable}
use Rattle.entries.specs.EntryLaws.{ready_enterable, ready_entered}
use Rattle.grants.specs.Grants.{pieces_entered}
use Rattle.grants.specs.declared.CutSlots.{CutSlots}
use Rattle.grants.specs.declared.Shape.{Shape}
use Rattle.grants.specs.declared.Shape.TheVariants.{Exact, Along, AlongLeft, Across, AcrossLeft}
use Rattle.pieces.specs.Pieces.{has_split, has_left, pieces_of, PiecesReady}

-- The pieces that the shape has.
pub pieces_entered_lem : (shape : Shape) (w : List ℕ) (s : Setup) (n : CutSlots) (c : Cut) (l : Lists)
    → pieces_of shape w s n.split n.left c l ≡ pieces_entered shape w s n c l
unfolding pieces_of pieces_entered
pieces_entered_lem Exact w s n c l = refl
pieces_entered_lem Along w s n c l = refl
pieces_entered_lem AlongLeft w s n c l = refl
pieces_entered_lem Across w s n c l = refl
pieces_entered_lem AcrossLeft w s n c l = refl

-- Leftover can be entered after split was.
pub left_enterable : {shape : Shape} {w : List ℕ} {l : Lists} {a b : AllocIndex} {c : Cut} (s : Setup) (m : Lists) → PiecesReady shape w l a b c
    → has_split shape ≡ true → has_left shape ≡ true → m ≡ entered w s a c.split l
    → Enterable w b.0 m × (c.leftover.x0 ≤ c.leftover.x1) × (c.leftover.y0 ≤ c.leftover.y1)
left_enterable {shape} {w} {l} {a} {b} {c} s m p es el e =
    let y = p.left el in
    (ready_enterable w b.0 m (ready_entered w s a c.split l m e (p.split es).0 p.lists) y.0, y.1.0, y.1.1)
