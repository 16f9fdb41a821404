-- One slot for each point of the sheet: by what covers it once, and by rectangles that are apart.
-- Assumes nothing.
use Rattle.std.specs.Prelude.{◌≡◌, ℕ, ◌-◌, ◌<◌}
use Rattle.std.proofs.Common.{arith}
use Rattle.std.proofs.Math.Decide.{ℕ_discrete}
use Rattle.geometry.specs.Sides.{natural}
use Rattle.geometry.specs.Measures.{covers}
use Rattle.steps.specs.State.{State}
use Rattle.sound.specs.View.{Seen, seen}
use Rattle.sound.specs.Sound.{Sound}
use Rattle.cover.specs.Sums.{leaf_measure, LeafAt, rect_at, InRect}
use Rattle.cover.proofs.SumLaws.{sum_some}
use Rattle.cover.proofs.Leaves.{leaf_adds, adds_leaf, covers_in}
use Rattle.cover.proofs.Covered.{point_covered_once, leaves_apart}

module _ {s : State} (sound : Sound s) where
  abbrev get : ℕ → Seen
  get = seen s.words

  abbrev n : ℕ
  n = s.head.count

  -- ONE SLOT. Each point of the sheet lies in the rectangle of an Alloc or Free slot, and of no other one.
  pub point_has_one_slot : (x y : ℕ) → x < natural s.head.sheet.width → y < natural s.head.sheet.height
      → (i : ℕ) × LeafAt s i × InRect x y (rect_at s i) × ((j : ℕ) → LeafAt s j → InRect x y (rect_at s j) → j ≡ i)
  point_has_one_slot x y h k =
      let w = sum_some (λ i. leaf_measure (covers x y) (get i)) n (omega (arith, point_covered_once sound x y h k)) in
      let leaf = adds_leaf (covers x y) (get w.0) w.2 in
      let at = covers_in x y (rect_at s w.0) (omega (arith, leaf_adds (covers x y) (get w.0) leaf)) in
      (w.0, (w.1, leaf), at, λ j l m. same j w.0 l (w.1, leaf) m at (ℕ_discrete j w.0))
    where
      same : (i j : ℕ) → LeafAt s i → LeafAt s j → InRect x y (rect_at s i) → InRect x y (rect_at s j) → Dec (i ≡ j) → i ≡ j
      same i j li lj hi hj (yes e) = e
      same i j li lj hi hj (no e) = absurd (leaves_apart sound i j li lj e x y hi hj)
