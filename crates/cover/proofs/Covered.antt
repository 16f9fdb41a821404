-- THE COVER: the rectangles of the Alloc and the Free slots of sound tables cover the sheet exactly once.
-- Assumes nothing but that the tables are sound.
use Rattle.std.specs.Prelude.{◌≡◌, refl, ℕ, ◌+◌, ◌*◌, ◌-◌, ◌≤◌, ◌<◌}
use Rattle.std.proofs.Math.Path.{sym}
use Rattle.std.proofs.Common.{◌∙◌, arith}
use Rattle.std.proofs.Math.Numerals.{unary_clauses}
use Rattle.std.proofs.Math.Decide.{ℕ_discrete}
use Rattle.geometry.specs.Sides.{natural}
use Rattle.geometry.specs.Measures.{covers, area_of, Adds}
use Rattle.geometry.proofs.MeasureLaws.{covers_adds, area_adds, covers_one}
use Rattle.geometry.specs.declared.Rectangle.{Rectangle}
use Rattle.steps.specs.State.{State}
use Rattle.sound.specs.View.{none, Seen, seen}
use Rattle.sound.specs.Rules.{NotEmpty}
use Rattle.sound.specs.Sound.{Sound, sheet_of}
use Rattle.forest.specs.Forest.{Forest, slots, Represents, rep_distinct}
use Rattle.forest.specs.Bridge.{forest}
use Rattle.forest.specs.Back.{in_live}
use Rattle.forest.specs.Place.{PlaceF, table_place}
use Rattle.forest.specs.Fill.{place_measured, leaf_not_empty}
use Rattle.cover.specs.Sums.{alloc_measure, free_measure, leaf_measure, sum_slots, LeafAt, rect_at, InRect}
use Rattle.cover.proofs.SumLaws.{sum_both, sum_some, one_part, two_parts, sum_list}
use Rattle.cover.proofs.Leaves.{leaf_either, leaf_in_use, leaf_live, leaf_adds, adds_leaf, slots_total, covers_most, covers_in}

module _ {s : State} (sound : Sound s) where
  -- The slots, their count, the sheet and the root, as the rules have them.
  abbrev get : ℕ → Seen
  get = seen s.words

  abbrev n : ℕ
  n = s.head.count

  abbrev sheet : Rectangle
  sheet = sheet_of s.head.sheet

  abbrev root : ℕ
  root = s.head.root.0

  -- The forest of the tables, and its place: the sheet.
  grown : (F : Forest) × Represents get n root F × PlaceF get F sheet
  grown =
      let w = forest get n root sound.rule3 in (
        w.0,
        w.1,
        table_place get n sound.rule3.near.one_child none none (get root).orientation w.0 w.1.along root w.1.from_root sheet sound.rule5,
      )

  -- MEASURED. A measure that adds up where a rectangle is cut in two is, of the sheet, the sum over the Alloc and Free slots.
  pub measured : (μ : Rectangle → ℕ) → Adds μ → sum_slots (leaf_measure μ) s ≡ μ (sheet_of s.head.sheet)
  measured μ adds =
      let w = grown in
      let F = w.0 in
      let R = w.1.along in
      let o = (get root).orientation in
      sum_list (slots F) (λ i. leaf_measure μ (get i)) n (rep_distinct get n none none o F R 0 refl)
      (λ a m. (in_live get n none none o F R a m).0)
      (λ i l out. leaf_in_use μ (get i) (λ u. out (w.1.all i (l, u))))
      ∙ (slots_total get n μ none none o F R ∙ place_measured get n μ adds none none o F R sheet w.2)

  -- COVERED ONCE. The Alloc and Free rectangles that hold a point are as many as the sheet's own: 1 on it, 0 off it.
  pub sheet_covered_once : (x y : ℕ) → sum_slots (leaf_measure (covers x y)) s ≡ covers x y (sheet_of s.head.sheet)
  sheet_covered_once x y = measured (covers x y) (covers_adds x y)

  -- So a point of the sheet lies in exactly one.
  pub point_covered_once : (x y : ℕ) → x < natural s.head.sheet.width → y < natural s.head.sheet.height
      → sum_slots (leaf_measure (covers x y)) s ≡ 1
  point_covered_once x y h k = sheet_covered_once x y ∙ (covers_one x y sheet).1 (omega arith, h, omega arith, k)

  -- AREA. The areas of the Alloc slots and those of the Free slots make up the sheet's.
  pub sheet_area : sum_slots (alloc_measure area_of) s + sum_slots (free_measure area_of) s
      ≡ natural s.head.sheet.width * natural s.head.sheet.height
  unfolding area_of
  sheet_area =
      sym (sum_both (λ i. leaf_measure area_of (get i)) (λ i. alloc_measure area_of (get i)) (λ i. free_measure area_of (get i)) n
      (λ i. leaf_either area_of (get i)))
      ∙ (measured area_of area_adds ∙ simp unary_clauses)

  -- A slot whose rectangle holds the point adds 1 to the sum.
  held : (x y i : ℕ) → LeafAt s i → InRect x y (rect_at s i) → leaf_measure (covers x y) (get i) ≡ 1
  held x y i l h = leaf_adds (covers x y) (get i) l.1 ∙ (covers_one x y (rect_at s i)).1 h

  -- APART. The rectangles of two different Alloc or Free slots share no point.
  pub leaves_apart : (i j : ℕ) → LeafAt s i → LeafAt s j → (i ≡ j → ⊥)
      → (x y : ℕ) → InRect x y (rect_at s i) → InRect x y (rect_at s j) → ⊥
  leaves_apart i j li lj ne x y hi hj =
      omega (
        arith,
        two_parts (λ k. leaf_measure (covers x y) (get k)) n i j li.0 lj.0 ne,
        held x y i li hi,
        held x y j lj hj,
        sheet_covered_once x y,
        covers_most x y sheet,
      )

  -- ON THE SHEET. The rectangle of an Alloc or Free slot is not empty and lies on the sheet.
  pub ticket_on_sheet : (i : ℕ) → LeafAt s i
      → NotEmpty (rect_at s i) × ((rect_at s i).x1 ≤ natural s.head.sheet.width) × ((rect_at s i).y1 ≤ natural s.head.sheet.height)
  ticket_on_sheet i l =
      let w = grown in
      let ne = leaf_not_empty get n none none (get root).orientation w.0 w.1.along sheet w.2 i (w.1.all i (l.0, leaf_live l.1)) l.1 in
      let x = (rect_at s i).x1 - 1 in
      let y = (rect_at s i).y1 - 1 in
      let one = held x y i l (omega arith, omega arith, omega arith, omega arith) in
      let on = covers_in x y sheet (omega (arith, one_part (λ k. leaf_measure (covers x y) (get k)) n i l.0, sheet_covered_once x y)) in
      (ne, omega arith, omega arith)
