-- What the calls read of a table, and that the pieces of a cut are parts of the whole.
-- Assumes nothing.
use Rattle.std.specs.Prelude.{ℕ, ◌+◌, ◌≤◌, ◌<◌, ◌≡◌, refl, true, false}
use Rattle.std.proofs.Common.{sym, ◌∙◌, inr, arith, leb-true, leb-false}
use Rattle.geometry.specs.Rectangles.{flip, empty_rect, width_of, height_of}
use Rattle.cuts.specs.Cuts.{FitsIn, at_corner, split_of, leftover_of}
use Rattle.geometry.specs.Measures.{start, end, along}
use Rattle.cuts.proofs.PieceLaws.{pieces_span, fits_along, along_positive, span_empty}
use Rattle.geometry.specs.TestLaws.{or_false_each}
use Rattle.geometry.specs.declared.Orientation.{Orientation}
use Rattle.geometry.specs.declared.Orientation.TheVariants.{Vertical, Horizontal}
use Rattle.geometry.specs.declared.Rectangle.{Rectangle}
use Rattle.slots.specs.declared.NodeKind.TheVariants.{Free}
use Rattle.sound.specs.View.{Link, none, to, Seen, Live}
use Rattle.sound.specs.Rules.{Leaf, NotEmpty, Adjoin, join, PlaceChain}
use Rattle.sound.specs.Sound.{Linked}
use Rattle.sound.specs.ViewLaws.{to_inj, no_link}
use Rattle.forest.specs.Forest.{Forest, empty, slot, head, Rep, Represents}
use Rattle.forest.specs.Bridge.{forest}
use Rattle.forest.specs.Place.{PlaceF}
use Rattle.forest.specs.Fill.{place_not_empty}
use Rattle.changes.specs.Gaps.{rep_fill}
use Rattle.changes.specs.Joins.{Parts}
use Rattle.changes.specs.Frame.{placed_chain}
use Rattle.changes.specs.Swaps.{at_slot}
use Rattle.changes.specs.Stands.{leaf_was, leaf_bare, leaf_some, leaves_adjoin}

-- THE CUT. Request and leftover make up one part, the split the other, whichever way the cut goes.
pub cut_parts : (o : Orientation) (r : Rectangle) (w h : ℕ) → Parts o r (join (at_corner r w h) (leftover_of o r w h)) (split_of o r w h)
cut_parts Vertical r w h = record { adjoin = (refl, refl, refl); joined = refl }
cut_parts Horizontal r w h = record { adjoin = (refl, refl, refl); joined = refl }

-- Request and leftover adjoin the other way.
pub cut_adjoins : (o : Orientation) (r : Rectangle) (w h : ℕ) → Adjoin (flip o) (at_corner r w h) (leftover_of o r w h)
cut_adjoins Vertical r w h = (refl, refl, refl)
cut_adjoins Horizontal r w h = (refl, refl, refl)

-- Where the request reaches all across, it is the first part alone.
pub cut_whole : (o : Orientation) (r : Rectangle) (w h : ℕ) → start (flip o) r + along (flip o) w h ≡ end (flip o) r → Parts o r (at_corner r w h) (split_of o r w h)
cut_whole Vertical r w h e = record { adjoin = (refl, refl, e); joined = refl }
cut_whole Horizontal r w h e = record { adjoin = (refl, refl, e); joined = refl }

-- It does where the leftover is empty.
pub no_leftover : (o : Orientation) {r : Rectangle} {w h : ℕ} → FitsIn r w h → 0 < w → 0 < h → empty_rect (leftover_of o r w h) ≡ true
    → start (flip o) r + along (flip o) w h ≡ end (flip o) r
no_leftover o {r} {w} {h} f p q e =
    let l : start o r < start o r + along o w h = omega (arith, along_positive o p q) in
    let k : end (flip o) r ≤ start (flip o) r + along (flip o) w h =
    leb-true (end (flip o) r) (start (flip o) r + along (flip o) w h) (sym (span_empty o (start (flip o) r + along (flip o) w h) (end (flip o) r) l) ∙ rw (pieces_span o r w h).beside at e) in
    omega (arith, fits_along (flip o) f)

-- A rectangle that does not test as empty is not.
pub not_empty : (r : Rectangle) → empty_rect r ≡ false → NotEmpty r
unfolding empty_rect
not_empty r e = let k = or_false_each _ _ e in (leb-false _ _ k.0, leb-false _ _ k.1)

-- THE TABLE
module _ (get : ℕ → Seen) (n root : ℕ) (L : Linked get n root) (all : Rectangle) (P : PlaceChain get n root all) where
  -- No Alloc or Free slot is empty.
  pub leaf_filled : (i : ℕ) → Live get n i → Leaf (get i).kind → NotEmpty (get i).rect
  leaf_filled i lv l =
      let a = at_slot get n root i L all P lv in
      leaf_some (get i).kind (get i).rect a.placed.0 (PlaceF get a.below) l a.placed.1

  -- An Alloc or Free slot adjoins such a slot that follows it.
  pub next_adjoins : (i j : ℕ) → Live get n i → Leaf (get i).kind → (get i).next ≡ to j → Leaf (get j).kind
      → Adjoin (get i).orientation (get i).rect (get j).rect
  next_adjoins i j lv l e m =
      let a = at_slot get n root i L all P lv in
      go a.below a.after _ _ _ (rep_fill get n a.gap (slot i a.below a.after) none none (get root).orientation a.whole.along) a.place a.placed
    where
      go : (C S : Forest) (p v : Link) (o : Orientation) → Rep get n p v o (slot i C S) → (w : Rectangle) → PlaceF get (slot i C S) w
          → Adjoin (get i).orientation (get i).rect (get j).rect
      go (slot c B U) S p v o r w h = absurd (leaf_bare (get i).kind (slot c B U) l r.0.shape)
      go empty empty p v o r w h = absurd (no_link (sym r.0.next ∙ e))
      go empty (slot x (slot c B U) S) p v o r w h =
          absurd (leaf_bare (get x).kind (slot c B U) (rw (to_inj (sym e ∙ r.0.next)) at m) r.2.0.shape)
      go empty (slot x empty S) p v o r w h =
          let q : j ≡ x = to_inj (sym e ∙ r.0.next) in
          rw q (leaves_adjoin get i x S w l (rw q at m) (r.2.0.orientation ∙ sym r.0.orientation) h)

  -- A Free root of the size of the whole is alone.
  pub lone_root : (get root).kind ≡ Free → width_of (get root).rect ≡ width_of all → height_of (get root).rect ≡ height_of all → (get root).next ≡ none
  lone_root free x y =
      let F = forest get n root L in go F.0 F.1 (placed_chain get n root F.0 F.1 all P)
    where
      longer : (o : Orientation) (q s : Rectangle) → NotEmpty q → NotEmpty s → Adjoin o q s → width_of q ≡ width_of (join q s) → height_of q ≡ height_of (join q s) → ⊥
      longer Vertical q s a b h u v = omega arith
      longer Horizontal q s a b h u v = omega arith

      at : (C S : Forest) → (get root).next ≡ head S → PlaceF get (slot root C S) all → (get root).next ≡ none
      at C empty e h = e
      at C (slot j B U) e h =
          let q = leaf_was get root C (get root).kind refl (inr free) h.0 h.1 in
          let s = h.2 in
          let a : Adjoin (get root).orientation (get root).rect s.0 = rw q at s.2 in
          let w : all ≡ join (get root).rect s.0 = rw q at s.3 in
          absurd (longer (get root).orientation (get root).rect s.0 (leaf_some (get root).kind (get root).rect h.0 (PlaceF get C) (inr free) h.1)
          (place_not_empty get (slot j B U) s.0 s.1) a (rw w at x) (rw w at y))

      go : (F : Forest) → Represents get n root F → PlaceF get F all → (get root).next ≡ none
      go empty R h = absurd h
      go (slot a C S) R h =
          let q : a ≡ root = to_inj R.from_root in at C S (rw q at R.along.0.next) (rw q at h)
