-- What the shape of a cut says of its pieces, in the words of the rules: they adjoin, make up the whole, and are not empty.
-- Assumes nothing.
use Rattle.std.specs.Prelude.{ℕ, ◌<◌, ◌≡◌, refl, Bool, true, false}
use Rattle.std.proofs.Common.{sym, ◌∙◌}
use Rattle.std.proofs.Math.Bool.{false≢true}
use Rattle.geometry.specs.Choice.{pick_elim}
use Rattle.geometry.specs.Rectangles.{flip, empty_rect}
use Rattle.cuts.specs.Cuts.{FitsIn, at_corner, split_of, leftover_of, exact_fit, cut_way, cut_of}
use Rattle.cuts.proofs.CutLaws.{exact_fills, exact_no_pieces, cut_pieces, split_not_empty}
use Rattle.cuts.specs.declared.Cut.{Cut}
use Rattle.geometry.specs.declared.Orientation.{Orientation}
use Rattle.geometry.specs.declared.Orientation.TheVariants.{Vertical, Horizontal}
use Rattle.geometry.specs.declared.Rectangle.{Rectangle}
use Rattle.slots.specs.Slots.{same_orientation}
use Rattle.sound.specs.Rules.{NotEmpty, Adjoin, join}
use Rattle.links.specs.TestLaws.{orientation_says}
use Rattle.changes.specs.Joins.{Parts}
use Rattle.changes.specs.Pieces.{cut_parts, cut_adjoins, cut_whole, no_leftover, not_empty}
use Rattle.grants.specs.Shapes.{shape_of}
use Rattle.grants.specs.declared.Shape.{Shape}
use Rattle.grants.specs.declared.Shape.TheVariants.{Exact, Along, AlongLeft, Across, AcrossLeft}

-- A rectangle r is cut along o into the request q and the split t.
pub record InTwo (o : Orientation) (r q t : Rectangle) : Type 0 where
  pub parts : Parts o r q t
  pub split : NotEmpty t

-- It is cut along o into two parts: the split t, and the one made of the request q and, across o, the leftover u.
pub record InThree (o : Orientation) (r q u t : Rectangle) : Type 0 where
  pub parts : Parts o r (join q u) t
  pub inner : Adjoin (flip o) q u
  pub split : NotEmpty t
  pub left : NotEmpty u

-- What each shape says of a slot of orientation o and rectangle r, cut for a request at q.
abbrev pub CutsAs : Shape → Orientation → Rectangle → Rectangle → Cut → Type 0
CutsAs Exact o r q c = q ≡ r
CutsAs Along o r q c = InTwo o r q c.split
CutsAs AlongLeft o r q c = InThree o r q c.leftover c.split
CutsAs Across o r q c = InTwo (flip o) r q c.split
CutsAs AcrossLeft o r q c = InThree (flip o) r q c.leftover c.split

other_way : (a o : Orientation) → (a ≡ o → ⊥) → a ≡ flip o
other_way Vertical Vertical n = absurd (n refl)
other_way Vertical Horizontal n = refl
other_way Horizontal Vertical n = refl
other_way Horizontal Horizontal n = absurd (n refl)

module _ {r : Rectangle} {w h : ℕ} (f : FitsIn r w h) (p : 0 < w) (q : 0 < h) where
  -- The pieces of a cut one way, without a leftover and with one.
  in_two : (a : Orientation) → empty_rect (split_of a r w h) ≡ false → empty_rect (leftover_of a r w h) ≡ true
      → InTwo a r (at_corner r w h) (split_of a r w h)
  in_two a s e = record { parts = cut_whole a r w h (no_leftover a f p q e); split = not_empty _ s }

  in_three : (a : Orientation) → empty_rect (split_of a r w h) ≡ false → empty_rect (leftover_of a r w h) ≡ false
      → InThree a r (at_corner r w h) (leftover_of a r w h) (split_of a r w h)
  in_three a s e = record { parts = cut_parts a r w h; inner = cut_adjoins a r w h; split = not_empty _ s; left = not_empty _ e }

  module _ (o : Orientation) where
    -- What a cut says, by its shape.
    abbrev Told : Cut → Type 0
    Told c = CutsAs (shape_of c o) o r (at_corner r w h) c

    exact : exact_fit r w h ≡ true → Told (cut_of r w h o)
    unfolding shape_of empty_rect
    exact e = rw (exact_no_pieces r w h o e) (exact_fills f e)

    cut : (a : Orientation) → empty_rect (split_of a r w h) ≡ false → Told (record { orientation = a; split = split_of a r w h; leftover = leftover_of a r w h })
    unfolding shape_of
    cut a s =
        rw s
        (pick_elim P (same_orientation a o) _ _
        (λ t. let y = (orientation_says a o).0 t in pick_elim P (empty_rect (leftover_of a r w h)) _ _ (λ l. rw (← y) (in_two a s l)) (λ l. rw (← y) (in_three a s l)))
        (λ t.
        let y = other_way a o (λ z. false≢true (sym t ∙ (orientation_says a o).1 z)) in
        pick_elim P (empty_rect (leftover_of a r w h)) _ _ (λ l. rw (← y) (in_two a s l)) (λ l. rw (← y) (in_three a s l))))
      where
        P : Shape → Type 0
        P x = CutsAs x o r (at_corner r w h) (record { orientation = a; split = split_of a r w h; leftover = leftover_of a r w h })

    -- The cut of a rectangle that the request fits is as its shape says.
    pub cut_shape : CutsAs (shape_of (cut_of r w h o) o) o r (at_corner r w h) (cut_of r w h o)
    cut_shape = go (exact_fit r w h) refl
      where
        go : (b : Bool) → exact_fit r w h ≡ b → Told (cut_of r w h o)
        go true e = exact e
        go false e = rw (cut_pieces r w h o e) (cut (cut_way r w h) (rw (cut_pieces r w h o e) at (split_not_empty f o p q e)))
