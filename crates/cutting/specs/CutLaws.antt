-- The laws by which the cut of the chosen slot is proved.
-- Assumes nothing.
use Rattle.std.specs.Prelude.{◌≡◌, Bool, true, false, List, ℕ, leb, length}
use Rattle.std.proofs.Math.Path.{sym}
use Rattle.std.proofs.Common.{◌∙◌, arith, leb-true}
use Rattle.geometry.specs.Choice.{pick_elim}
use Rattle.cuts.specs.Cuts.{FitsIn, exact_fit, cut_way, split_of, leftover_of, at_corner, cut_of}
use Rattle.geometry.specs.declared.Bucket.{Bucket}
use Rattle.cuts.specs.declared.Cut.{Cut}
use Rattle.geometry.specs.declared.Extent.{Extent}
use Rattle.geometry.specs.declared.Orientation.{Orientation}
use Rattle.geometry.specs.declared.Orientation.TheVariants.{Vertical, Horizontal}
use Rattle.geometry.specs.declared.Rectangle.{Rectangle}
use Rattle.geometry.specs.declared.Setup.{Setup}
use Rattle.table.specs.Table.{node_at}
use Rattle.slots.specs.declared.AllocIndex.{AllocIndex}
use Rattle.slots.specs.declared.Node.{Node}
use Rattle.buckets.specs.FreeLists.{Lists}
use Rattle.steps.specs.Spares.{spare_slots}
use Rattle.steps.specs.State.{state}
use Rattle.steps.specs.declared.Head.{Head}
use Rattle.grants.specs.Grants.{Grant, refused, with_lists, taken, cut_for}
use Rattle.grants.specs.Shapes.{shape_of, slots_needed}
use Rattle.grants.specs.declared.Shape.{Shape}
use Rattle.granted.specs.NewSlots.{start_taking}
use Rattle.granted.specs.Takes.{can_take}
use Rattle.pieces.specs.Pieces.{Upright}
use Rattle.taking.specs.Ready.{TakeReady}
use Rattle.cutting.specs.Ready.{ChosenReady}

-- The pieces of a cut have their corners in order.
split_upright : (o : Orientation) (r : Rectangle) (w h : ℕ) → FitsIn r w h → Upright (split_of o r w h) × Upright (leftover_of o r w h)
split_upright Vertical r w h f = ((omega (arith, f.wide), omega (arith, f.tall)), (omega (arith, f.wide), omega (arith, f.tall)))
split_upright Horizontal r w h f = ((omega (arith, f.wide), omega (arith, f.tall)), (omega (arith, f.wide), omega (arith, f.tall)))

cut_upright : (r : Rectangle) (w h : ℕ) (o : Orientation) (c : Cut) → c ≡ cut_of r w h o → FitsIn r w h → Upright c.split × Upright c.leftover
unfolding cut_of
cut_upright r w h o c e f =
    rw e
    (pick_elim (λ (x : Cut). Upright x.split × Upright x.leftover) (exact_fit r w h) _ _
    (λ _. ((omega arith, omega arith), (omega arith, omega arith))) (λ _. split_upright (cut_way r w h) r w h f))

-- The cut of the chosen slot, from what each call ensures.
module _ {w g : List ℕ} {h : Head} {l : Lists} {e : Extent} {i : AllocIndex} {b : Bucket} {k : ℕ} (r : ChosenReady w g h l e i b k)
    (m : Node) (c : Cut) (shape : Shape) (need : ℕ) (enough : Bool) (node : m ≡ node_at w i)
    (cut : c ≡ cut_of m.rect e.width e.height m.orientation) (shaped : shape ≡ shape_of c m.orientation)
    (needed : need ≡ slots_needed shape) (told : enough ≡ leb need (spare_slots w (length g) h.count)) where
  -- Where enough slots are spare, the slot can be cut.
  pub cut_ready : enough ≡ true → TakeReady shape w g h l i b k c
  cut_ready t =
      let u = cut_upright m.rect e.width e.height m.orientation c cut (rw node r.fits) in
      let z = leb-true need (spare_slots w (length g) h.count) (sym told ∙ t) in
      let s = r.spare in
      record {
        can = can_take (slots_needed shape) s.few s.slots (start_taking w g h s.chain s.below) (omega arith);
        few = s.few;
        slots = s.slots;
        chosen = r.chosen;
        next = r.next;
        lists = r.lists;
        place = r.place;
        split = λ _. u.0;
        left = λ _. u.1;
      }

  module _ (x y z : List ℕ) (setup : Setup) where
    -- Then it is cut,
    pub cut_made : enough ≡ true → (t : Grant) → t ≡ taken shape (state h w g x y z) setup l i b k (at_corner m.rect e.width e.height) c → t ≡ cut_for (state h w g x y z) setup l e i b k
    unfolding cut_for
    cut_made h₁ t q = rw (← node, ← cut, ← shaped, ← needed, sym told ∙ h₁) q

    -- else 7 is given.
    pub cut_refused : enough ≡ false → refused 7 (with_lists h w g l) ≡ cut_for (state h w g x y z) setup l e i b k
    unfolding cut_for
    cut_refused h₁ = rw (← node, ← cut, ← shaped, ← needed, sym told ∙ h₁)
