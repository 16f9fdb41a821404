-- What the top chain fills is not empty, and neither is the rectangle that its last slot stores.
-- Assumes nothing.
use Rattle.std.specs.Prelude.{ℕ, ◌≡◌, refl}
use Rattle.std.proofs.Common.{sym, ◌∙◌, ap, inl, inr}
use Rattle.std.proofs.lemmas.Bool.{false≢true}
use Rattle.geometry.specs.declared.Rectangle.{Rectangle}
use Rattle.slots.specs.declared.NodeKind.{NodeKind}
use Rattle.slots.specs.declared.NodeKind.TheVariants.{Container, Alloc, Free, Unused}
use Rattle.sound.specs.View.{none, Seen, in_use, Live}
use Rattle.sound.specs.Rules.{NotEmpty, PlaceChain}
use Rattle.sound.specs.Sound.{Linked, LastTrue}
use Rattle.forest.specs.Forest.{slot}
use Rattle.forest.specs.Bridge.{forest}
use Rattle.forest.specs.Fill.{place_not_empty}
use Rattle.forest.specs.Place.{table_slot_place}
use Rattle.changes.specs.Frame.{placed_chain}
use Rattle.changes.specs.Gaps.{parent_at, prev_at, orientation_at, rep_fill}
use Rattle.changes.specs.Pieces.{leaf_filled}
use Rattle.changes.specs.Swaps.{at_slot}

module _ (get : ℕ → Seen) (n root : ℕ) (L : Linked get n root) (all : Rectangle) (P : PlaceChain get n root all) where
  pub whole_some : NotEmpty all
  whole_some = let F = forest get n root L in place_not_empty get F.0 all (placed_chain get n root F.0 F.1 all P)

  -- By rule 7 the last slot's rectangle is its place, if it is a Container.
  pub last_some : LastTrue get n → (i : ℕ) → Live get n i → (get i).parent ≡ none → (get i).next ≡ none → NotEmpty (get i).rect
  last_some last i lv p x = go (get i).kind refl
    where
      go : (k : NodeKind) → (get i).kind ≡ k → NotEmpty (get i).rect
      go Container e =
          let a = at_slot get n root i L all P lv in
          let T = slot i a.below a.after in
          let o = (get root).orientation in
          let s = table_slot_place get n L.near.one_child (parent_at a.gap none) (prev_at a.gap none) (orientation_at a.gap o) i a.below a.after
          (rep_fill get n a.gap T none none o a.whole.along) (get i).rect (last i lv p x e) in
          place_not_empty get a.below (get i).rect (rw e at s)
      go Alloc e = leaf_filled get n root L all P i lv (inl e)
      go Free e = leaf_filled get n root L all P i lv (inr e)
      go Unused e = absurd (false≢true (sym (ap in_use e) ∙ lv.1))
