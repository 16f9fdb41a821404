-- The laws by which the steps of a grow are proved, from what each call ensures.
-- Assumes nothing.
use Rattle.std.specs.Prelude.{◌≡◌, List, ℕ, ◌≤◌, length}
use Rattle.std.proofs.Common.{ap, ◌∙◌, arith}
use Rattle.geometry.specs.Sides.{setup_of}
use Rattle.geometry.specs.declared.Orientation.{Orientation}
use Rattle.geometry.specs.declared.Rectangle.{Rectangle}
use Rattle.geometry.specs.declared.Setup.{Setup}
use Rattle.table.specs.Table.{HasSlot}
use Rattle.stores.specs.Stores.{stored, to_rect}
use Rattle.stores.proofs.StoreLaws.{length_stored, has_stored}
use Rattle.slots.specs.declared.AllocIndex.{AllocIndex}
use Rattle.buckets.specs.FreeLists.{Lists, lists}
use Rattle.steps.specs.Spares.{Fresh, new_node, HasSpare}
use Rattle.steps.specs.State.{state}
use Rattle.steps.specs.declared.Head.{Head}
use Rattle.entries.specs.Entries.{entered, ListsReady, Enterable}
use Rattle.entries.specs.EntryLaws.{ready_enterable, ready_words}
use Rattle.grants.specs.Grants.{with_lists}
use Rattle.granted.specs.Takes.{fresh_below}
use Rattle.moves.specs.Moves.{moved}
use Rattle.grows.specs.Grows.{stretched, appended_to}
use Rattle.grown.specs.Appending.{linked_after}
use Rattle.grown.proofs.Appending.{length_linked}
use Rattle.growing.specs.Ready.{StepReady}

-- After the rectangle was stored the entry can move,
pub stretch_moves : {w : List ℕ} {l : Lists} {i : AllocIndex} {r : Rectangle} (u : List ℕ) → StepReady w l i r → u ≡ stored w i (to_rect r)
    → ListsReady u l × HasSlot u i × (r.x0 ≤ r.x1) × (r.y0 ≤ r.y1)
stretch_moves {w} {l} {i} {r} u p e =
    rw e (ready_words w (stored w i (to_rect r)) l (length_stored w i (to_rect r)) p.lists, has_stored w i i (to_rect r) p.slot, p.wide, p.tall)

-- and that is the stretch.
pub stretch_done : (h : Head) (w a b c : List ℕ) (i : AllocIndex) (r : Rectangle) (u : List ℕ) (t : Setup) (l : Lists)
    → t ≡ setup_of h.sheet h.options → u ≡ stored w i (to_rect r) → l ≡ moved u t i r (lists h.lengths a b c)
    → (g : List ℕ) → with_lists h u g l ≡ stretched (state h w g a b c) i r
unfolding stretched
stretch_done h w a b c i r u t l et eu el g = rw (el, et, eu)

-- A new slot is a slot of the table.
fresh_has : (w g : List ℕ) (h : Head) (f : Fresh) → HasSpare w g h → f ≡ new_node w g h → HasSlot w f.taken
fresh_has w g h f p e = omega (arith, p.slots, (fresh_below w g h f p e).0)

module _ {w g : List ℕ} {h : Head} {l : Lists} {i : AllocIndex} {r : Rectangle} (f : Fresh) (spare : HasSpare w g h) (ready : StepReady w l i r)
    (ef : f ≡ new_node w g h) where
  -- So it can be linked after slot i,
  pub append_links : HasSlot w i × HasSlot w f.taken
  append_links = (ready.slot, fresh_has w g h f spare ef)

  -- and entered.
  pub append_enters : (o : Orientation) (u : List ℕ) → u ≡ linked_after w i f.taken o r
      → Enterable u f.taken.0 l × (r.x0 ≤ r.x1) × (r.y0 ≤ r.y1)
  append_enters o u e =
      let same : length u ≡ length w = ap length e ∙ length_linked w i f.taken o r in
      (ready_enterable u f.taken.0 l (ready_words w u l same ready.lists) (omega (arith, same, fresh_has w g h f spare ef)), ready.wide, ready.tall)

-- That is the append.
pub append_done : (h : Head) (w g a b c : List ℕ) (i : AllocIndex) (o : Orientation) (r : Rectangle) (f : Fresh) (u : List ℕ) (t : Setup) (l : Lists)
    → f ≡ new_node w g h → t ≡ setup_of h.sheet h.options → u ≡ linked_after w i f.taken o r → l ≡ entered u t f.taken r (lists h.lengths a b c)
    → with_lists f.head u f.generations l ≡ appended_to (state h w g a b c) i o r
unfolding appended_to
append_done h w g a b c i o r f u t l ef et eu el = rw (el, et, eu, ef)
