-- The new slots of an allocate: where enough are spare, each shape's are taken in creation order.
-- Assumes nothing.
use Rattle.std.specs.Prelude.{ℕ, ◌≤◌, ◌≡◌, List, [], ◌∷◌, length}
use Rattle.std.proofs.Math.Path.{refl}
use Rattle.std.proofs.Common.{arith}
use Rattle.slots.specs.declared.AllocIndex.{AllocIndex}
use Rattle.steps.specs.Spares.{spare_slots}
use Rattle.steps.specs.State.{State}
use Rattle.steps.specs.declared.Head.{Head}
use Rattle.sound.specs.Sound.{Sound}
use Rattle.grants.specs.Carves.{News, news_of}
use Rattle.grants.specs.Shapes.{slots_needed}
use Rattle.grants.specs.declared.CutSlots.{CutSlots}
use Rattle.grants.specs.declared.Shape.{Shape}
use Rattle.grants.specs.declared.Shape.TheVariants.{Exact, Along, AlongLeft, Across, AcrossLeft}
use Rattle.granted.specs.NewSlots.{Taking, start_taking, slot_taken}

-- The new slots of a shape, the latest first.
abbrev pub new_ones : Shape → CutSlots → List ℕ
new_ones Exact n = []
new_ones Along n = n.split.0 ∷ []
new_ones AlongLeft n = n.left.0 ∷ n.alloc.0 ∷ n.split.0 ∷ []
new_ones Across n = n.alloc.0 ∷ n.split.0 ∷ []
new_ones AcrossLeft n = n.left.0 ∷ n.alloc.0 ∷ n.inner.0 ∷ n.split.0 ∷ []

-- Sound tables have a spare chain to take slots from.
pub sound_taking : (s : State) → Sound s → Taking s.words s.generations s.head [] s.generations s.head
sound_taking s S = start_taking s.words s.generations s.head S.rule2 S.rule1.fits

module _ {w g : List ℕ} {h : Head} (few : length g ≤ 4096) (T : Taking w g h [] g h) (i : AllocIndex) where
  -- Where as many slots are spare as a shape needs, its new slots are taken.
  pub news_taken : (shape : Shape) (n : News) → n ≡ news_of shape w g h i → slots_needed shape ≤ spare_slots w (length g) h.count
      → Taking w g h (new_ones shape n.slots) n.generations n.head
  unfolding news_of
  news_taken Exact n e some = rw e T
  news_taken Along n e some = rw e (slot_taken few T _ refl (omega arith))
  news_taken AlongLeft n e some = rw e (slot_taken few (slot_taken few (slot_taken few T _ refl (omega arith)) _ refl (omega arith)) _ refl (omega arith))
  news_taken Across n e some = rw e (slot_taken few (slot_taken few T _ refl (omega arith)) _ refl (omega arith))
  news_taken AcrossLeft n e some =
      rw e
      (slot_taken few (slot_taken few (slot_taken few (slot_taken few T _ refl (omega arith)) _ refl (omega arith)) _ refl (omega arith)) _ refl (omega arith))
