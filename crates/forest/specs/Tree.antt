-- The forest with each slot's kind and rectangle: a labelled tree, that no longer looks into a table. And how it fills a
-- rectangle: every measure that adds up where a rectangle is cut in two adds up over the leaves.
-- Assumes nothing.
use Rattle.std.specs.Prelude.{ℕ, ◌+◌, ◌≤◌, ◌<◌, ◌≡◌, refl}
use Rattle.std.proofs.Common.{sym, arith}
use Rattle.geometry.specs.Rectangles.{flip}
use Rattle.geometry.specs.Measures.{span, Adds}
use Rattle.geometry.proofs.MeasureLaws.{span_flip, adds_nothing}
use Rattle.geometry.specs.declared.Orientation.{Orientation}
use Rattle.geometry.specs.declared.Rectangle.{Rectangle}
use Rattle.slots.specs.declared.NodeKind.{NodeKind}
use Rattle.slots.specs.declared.NodeKind.TheVariants.{Container, Alloc, Free, Unused}
use Rattle.sound.specs.View.{Seen}
use Rattle.forest.specs.Forest.{Forest, empty, slot}

-- A chain of siblings, each slot with its rectangle and the chain after it; a Container has its children too.
pub data Tree : Type 0 where
  end : Tree
  alloc : ℕ → Rectangle → Tree → Tree
  free : ℕ → Rectangle → Tree → Tree
  box : ℕ → Rectangle → Tree → Tree → Tree

-- A slot of a kind before a chain, over its children. (No Unused slot stands in a forest.)
abbrev pub before : NodeKind → ℕ → Rectangle → Tree → Tree → Tree
before Container i r c t = box i r c t
before Alloc i r c t = alloc i r t
before Free i r c t = free i r t
before Unused i r c t = t

-- The tree of a forest, its labels read from the table.
abbrev pub tree_of : (ℕ → Seen) → Forest → Tree
tree_of get empty = end
tree_of get (slot i C S) = before (get i).kind i (get i).rect (tree_of get C) (tree_of get S)

-- The chain goes from a to b along the orientation, each member from c to d across it; children run the other way.
abbrev pub Fits : Orientation → ℕ → ℕ → ℕ → ℕ → Tree → Type 0
Fits o a b c d end = a ≡ b
Fits o a b c d (alloc i r t) = (m : ℕ) × (a < m) × (r ≡ span o a m c d) × Fits o m b c d t
Fits o a b c d (free i r t) = (m : ℕ) × (a < m) × (r ≡ span o a m c d) × Fits o m b c d t
Fits o a b c d (box i r k t) = (m : ℕ) × (a < m) × Fits (flip o) c d a m k × Fits o m b c d t

-- The sum of μ over the leaves.
unfoldable pub total : (Rectangle → ℕ) → Tree → ℕ
total μ end = 0
total μ (alloc i r t) = μ r + total μ t
total μ (free i r t) = μ r + total μ t
total μ (box i r k t) = total μ k + total μ t

-- It ends no sooner than it starts.
fits_le : (t : Tree) (o : Orientation) (a b c d : ℕ) → Fits o a b c d t → a ≤ b
fits_le end o a b c d f = omega arith
fits_le (alloc i r t) o a b c d f = omega (arith, fits_le t o f.0 b c d f.3)
fits_le (free i r t) o a b c d f = omega (arith, fits_le t o f.0 b c d f.3)
fits_le (box i r k t) o a b c d f = omega (arith, fits_le t o f.0 b c d f.3)

-- A measure that adds up does so over the leaves of a tree that fits.
module _ (μ : Rectangle → ℕ) (adds : Adds μ) where
  pub fits_measured : (t : Tree) (o : Orientation) (a b c d : ℕ) → Fits o a b c d t → total μ t ≡ μ (span o a b c d)
  unfolding total
  fits_measured end o a b c d f = rw (← f) (sym (adds_nothing μ adds o a c d))
  fits_measured (alloc i r t) o a b c d f =
      rw (f.2, fits_measured t o f.0 b c d f.3) (sym (adds o a f.0 b c d (omega arith) (fits_le t o f.0 b c d f.3)))
  fits_measured (free i r t) o a b c d f =
      rw (f.2, fits_measured t o f.0 b c d f.3) (sym (adds o a f.0 b c d (omega arith) (fits_le t o f.0 b c d f.3)))
  fits_measured (box i r k t) o a b c d f =
      rw (fits_measured k (flip o) c d a f.0 f.2, fits_measured t o f.0 b c d f.3, span_flip o a f.0 c d)
      (sym (adds o a f.0 b c d (omega arith) (fits_le t o f.0 b c d f.3)))
