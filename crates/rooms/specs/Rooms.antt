-- A tree that is freed in part, and merged all over, has room for whatever it had room for.
-- Assumes nothing.
use Rattle.std.specs.Prelude.{ℕ, ◌≤◌, ◌<◌, ◌≡◌, refl, Bool, ◌⊎◌}
use Rattle.std.proofs.Common.{sym, subst, ◌∙◌, arith}
use Rattle.std.proofs.Math.Bool.{true, false}
use Rattle.std.proofs.Math.Logic.{inl, inr, ⊎_elim}
use Rattle.geometry.specs.Rectangles.{flip, width_of, height_of}
use Rattle.geometry.specs.Measures.{span}
use Rattle.geometry.proofs.MeasureLaws.{span_flip}
use Rattle.geometry.specs.declared.Orientation.{Orientation}
use Rattle.geometry.specs.declared.Orientation.TheVariants.{Vertical, Horizontal}
use Rattle.geometry.specs.declared.Rectangle.{Rectangle}
use Rattle.sound.specs.Rules.{join}
use Rattle.forest.specs.Tree.{Tree, end, alloc, free, box, Fits}
use Rattle.freed.specs.Folds.{free_first, box_first, alloc_first, freeing}

-- A rectangle takes a size: it is as wide and as tall.
abbrev pub Takes : ℕ → ℕ → Rectangle → Type 0
Takes w h r = (w ≤ width_of r) × (h ≤ height_of r)

-- A tree has room for a size: the rectangle of one of its Free slots takes it.
abbrev pub Room : ℕ → ℕ → Tree → Type 0
Room w h end = ⊥
Room w h (alloc i r t) = Room w h t
Room w h (free i r t) = Takes w h r ⊎ Room w h t
Room w h (box i r c t) = Room w h c ⊎ Room w h t

-- Two spans that adjoin make one, which takes what either took.
joined : (o : Orientation) (a m b c d : ℕ) → join (span o a m c d) (span o m b c d) ≡ span o a b c d
joined Vertical a m b c d = refl
joined Horizontal a m b c d = refl

longer : (o : Orientation) (a m b e c d w h : ℕ) → a ≤ m → b ≤ e → Takes w h (span o m b c d) → Takes w h (span o a e c d)
longer Vertical a m b e c d w h p q t = (t.0, omega (arith, t.1))
longer Horizontal a m b e c d w h p q t = (omega (arith, t.0), t.1)

module _ (w h : ℕ) where
  -- A FREE SLOT in front of a chain: with the chain it fits, and has room for what it takes and for what the chain had room for.
  module _ (o : Orientation) (s : ℕ) (r : Rectangle) (a m b c d : ℕ) (l : a < m) (e : r ≡ span o a m c d) where
    pub free_first_fits : (n : Tree) → Fits o m b c d n → Fits o a b c d (free_first s r n)
    unfolding free_first
    free_first_fits end f = (m, l, e, f)
    free_first_fits (alloc t q n) f = (m, l, e, f)
    free_first_fits (free t q n) f = (f.0, omega (arith, f.1), rw (e, f.2) (joined o a m f.0 c d), f.3)
    free_first_fits (box t q k n) f = (m, l, e, f)

    pub free_first_room : (n : Tree) → Fits o m b c d n → Takes w h r ⊎ Room w h n → Room w h (free_first s r n)
    unfolding free_first
    free_first_room end f z = z
    free_first_room (alloc t q n) f z = z
    free_first_room (free t q n) f z =
        let k : join r q ≡ span o a f.0 c d = rw (e, f.2) (joined o a m f.0 c d) in
        ⊎_elim (λ x. inl (subst (λ (y : Rectangle). Takes w h y) (sym k) (longer o a a m f.0 c d w h (omega arith) (omega (arith, f.1)) (rw e at x))))
        (λ y. ⊎_elim (λ x. inl (subst (λ (y : Rectangle). Takes w h y) (sym k) (longer o a m f.0 f.0 c d w h (omega arith) (omega arith) (rw f.2 at x)))) (λ x. inr x) y) z
    free_first_room (box t q k n) f z = z

  -- A CONTAINER in front of a chain: over one Free child it is that child.
  module _ (o : Orientation) (s : ℕ) (r : Rectangle) (a m b c d : ℕ) (l : a < m) (n : Tree) (f : Fits o m b c d n) where
    child : {q : Rectangle} {x : ℕ} → q ≡ span (flip o) c x a m → x ≡ d → q ≡ span o a m c d
    child e g = e ∙ rw g (span_flip o a m c d)

    pub box_first_fits : (k : Tree) → Fits (flip o) c d a m k → Fits o a b c d (box_first s r k n)
    unfolding box_first
    box_first_fits end g = (m, l, g, f)
    box_first_fits (alloc t q k) g = (m, l, g, f)
    box_first_fits (free t q end) g = free_first_fits o s q a m b c d l (child g.2 g.3) n f
    box_first_fits (free t q (alloc u v k)) g = (m, l, g, f)
    box_first_fits (free t q (free u v k)) g = (m, l, g, f)
    box_first_fits (free t q (box u v j k)) g = (m, l, g, f)
    box_first_fits (box t q j k) g = (m, l, g, f)

    pub box_first_room : (k : Tree) → Fits (flip o) c d a m k → Room w h k ⊎ Room w h n → Room w h (box_first s r k n)
    unfolding box_first
    box_first_room end g z = z
    box_first_room (alloc t q k) g z = z
    box_first_room (free t q end) g z =
        free_first_room o s q a m b c d l (child g.2 g.3) n f (⊎_elim (λ x. ⊎_elim (λ y. inl y) (λ y. absurd y) x) (λ x. inr x) z)
    box_first_room (free t q (alloc u v k)) g z = z
    box_first_room (free t q (free u v k)) g z = z
    box_first_room (free t q (box u v j k)) g z = z
    box_first_room (box t q j k) g z = z

  -- AN ALLOC SLOT in front of a chain, freed or not.
  module _ (o : Orientation) (s : ℕ) (r : Rectangle) (a m b c d : ℕ) (l : a < m) (e : r ≡ span o a m c d) (n : Tree) (f : Fits o m b c d n) where
    pub alloc_first_fits : (x : Bool) → Fits o a b c d (alloc_first x s r n)
    unfolding alloc_first
    alloc_first_fits true = free_first_fits o s r a m b c d l e n f
    alloc_first_fits false = (m, l, e, f)

    pub alloc_first_room : (x : Bool) → Room w h n → Room w h (alloc_first x s r n)
    unfolding alloc_first
    alloc_first_room true z = free_first_room o s r a m b c d l e n f (inr z)
    alloc_first_room false z = z

  -- FREEING a set of slots.
  module _ (p : ℕ → Bool) where
    freeing_fits : (t : Tree) (o : Orientation) (a b c d : ℕ) → Fits o a b c d t → Fits o a b c d (freeing p t)
    unfolding freeing
    freeing_fits end o a b c d f = f
    freeing_fits (alloc s r n) o a b c d f = alloc_first_fits o s r a f.0 b c d f.1 f.2 (freeing p n) (freeing_fits n o f.0 b c d f.3) (p s)
    freeing_fits (free s r n) o a b c d f = free_first_fits o s r a f.0 b c d f.1 f.2 (freeing p n) (freeing_fits n o f.0 b c d f.3)
    freeing_fits (box s r k n) o a b c d f =
        box_first_fits o s r a f.0 b c d f.1 (freeing p n) (freeing_fits n o f.0 b c d f.3) (freeing p k) (freeing_fits k (flip o) c d a f.0 f.2)

    pub freeing_room : (t : Tree) (o : Orientation) (a b c d : ℕ) → Fits o a b c d t → Room w h t → Room w h (freeing p t)
    unfolding freeing
    freeing_room end o a b c d f z = z
    freeing_room (alloc s r n) o a b c d f z =
        alloc_first_room o s r a f.0 b c d f.1 f.2 (freeing p n) (freeing_fits n o f.0 b c d f.3) (p s) (freeing_room n o f.0 b c d f.3 z)
    freeing_room (free s r n) o a b c d f z =
        free_first_room o s r a f.0 b c d f.1 f.2 (freeing p n) (freeing_fits n o f.0 b c d f.3)
        (⊎_elim (λ x. inl x) (λ x. inr (freeing_room n o f.0 b c d f.3 x)) z)
    freeing_room (box s r k n) o a b c d f z =
        box_first_room o s r a f.0 b c d f.1 (freeing p n) (freeing_fits n o f.0 b c d f.3) (freeing p k) (freeing_fits k (flip o) c d a f.0 f.2)
        (⊎_elim (λ x. inl (freeing_room k (flip o) c d a f.0 f.2 x)) (λ x. inr (freeing_room n o f.0 b c d f.3 x)) z)
