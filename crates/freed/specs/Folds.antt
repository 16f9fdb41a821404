-- Freeing a set of slots of a tree is one fold, and two such folds fuse: the order of freeing is free.
-- Assumes nothing.
use Rattle.std.specs.Prelude.{ℕ, ◌≡◌, refl, Bool, true, false, ◌||◌}
use Rattle.std.proofs.Common.{sym, ap, ap₂, ◌∙◌}
use Rattle.geometry.specs.declared.Rectangle.{Rectangle}
use Rattle.slots.specs.declared.NodeKind.{NodeKind}
use Rattle.slots.specs.declared.NodeKind.TheVariants.{Container, Alloc, Free, Unused}
use Rattle.sound.specs.Rules.{join}
use Rattle.forest.specs.Tree.{Tree, end, alloc, free, box, before}

-- A Free slot in front of a chain absorbs a Free head.
unfoldable pub free_first : ℕ → Rectangle → Tree → Tree
free_first s r end = free s r end
free_first s r (alloc t q n) = free s r (alloc t q n)
free_first s r (free t q n) = free s (join r q) n
free_first s r (box t q c n) = free s r (box t q c n)

-- A Container in front of a chain: over one Free child alone it is a Free slot with the child's rectangle.
unfoldable pub box_first : ℕ → Rectangle → Tree → Tree → Tree
unfolding free_first
box_first s r end m = box s r end m
box_first s r (alloc t q n) m = box s r (alloc t q n) m
box_first s r (free t q end) m = free_first s q m
box_first s r (free t q (alloc u w n)) m = box s r (free t q (alloc u w n)) m
box_first s r (free t q (free u w n)) m = box s r (free t q (free u w n)) m
box_first s r (free t q (box u w c n)) m = box s r (free t q (box u w c n)) m
box_first s r (box t q c n) m = box s r (box t q c n) m

-- An Alloc slot in front of a chain, freed where the bit says so.
unfoldable pub alloc_first : Bool → ℕ → Rectangle → Tree → Tree
unfolding free_first
alloc_first true s r n = free_first s r n
alloc_first false s r n = alloc s r n

-- Every Alloc slot of the set p is freed, and the tree is merged all over.
unfoldable pub freeing : (ℕ → Bool) → Tree → Tree
unfolding alloc_first box_first free_first
freeing p end = end
freeing p (alloc s r n) = alloc_first (p s) s r (freeing p n)
freeing p (free s r n) = free_first s r (freeing p n)
freeing p (box s r c n) = box_first s r (freeing p c) (freeing p n)

-- No slot.
abbrev pub no_slot : ℕ → Bool
no_slot s = false

-- ONE SLOT of the fold, by its kind.
abbrev pub merged_first : NodeKind → Bool → ℕ → Rectangle → Tree → Tree → Tree
merged_first Container b s r c n = box_first s r c n
merged_first Alloc b s r c n = alloc_first b s r n
merged_first Free b s r c n = free_first s r n
merged_first Unused b s r c n = n

pub freeing_before : (p : ℕ → Bool) (k : NodeKind) (s : ℕ) (r : Rectangle) (c n : Tree)
    → freeing p (before k s r c n) ≡ merged_first k (p s) s r (freeing p c) (freeing p n)
unfolding freeing
freeing_before p Container s r c n = refl
freeing_before p Alloc s r c n = refl
freeing_before p Free s r c n = refl
freeing_before p Unused s r c n = refl

-- TWO FREEINGS FUSE.
pub free_free : (s : ℕ) (r : Rectangle) (t : ℕ) (q : Rectangle) (n : Tree) → free_first s r (free_first t q n) ≡ free_first s (join r q) n
unfolding free_first
free_free s r t q end = refl
free_free s r t q (alloc u w n) = refl
free_free s r t q (free u w n) = refl
free_free s r t q (box u w c n) = refl

freeing_free : (p : ℕ → Bool) (s : ℕ) (r : Rectangle) (n : Tree) → freeing p (free_first s r n) ≡ free_first s r (freeing p n)
unfolding freeing free_first
freeing_free p s r end = refl
freeing_free p s r (alloc u w n) = refl
freeing_free p s r (free u w n) = sym (free_free s r u w (freeing p n))
freeing_free p s r (box u w c n) = refl

freeing_box : (p : ℕ → Bool) (s : ℕ) (r : Rectangle) (c m : Tree) → freeing p (box_first s r c m) ≡ box_first s r (freeing p c) (freeing p m)
unfolding freeing box_first free_first
freeing_box p s r end m = refl
freeing_box p s r (alloc t q n) m = refl
freeing_box p s r (free t q end) m = freeing_free p s q m
freeing_box p s r (free t q (alloc u w n)) m = refl
freeing_box p s r (free t q (free u w n)) m = refl
freeing_box p s r (free t q (box u w c n)) m = refl
freeing_box p s r (box t q c n) m = refl

freeing_alloc : (p : ℕ → Bool) (b : Bool) (s : ℕ) (r : Rectangle) (n : Tree) → freeing p (alloc_first b s r n) ≡ alloc_first (b || p s) s r (freeing p n)
unfolding freeing alloc_first
freeing_alloc p true s r n = freeing_free p s r n
freeing_alloc p false s r n = refl

pub fuse : (p q : ℕ → Bool) (t : Tree) → freeing p (freeing q t) ≡ freeing (λ s. q s || p s) t
unfolding freeing
fuse p q end = refl
fuse p q (alloc s r n) = freeing_alloc p (q s) s r (freeing q n) ∙ ap (alloc_first (q s || p s) s r) (fuse p q n)
fuse p q (free s r n) = freeing_free p s r (freeing q n) ∙ ap (free_first s r) (fuse p q n)
fuse p q (box s r c n) = freeing_box p s r (freeing q c) (freeing q n) ∙ ap₂ (box_first s r) (fuse p q c) (fuse p q n)

-- MERGED TREES. No Free slot heads the chain; the chain has a slot; it may stand under a Container.
abbrev pub NotFree : Tree → Type 0
NotFree end = Unit {0}
NotFree (alloc s r n) = Unit {0}
NotFree (free s r n) = ⊥
NotFree (box s r c n) = Unit {0}

abbrev pub Some : Tree → Type 0
Some end = ⊥
Some (alloc s r n) = Unit {0}
Some (free s r n) = Unit {0}
Some (box s r c n) = Unit {0}

abbrev pub Kids : Tree → Type 0
Kids end = ⊥
Kids (alloc s r n) = Unit {0}
Kids (free s r n) = Some n
Kids (box s r c n) = Unit {0}

-- No two linked siblings are both Free, and no Free slot is an only child.
abbrev pub Tidy : Tree → Type 0
Tidy end = Unit {0}
Tidy (alloc s r n) = Tidy n
Tidy (free s r n) = NotFree n × Tidy n
Tidy (box s r c n) = Kids c × Tidy c × Tidy n

free_plain : (s : ℕ) (r : Rectangle) (n : Tree) → NotFree n → free_first s r n ≡ free s r n
unfolding free_first
free_plain s r end h = refl
free_plain s r (alloc t q n) h = refl
free_plain s r (free _ _ _) h = elim h [ ]
free_plain s r (box t q c n) h = refl

box_plain : (s : ℕ) (r : Rectangle) (c m : Tree) → Kids c → box_first s r c m ≡ box s r c m
unfolding box_first
box_plain s r end m k = elim k [ ]
box_plain s r (alloc t q n) m k = refl
box_plain s r (free t q end) m k = elim k [ ]
box_plain s r (free t q (alloc u w n)) m k = refl
box_plain s r (free t q (free u w n)) m k = refl
box_plain s r (free t q (box u w c n)) m k = refl
box_plain s r (box t q c n) m k = refl

-- A tidy tree is merged already.
pub freeing_none : (t : Tree) → Tidy t → freeing no_slot t ≡ t
unfolding freeing alloc_first
freeing_none end h = refl
freeing_none (alloc s r n) h = ap (alloc s r) (freeing_none n h)
freeing_none (free s r n) h = ap (free_first s r) (freeing_none n h.1) ∙ free_plain s r n h.0
freeing_none (box s r c n) h = ap₂ (box_first s r) (freeing_none c h.1) (freeing_none n h.2) ∙ box_plain s r c n h.0
