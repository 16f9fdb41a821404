-- Tables that are sound but for what the top chain fills, and what each step of a grow keeps.
-- Assumes nothing.
use Rattle.std.specs.Prelude.{ℕ, ◌+◌, ◌≤◌, ◌<◌, ◌≡◌, refl, get_or}
use Rattle.std.proofs.Common.{◌∙◌, ap, arith}
use Rattle.geometry.specs.Rectangles.{width_of, height_of}
use Rattle.geometry.specs.declared.Rectangle.{Rectangle}
use Rattle.slots.specs.declared.NodeKind.TheVariants.{Alloc, Free}
use Rattle.steps.specs.State.{State}
use Rattle.sound.specs.View.{none, link_of, seen, in_use, Live}
use Rattle.sound.specs.Rules.{PlaceChain}
use Rattle.sound.specs.Sound.{Counted, SpareChain, Linked, Merged, Listed, LastTrue, Sound, sheet_of}
use Rattle.lent.specs.Lent.{LentOf}
use Rattle.granted.specs.Terms.{spare_at}

-- Every rule but that the top chain fills the sheet: it fills `all`.
pub record Fills (s : State) (all : Rectangle) : Type 0 where
  pub rule1 : Counted s
  pub rule2 : SpareChain (seen s.words) s.head.count (link_of s.head.spare)
  pub rule3 : Linked (seen s.words) s.head.count s.head.root.0
  pub rule4 : Merged (seen s.words) s.head.count
  pub rule5 : PlaceChain (seen s.words) s.head.count s.head.root.0 all
  pub rule6 : Listed s
  pub rule7 : LastTrue (seen s.words) s.head.count

-- Tables whose top chain fills the sheet are sound.
pub fills_sound : {s : State} {all : Rectangle} → Fills s all → all ≡ sheet_of s.head.sheet → Sound s
fills_sound F e =
    record {
      rule1 = F.rule1;
      rule2 = F.rule2;
      rule3 = F.rule3;
      rule4 = F.rule4;
      rule5 = rw e at F.rule5;
      rule6 = F.rule6;
      rule7 = F.rule7;
    }

-- A rectangle is as wide and as tall as another.
abbrev pub NoSmaller : Rectangle → Rectangle → Type 0
NoSmaller r q = (width_of r ≤ width_of q) × (height_of r ≤ height_of q)

-- A step that takes k spare slots: each live slot stays live with its generation, each Alloc slot with its rectangle, each Free slot with one that is no
-- smaller, and no slot turns Alloc.
pub record Carries (s t : State) (k : ℕ) : Type 0 where
  pub lent : LentOf t
  pub sheet : t.head.sheet ≡ s.head.sheet
  pub options : t.head.options ≡ s.head.options
  pub spares : spare_at s ≡ spare_at t + k
  pub lives : (j : ℕ) → Live (seen s.words) s.head.count j → Live (seen t.words) t.head.count j
  pub generations : (j : ℕ) → Live (seen s.words) s.head.count j → get_or t.generations j 0 ≡ get_or s.generations j 0
  pub allocs : (j : ℕ) → j < s.head.count → (seen s.words j).kind ≡ Alloc → ((seen t.words j).kind ≡ Alloc) × ((seen t.words j).rect ≡ (seen s.words j).rect)
  pub only : (j : ℕ) → j < t.head.count → (seen t.words j).kind ≡ Alloc → (j < s.head.count) × ((seen s.words j).kind ≡ Alloc)
  pub frees : (j : ℕ) → j < s.head.count → (seen s.words j).kind ≡ Free → ((seen t.words j).kind ≡ Free) × NoSmaller (seen s.words j).rect (seen t.words j).rect

-- No step.
pub carries_same : {s : State} → LentOf s → Carries s s 0
carries_same L = record {
  lent = L;
  sheet = refl;
  options = refl;
  spares = omega arith;
  lives = λ j l. l;
  generations = λ j l. refl;
  allocs = λ j l a. (a, refl);
  only = λ j l a. (l, a);
  frees = λ j l f. (f, (omega arith, omega arith));
}

-- One step after another.
pub carries_both : {s t u : State} {k m : ℕ} → Carries s t k → Carries t u m → Carries s u (k + m)
carries_both A B = record {
  lent = B.lent;
  sheet = B.sheet ∙ A.sheet;
  options = B.options ∙ A.options;
  spares = let a = A.spares in let b = B.spares in omega arith;
  lives = λ j l. B.lives j (A.lives j l);
  generations = λ j l. B.generations j (A.lives j l) ∙ A.generations j l;
  allocs = λ j l a. let x = A.allocs j l a in let y = B.allocs j (A.lives j (l, ap in_use a)).0 x.0 in (y.0, y.1 ∙ x.1);
  only = λ j l a. let x = B.only j l a in A.only j x.0 x.1;
  frees = λ j l f.
      let x = A.frees j l f in
      let y = B.frees j (A.lives j (l, ap in_use f)).0 x.0 in
      (y.0, (omega (arith, x.1.0, y.1.0), omega (arith, x.1.1, y.1.1)));
}

-- The root is one Free slot without next.
abbrev pub Lone : State → Type 0
Lone s = ((seen s.words s.head.root.0).kind ≡ Free) × ((seen s.words s.head.root.0).next ≡ none)

-- The root keeps its orientation, and is no lone Free slot.
pub record Roots (s t : State) : Type 0 where
  pub orientation : (seen t.words t.head.root.0).orientation ≡ (seen s.words s.head.root.0).orientation
  pub lone : Lone t → ⊥
