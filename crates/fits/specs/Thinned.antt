-- What a search does to a list: it takes entries out whose slots aren't Free, and nothing else.
-- Assumes nothing.
use Rattle.std.specs.Prelude.{◌≡◌, refl, true, false, List, ℕ, ◌≤◌, ◌<◌, length, get_or, eqb}
use Rattle.std.proofs.Common.{subst, ◌∙◌, arith, length-set, ne_eqb}
use Rattle.lists.specs.Lists.{Bag, removed, free_entry, Each}
use Rattle.lists.specs.Counts.{bit, occurrences}
use Rattle.lists.specs.OccurrenceLaws.{occurrences_removed, place_occurs, occurs_at}

-- List b is list a with entries of slots that aren't Free taken out.
pub record Thinned (w : List ℕ) (a b : Bag) : Type 0 where
  pub table : length b.table ≡ length a.table
  pub shorter : b.len ≤ a.len
  pub drops : (x : ℕ) → occurrences x b ≤ occurrences x a
  pub keeps : (x : ℕ) → free_entry w x ≡ true → occurrences x b ≡ occurrences x a

-- A list as it stands is thinned.
pub thinned_itself : {w : List ℕ} {a : Bag} → Thinned w a a
thinned_itself = record { table = refl; shorter = omega arith; drops = λ x. omega arith; keeps = λ x f. refl }

-- Thinned twice is thinned.
pub thinned_twice : {w : List ℕ} {a b c : Bag} → Thinned w a b → Thinned w b c → Thinned w a c
thinned_twice s t =
    record {
      table = t.table ∙ s.table;
      shorter = omega arith;
      drops = λ x. omega (arith, s.drops x, t.drops x);
      keeps = λ x f. t.keeps x f ∙ s.keeps x f;
    }

-- What holds of every entry still does.
pub each_thinned : {w : List ℕ} {a b : Bag} (P : ℕ → Type 0) → Thinned w a b → Each P a → Each P b
each_thinned {w} {a} {b} P t e k h =
    let x = get_or b.table k 0 in
    occurs_at x a (omega (arith, t.drops x, place_occurs x b k h refl)) (λ j i s. subst P s (e j i))

-- An entry of a Free slot is not counted where one of another slot stands.
other_entry : (w : List ℕ) (x y : ℕ) → free_entry w x ≡ true → free_entry w y ≡ false → bit (eqb y x) ≡ 0
other_entry w x y f d = rw (ne_eqb y x (λ e. let z : ◌≡◌ {A = ℕ} 0 1 = cc in omega arith))

-- The swap-remove of an entry whose slot isn't Free thins the list.
pub dead_removed : (w : List ℕ) (b : Bag) (k : ℕ) → k < b.len → b.len ≤ length b.table
    → free_entry w (get_or b.table k 0) ≡ false → Thinned w b (removed b k)
dead_removed w b k h f d =
    record {
      table = simp length-set;
      shorter = omega arith;
      drops = λ x. omega (arith, occurrences_removed x b k h f);
      keeps = λ x e. omega (arith, occurrences_removed x b k h f, other_entry w x (get_or b.table k 0) e d);
    }
