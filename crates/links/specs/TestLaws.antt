-- Tests and what they say. A test says P where it is true just where P holds.
-- Assumes nothing.
use Rattle.std.specs.Prelude.{◌≡◌, refl, Bool, true, false, ◌&&◌, ◌||◌, not, ◌↔◌, ℕ, ◌<◌, eqb, ltb}
use Rattle.std.proofs.Common.{ap, sym, ◌∙◌, ltb-true, lt-ltb, eqb-true, eq-eqb}
use Rattle.std.proofs.lemmas.Bool.{false≢true, not-true, not-false}
use Rattle.geometry.specs.Choice.{pick}
use Rattle.geometry.specs.declared.Orientation.{Orientation}
use Rattle.geometry.specs.declared.Orientation.TheVariants.{Vertical, Horizontal}
use Rattle.slots.specs.Slots.{same_kind, same_orientation}
use Rattle.slots.specs.SlotLaws.{same_kind_equal, same_kind_itself}
use Rattle.slots.specs.declared.NodeKind.{NodeKind}

abbrev pub Says : Bool → Type 0 → Type 0
Says b P = (b ≡ true) ↔ P

-- A test that fails refutes what it says, and what it says refuted fails it.
pub fails : {b : Bool} {P : Type 0} → Says b P → b ≡ false → P → ⊥
fails s e p = false≢true (sym e ∙ s.1 p)

pub refuted : {b : Bool} {P : Type 0} → Says b P → (P → ⊥) → b ≡ false
refuted {b} s r = go b refl
  where
    go : (c : Bool) → b ≡ c → b ≡ false
    go true e = absurd (r (s.0 e))
    go false e = e

-- What a test in the code that was negated says of its model.
pub passed : {r b : Bool} → r ≡ b → not r ≡ false → b ≡ true
passed {r} e h = sym e ∙ not-false r h

pub failed : {r b : Bool} → r ≡ b → not r ≡ true → b ≡ false
failed {r} e h = sym e ∙ not-true r h

-- Both, and the second where the first.
pub both_say : {a b : Bool} {A B : Type 0} → Says a A → Says b B → Says (a && b) (A × B)
both_say {a = true} s t = (λ e. (s.0 refl, t.0 e), λ p. t.1 p.1)
both_say {a = false} s t = (λ e. absurd (false≢true e), λ p. s.1 p.0)

pub where_says : {a b : Bool} {A B : Type 0} → Says a A → (A → Says b B) → Says (not a || b) (A → B)
where_says {a = true} s t = (λ e p. (t p).0 e, λ f. let p = s.0 refl in (t p).1 (f p))
where_says {a = false} s t = (λ e p. absurd (false≢true (s.1 p)), λ f. refl)

-- Exactly where: the second where the first, and not elsewhere.
pub pick_says : {a b : Bool} {A B : Type 0} → Says a A → Says b B → Says (pick a b (not b)) (A ↔ B)
pick_says {a = true} s t = (λ e. (λ p. t.0 e, λ q. s.0 refl), λ f. t.1 (f.0 (s.0 refl)))
pick_says {a = false} {b} s t =
    (λ e. (λ p. absurd (false≢true (s.1 p)), λ q. absurd (fails t (not-true b e) q)), λ f. ap not (refuted t (λ q. false≢true (s.1 (f.1 q)))))

-- A test says what its words are another way to say.
pub says_as : {b : Bool} {P Q : Type 0} → Says b P → P ↔ Q → Says b Q
says_as s m = (λ e. m.0 (s.0 e), λ q. s.1 (m.1 q))

pub not_say : {b : Bool} {P : Type 0} → Says b P → Says (not b) (P → ⊥)
not_say {b} s = (λ e p. fails s (not-true b e) p, λ r. ap not (refuted s r))

pub not_says : (b : Bool) → Says (not b) (b ≡ false)
not_says b = (not-true b, λ e. ap not e)

-- Numbers, kinds and orientations.
pub less_says : (i n : ℕ) → Says (ltb i n) (i < n)
less_says i n = (ltb-true i n, lt-ltb i n)

pub equal_says : (i j : ℕ) → Says (eqb i j) (i ≡ j)
equal_says i j = (eqb-true i j, eq-eqb i j)

pub kind_says : (a b : NodeKind) → Says (same_kind a b) (a ≡ b)
kind_says a b = (same_kind_equal a b, λ e. rw e (same_kind_itself b))

pub orientation_says : (a b : Orientation) → Says (same_orientation a b) (a ≡ b)
orientation_says Vertical Vertical = (λ e. refl, λ e. refl)
orientation_says Horizontal Horizontal = (λ e. refl, λ e. refl)
orientation_says Vertical Horizontal = (λ e. absurd (false≢true e), λ e. ap (λ o. same_orientation o Horizontal) e)
orientation_says Horizontal Vertical = (λ e. absurd (false≢true e), λ e. ap (λ o. same_orientation o Vertical) e)
