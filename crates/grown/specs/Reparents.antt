-- A chain gets another parent: each slot of it, and no other slot changes.
-- Assumes nothing.
use Prim.Native.Nat.{ℕ, zero, suc, ◌≤◌}
use Rattle.std.specs.Prelude.{◌≡◌, refl, length}
use Rattle.std.proofs.Common.{sym, ◌∙◌, ap, ⊎_elim, arith}
use mathlib.Core.List.{List}
use Rattle.std.proofs.Math.Decide.{ℕ_discrete}
use Rattle.geometry.specs.Choice.{pick_elim}
use Rattle.slots.specs.Slots.{slot, is_none}
use Rattle.slots.specs.declared.AllocIndex.{AllocIndex}
use Rattle.table.specs.Table.{node_at, HasSlot}
use Rattle.stores.specs.Stores.{stored, to_parent}
use Rattle.stores.proofs.StoreLaws.{length_stored, has_stored}
use Rattle.sound.specs.View.{Link, to, link_of, Seen, seen}
use Rattle.sound.specs.Rules.{Visits, it, later}
use Rattle.sound.specs.ViewLaws.{to_inj, no_link}
use Rattle.forest.specs.Ends.{EndsIn, in_ends}
use Rattle.forest.specs.Spare.{none_visits, visits_step, chain_visits_once}
use Rattle.links.specs.LinkLaws.{link_none, link_some}
use Rattle.changes.specs.Roots.{with_parent}
use Rattle.granted.specs.Writes.{seen_same, seen_other}
use Rattle.grows.specs.Grows.{reparented}

pub length_reparented : (k : ℕ) (w : List ℕ) (p i : AllocIndex) → length (reparented k w p i) ≡ length w
unfolding reparented
length_reparented zero w p i = refl
length_reparented (suc k) w p i =
    pick_elim (λ (u : List ℕ). length u ≡ length w) (is_none i) w (reparented k (stored w i (to_parent p)) p (node_at w i).next) (λ _. refl)
    (λ _. length_reparented k (stored w i (to_parent p)) p (node_at w i).next ∙ length_stored w i (to_parent p))

-- What slot j is after the slots that f visits from l got the parent p.
abbrev pub Reparents : (ℕ → Link) → Link → Link → (ℕ → Seen) → (ℕ → Seen) → ℕ → Type 0
Reparents f l p get get' j = (Visits f j l → get' j ≡ with_parent (get j) p) × ((Visits f j l → ⊥) → get' j ≡ get j)

module _ (f : ℕ → Link) (p : AllocIndex) where
  -- The chain from i gets the parent p, and no other slot changes.
  pub reparented_chain : (k : ℕ) (w : List ℕ) (i : AllocIndex) (l : Link) (m : ℕ) → link_of i ≡ l → EndsIn f l m → m ≤ k
      → ((j : ℕ) → Visits f j l → ((seen w j).next ≡ f j) × HasSlot w (slot j)) → (j : ℕ) → Reparents f l (link_of p) (seen w) (seen (reparented k w p i)) j
  unfolding reparented link_of seen
  reparented_chain zero w i l zero q e h s j = (λ v. absurd (none_visits v e), λ _. refl)
  reparented_chain zero w i l (suc m) q e h s j = absurd (omega arith)
  reparented_chain (suc k) w i l m q e h s j =
      pick_elim (λ (u : List ℕ). Reparents f l (link_of p) (seen w) (seen u) j) (is_none i) w (reparented k (stored w i (to_parent p)) p (node_at w i).next)
      (λ b. (λ v. absurd (none_visits v (sym q ∙ (link_none i).0 b)), λ _. refl)) (λ b. more m e h (sym q ∙ link_some i b) (reparented_chain k))
    where
      w1 : List ℕ
      w1 = stored w i (to_parent p)

      x : ℕ
      x = i.0

      more : (m : ℕ) → EndsIn f l m → m ≤ suc k → l ≡ to x
          → ((w : List ℕ) (i : AllocIndex) (l : Link) (m : ℕ) → link_of i ≡ l → EndsIn f l m → m ≤ k
          → ((j : ℕ) → Visits f j l → ((seen w j).next ≡ f j) × HasSlot w (slot j)) → (j : ℕ) → Reparents f l (link_of p) (seen w) (seen (reparented k w p i)) j)
          → Reparents f l (link_of p) (seen w) (seen (reparented k w1 p (node_at w i).next)) j
      more zero e h lx rec = absurd (no_link (sym e ∙ lx))
      more (suc m) e h lx rec = go (ℕ_discrete j x)
        where
          ahead : (a : ℕ) → Visits f a (f x) → Visits f a l
          ahead a v = rw lx (later {i = x} v)

          self : Visits f x l
          self = rw lx it

          again : Visits f x (f x) → ⊥
          again = chain_visits_once (in_ends f l (suc m) e) x self

          apart : (a : ℕ) → Visits f a (f x) → a ≡ x → ⊥
          apart a v z = again (rw z at v)

          inner : Reparents f (f x) (link_of p) (seen w1) (seen (reparented k w1 p (node_at w i).next)) j
          inner = rec w1 (node_at w i).next (f x) m (s x self).0 (rw (to_inj (sym e.1 ∙ lx)) at e.2) (omega arith)
              (λ a v. let z = s a (ahead a v) in (ap (λ (y : Seen). y.next) (seen_other w i (to_parent p) a (apart a v)) ∙ z.0, has_stored w i (slot a) (to_parent p) z.1)) j

          go : Dec (j ≡ x) → Reparents f l (link_of p) (seen w) (seen (reparented k w1 p (node_at w i).next)) j
          go (yes z) = (
            λ v. inner.1 (λ u. apart j u z) ∙ rw z (seen_same w i (to_parent p) (s x self).1),
            λ v. absurd (v (rw z self)),
          )
          go (no z) =
              let other = seen_other w i (to_parent p) j z in (
                λ v. ⊎_elim {C = seen (reparented k w1 p (node_at w i).next) j ≡ with_parent (seen w j) (link_of p)} (λ y. absurd (z y))
                    (λ u. inner.0 u ∙ ap (λ (y : Seen). with_parent y (link_of p)) other) (visits_step v x lx),
                λ v. inner.1 (λ u. v (ahead j u)) ∙ other,
              )
