-- The chain of Unused slots has as many slots as there are: so a few steps along it tell whether enough are spare.
-- Assumes nothing.
use Rattle.std.specs.Prelude.{◌≡◌, refl, Bool, false, List, leb}
use Rattle.std.proofs.Math.Path.{sym}
use Rattle.std.proofs.Common.{◌∙◌}
use Rattle.std.proofs.Math.Bool.{true}
use Prim.Native.Nat.{ℕ, zero, suc, ◌-◌, ◌≤◌, ◌<◌}
use native.Mathlib.Omega.{arith}
use borrow.Author.Tests.{eqb-true, leb-true, leb-false, lt-ltb, le-ltb, le-leb, lt-leb}
use Rattle.table.specs.Table.{node_at}
use Rattle.slots.specs.Slots.{is_none}
use Rattle.slots.specs.declared.AllocIndex.{AllocIndex}
use Rattle.steps.specs.Spares.{unused_below, spare_slots}
use Rattle.sound.specs.View.{link_of, seen}
use Rattle.sound.specs.Rules.{Visits, it, later}
use Rattle.forest.specs.Ends.{EndsIn}
use Rattle.forest.specs.Spare.{spare_steps}
use Rattle.links.specs.LinkLaws.{link_none, link_names}
use Rattle.links.proofs.SpareLaws.{unused_count}
use Rattle.spares.specs.Chains.{chain_has, SpareReady}

-- A step of the walk: past n it ends, below n it goes on, and after the last step it has them all.
pub walk_ends : (w : List ℕ) (n k : ℕ) (l : AllocIndex) → 0 < k → n ≤ l.0 → false ≡ chain_has w n k l
unfolding chain_has
walk_ends w n zero l h e = absurd (omega arith)
walk_ends w n (suc k) l h e = rw (le-ltb l.0 n e)

pub walk_goes : (w : List ℕ) (n k : ℕ) (l : AllocIndex) → 0 < k → l.0 < n → chain_has w n (k - 1) (node_at w l).next ≡ chain_has w n k l
unfolding chain_has
walk_goes w n zero l h e = absurd (omega arith)
walk_goes w n (suc k) l h e = let z : suc k - 1 ≡ k = omega arith in rw (lt-ltb l.0 n e, z)

pub walk_all : (w : List ℕ) (n k : ℕ) (l : AllocIndex) → k ≤ 0 → true ≡ chain_has w n k l
unfolding chain_has
walk_all w n zero l h = refl
walk_all w n (suc k) l h = absurd (omega arith)

-- Two comparisons that hold together.
leb_as : (a b c d : ℕ) → (a ≤ b → c ≤ d) → (c ≤ d → a ≤ b) → leb a b ≡ leb c d
leb_as a b c d f g = go (leb a b) (leb c d) refl refl
  where
    go : (x y : Bool) → leb a b ≡ x → leb c d ≡ y → x ≡ y
    go true true p q = refl
    go true false p q = absurd (omega (arith, f (leb-true a b p), leb-false c d q))
    go false true p q = absurd (omega (arith, g (leb-true c d q), leb-false a b p))
    go false false p q = refl

module _ (w : List ℕ) (n : ℕ) (few : n ≤ 4096) where
  -- A link that ends the chain is not below n; one that goes on is, where every slot on it is.
  chain_has_lem : (k u : ℕ) (l : AllocIndex) → EndsIn (λ j. (seen w j).next) (link_of l) u → ((i : ℕ) → Visits (λ j. (seen w j).next) i (link_of l) → i < n)
      → chain_has w n k l ≡ leb k u
  unfolding chain_has seen
  chain_has_lem zero u l e v = sym (le-leb 0 u (omega arith))
  chain_has_lem (suc k) zero l e v =
      let q = (link_none l).1 e in
      let z : n ≤ l.0 = none_past q in
      rw (le-ltb l.0 n z, lt-leb (suc k) 0 (omega arith))
    where
      none_past : is_none l ≡ true → n ≤ l.0
      none_past q = let t = eqb-true l.0 4294967295 q in omega arith
  chain_has_lem (suc k) (suc u) l e v =
      let b : l.0 < n = rw (← (link_names l e.0 e.1).1) at (v e.0 (rw e.1 it)) in
      rw (lt-ltb l.0 n b)
      (chain_has_lem k u (node_at w l).next (rw (← (link_names l e.0 e.1).1) at e.2)
      (λ i y. v i (rw e.1 (later {i = e.0} (rw (← (link_names l e.0 e.1).1) y)))) ∙ leb_as k u (suc k) (suc u) (λ h. omega arith) (λ h. omega arith))

-- Enough are spare.
module _ (w : List ℕ) (total n need : ℕ) (spare : AllocIndex) (r : SpareReady w total spare n) where
  pub spare_past : need ≤ total - n → true ≡ leb need (spare_slots w total n)
  spare_past h = sym (le-leb need (spare_slots w total n) (omega arith))

  pub spare_chain : total - n < need → (b : Bool) → b ≡ chain_has w n (need - (total - n)) spare → b ≡ leb need (spare_slots w total n)
  spare_chain h b e =
      e
      ∙ chain_has_lem w n (omega (arith, r.below, r.few)) (need - (total - n)) (unused_below w n) spare
      (rw unused_count at (spare_steps (seen w) n (link_of spare) r.chain)) (λ i v. (r.chain.only i v).0)
      ∙ leb_as (need - (total - n)) (unused_below w n) need (spare_slots w total n) (λ q. omega arith) (λ q. omega arith)
