-- THE TOP CHAIN of a forest is in the table, as far as it is followed, and stays there where its slots keep their links onwards.
-- Assumes nothing.
use Prim.Native.Nat.{ℕ, zero, suc, ◌*◌, ◌≤◌}
use Rattle.std.specs.Prelude.{◌≡◌, refl, false, List, length}
use Rattle.std.proofs.Common.{sym, ◌∙◌, arith}
use Rattle.slots.specs.Slots.{is_none}
use Rattle.slots.specs.declared.AllocIndex.{AllocIndex}
use Rattle.table.specs.Table.{node_at, HasSlot}
use Rattle.steps.specs.State.{State}
use Rattle.sound.specs.View.{seen, Live}
use Rattle.sound.specs.Sound.{Linked}
use Rattle.links.specs.LinkLaws.{link_some, link_names, link_of_slot}
use Rattle.lent.specs.Lent.{LentOf}
use Rattle.granted.specs.SoundFacts.{lent_slots}
use Rattle.stretches.specs.Chains.{ChainHas}

-- A chain of live slots is in any table of that length that keeps their links onwards.
module _ (w w' : List ℕ) (n root : ℕ) (L : Linked (seen w) n root) (slots : n * 8 ≤ length w')
    (same : (j : ℕ) → Live (seen w) n j → (seen w' j).next ≡ (seen w j).next) where
  live_chain_has : (k : ℕ) (i : AllocIndex) → (is_none i ≡ false → Live (seen w) n i.0) → ChainHas k w' i
  unfolding ChainHas seen
  live_chain_has zero i lv = tt
  live_chain_has (suc k) i lv = λ e. let v = lv e in
      (omega (arith, v.0), live_chain_has k (node_at w' i).next (λ q. L.near.next_live i.0 (node_at w' i).next.0 v (sym (same i.0 v) ∙ link_some (node_at w' i).next q)))

  pub top_kept : (k : ℕ) (i : AllocIndex) → i.0 ≡ root → ChainHas k w' i
  top_kept k i e = live_chain_has k i (λ _. rw e L.near.root_live)

-- So the top chain is in the table,
module _ (s : State) (L : LentOf s) (fits : s.head.count ≤ length s.generations) (T : Linked (seen s.words) s.head.count s.head.root.0) where
  pub top_has : ChainHas s.head.count s.words s.head.root
  top_has =
      top_kept s.words s.words s.head.count s.head.root.0 T (omega (arith, lent_slots s L)) (λ j v. refl) s.head.count s.head.root refl

  -- and so is the root,
  pub root_has : HasSlot s.words s.head.root
  root_has = omega (arith, T.near.root_live.0, lent_slots s L)

  -- which is no missing link.
  pub top_some : is_none s.head.root ≡ false
  top_some = (link_names s.head.root s.head.root.0 (link_of_slot s.head.root.0 (omega (arith, T.near.root_live.0, L.few)))).0
