-- RULE 4, EXACT, where rule 3 holds: the test of a slot is the rule of the slot, and all slots that pass are the rule.
-- Assumes nothing.
use Rattle.std.specs.Prelude.{◌≡◌, refl, Bool, true, false, ◌||◌, not, List, ◌↔◌, ℕ, ◌≤◌, ◌<◌, leb}
use Rattle.std.proofs.Common.{ap, sym, ◌∙◌, arith, le-leb, eqb-true}
use Rattle.std.proofs.lemmas.Bool.{lt-leb}
use Rattle.geometry.specs.Choice.{pick}
use Rattle.slots.specs.Slots.{slot, is_none, same_kind}
use Rattle.table.specs.Table.{node_at}
use Rattle.slots.specs.declared.Node.{Node}
use Rattle.slots.specs.declared.NodeKind.TheVariants.{Free}
use Rattle.sound.specs.View.{none, to, link_of, seen, in_use, Live}
use Rattle.sound.specs.Sound.{Linked, Merged}
use Rattle.sound.specs.ViewLaws.{no_link}
use Rattle.links.specs.Links.{Table, merged_at}
use Rattle.links.specs.TestLaws.{Says, fails, where_says, says_as, not_say, kind_says}
use Rattle.links.specs.LinkLaws.{link_none, link_some, link_names}
use Rattle.links.specs.MergedLaws.{MergedHere}

module _ (w : List ℕ) (n root : ℕ) (t : Table w n) (L : Linked (seen w) n root) where
  -- EXACT: the test of slot i is rule 4 of the slot.
  pub merged_at_is : (i : ℕ) → i < n → Says (merged_at w n i) (MergedHere (seen w) i)
  unfolding merged_at seen
  merged_at_is i b = says_as (where_says (kind_says m.kind Free) (λ k. by_next k (is_none m.next) refl)) regroup
    where
      m : Node
      m = node_at w (slot i)

      Says-here : Type 0
      Says-here = ((j : ℕ) → link_of m.next ≡ to j → (seen w j).kind ≡ Free → ⊥) × ((j : ℕ) → link_of m.parent ≡ to j → link_of m.next ≡ none → link_of m.prev ≡ none → ⊥)

      by_next : m.kind ≡ Free → (c : Bool) → is_none m.next ≡ c
          → Says (pick (leb n m.next.0) (not (is_none m.prev) || is_none m.parent) (not (same_kind (node_at w m.next).kind Free))) Says-here
      by_next k true q =
          let past : n ≤ m.next.0 = omega (arith, t.few, eqb-true m.next.0 4294967295 q) in
          let last : link_of m.next ≡ none = (link_none m.next).0 q in
          rw (le-leb n m.next.0 past)
          (says_as (where_says (link_none m.prev) (λ v. link_none m.parent))
          (λ f. (λ j e h. no_link (sym last ∙ e), λ j e x v. no_link (sym (f v) ∙ e)), λ h v. alone (is_none m.parent) refl (λ j e. h.1 j e last v)))
        where
          alone : (c : Bool) → is_none m.parent ≡ c → ((j : ℕ) → link_of m.parent ≡ to j → ⊥) → link_of m.parent ≡ none
          alone true p h = (link_none m.parent).0 p
          alone false p h = absurd (h m.parent.0 (link_some m.parent p))
      by_next k false q =
          let e : link_of m.next ≡ to m.next.0 = link_some m.next q in
          rw (lt-leb n m.next.0 (L.near.next_live i m.next.0 (b, ap in_use k) e).0)
          (says_as (not_say (kind_says (node_at w m.next).kind Free))
          (λ r. (λ j d h. r (rw (← (link_names m.next j d).1) at h), λ j d x v. no_link (sym x ∙ e)), λ h. h.0 m.next.0 e))

      regroup : (m.kind ≡ Free → Says-here) ↔ MergedHere (seen w) i
      regroup = (λ f. record { apart = λ k. (f k).0; sibling = λ k. (f k).1 }, λ h k. (h.apart k, h.sibling k))

  -- Where every slot passes, rule 4 holds; where it holds, every slot passes.
  pub merged_yes : ((i : ℕ) → i < n → merged_at w n i ≡ true) → Merged (seen w) n
  merged_yes p =
      record {
        apart = λ i j lv e k. (here i lv).apart k j e;
        sibling = λ i j lv k e. (here i lv).sibling k j e;
      }
    where
      here : (i : ℕ) → Live (seen w) n i → MergedHere (seen w) i
      here i lv = (merged_at_is i lv.0).0 (p i lv.0)

  pub merged_no : Merged (seen w) n → (i : ℕ) → i < n → merged_at w n i ≡ true
  merged_no M i b =
      (merged_at_is i b).1
      (record {
        apart = λ k j e h. M.apart i j (b, ap in_use k) e k h;
        sibling = λ k j e x v. M.sibling i j (b, ap in_use k) k e x v;
      })

  -- A slot that fails breaks rule 4 itself.
  pub merged_at_breaks : (i : ℕ) → i < n → merged_at w n i ≡ false → MergedHere (seen w) i → ⊥
  merged_at_breaks i b e = fails (merged_at_is i b) e
