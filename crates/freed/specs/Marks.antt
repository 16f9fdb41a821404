-- A slot that goes out of use becomes the head of the spare chain, and rule 2 is kept.
-- Assumes nothing.
use Rattle.std.specs.Prelude.{ℕ, ◌≡◌, refl, List, length}
use Rattle.std.proofs.Common.{sym, ◌∙◌, ap, ⊎_elim}
use Rattle.std.proofs.lemmas.Bool.{false≢true}
use Rattle.std.proofs.Math.Decide.{ℕ_discrete}
use Rattle.table.specs.Table.{HasSlot}
use Rattle.stores.specs.Stores.{stored, to_kind, toNext}
use Rattle.stores.proofs.StoreLaws.{length_stored, has_stored, node_at_stored_same}
use Rattle.slots.specs.declared.AllocIndex.{AllocIndex}
use Rattle.slots.specs.declared.NodeKind.TheVariants.{Unused}
use Rattle.steps.specs.Spares.{marked_unused}
use Rattle.sound.specs.View.{Link, to, link_of, Seen, seen, in_use, Live, Dead}
use Rattle.sound.specs.Rules.{onward, Visits, it, later}
use Rattle.sound.specs.Sound.{SpareChain}
use Rattle.forest.specs.Spare.{visits_step}
use Rattle.changes.specs.Stands.{cell}
use Rattle.granted.specs.NewSlots.{there, back, ending}
use Rattle.granted.specs.Writes.{seen_same, seen_other}

-- Marking unused writes one slot: it is Unused, and its next is what was the head of the chain.
module _ (w : List ℕ) (spare b : AllocIndex) where
  pub marked_gone : HasSlot w b
      → seen (marked_unused w spare b) b.0 ≡ cell (seen w b.0).parent (link_of spare) (seen w b.0).prev Unused (seen w b.0).orientation (seen w b.0).rect
  unfolding marked_unused seen
  marked_gone h = seen_same (stored w b (to_kind Unused)) b (toNext spare) (has_stored w b b (to_kind Unused) h) ∙ rw (node_at_stored_same w b (to_kind Unused) h)

  pub marked_other : (j : ℕ) → (j ≡ b.0 → ⊥) → seen (marked_unused w spare b) j ≡ seen w j
  unfolding marked_unused
  marked_other j n = seen_other (stored w b (to_kind Unused)) b (toNext spare) j n ∙ seen_other w b (to_kind Unused) j n

  pub length_marked : length (marked_unused w spare b) ≡ length w
  unfolding marked_unused
  length_marked = simp length_stored

-- A live slot b is Unused now, before the chain that was; the rest is in use or Unused as it was.
module _ (get get' : ℕ → Seen) (n b : ℕ) (l : Link) (S : SpareChain get n l) (lv : Live get n b)
    (gone : (get' b).kind ≡ Unused) (on : (get' b).next ≡ l)
    (same : (j : ℕ) → (j ≡ b → ⊥) → in_use (get' j).kind ≡ in_use (get j).kind)
    (next : (j : ℕ) → Dead get n j → (get' j).next ≡ (get j).next) where
  abbrev f : ℕ → Link
  f j = (get j).next

  abbrev f' : ℕ → Link
  f' j = (get' j).next

  agree : (j : ℕ) → Visits f j l → f' j ≡ f j
  agree j v = next j (S.only j v)

  apart : (j : ℕ) → Dead get n j → j ≡ b → ⊥
  apart j d e = false≢true (sym d.1 ∙ (ap (λ x. in_use (get x).kind) e ∙ lv.1))

  -- RULE 2. The spare chain starts with b now.
  pub mark_spares : SpareChain get' n (to b)
  mark_spares = record { each = λ i d. each i d (ℕ_discrete i b); only = only; ends = onward {i = b} (rw on (ending f f' S.ends agree)) }
    where
      each : (i : ℕ) → Dead get' n i → Dec (i ≡ b) → Visits f' i (to b)
      each i d (yes e) = rw e it
      each i d (no e) = later {i = b} (rw on (there f f' i agree (S.each i (d.0, sym (same i e) ∙ d.1))))

      only : (i : ℕ) → Visits f' i (to b) → Dead get' n i
      only i v =
          ⊎_elim {C = Dead get' n i} (λ e. rw e (lv.0, ap in_use gone))
          (λ u. let d = S.only i (back f f' i S.ends agree (rw on at u)) in (d.0, same i (apart i d) ∙ d.1)) (visits_step v b refl)
