-- What each write of an allocate leaves, as the rules see the table: some slots are new, every other is as it was.
-- Assumes nothing.
use Rattle.std.specs.Prelude.{ℕ, ◌≤◌, ◌≡◌, false, length}
use Rattle.std.proofs.Common.{sym, ◌∙◌, inl, inr, ⊎_elim, arith}
use Rattle.std.proofs.Math.Path.{ap}
use Rattle.std.proofs.Math.Bool.{true}
use mathlib.Core.List.{List, [], ◌∷◌}
use Rattle.geometry.specs.Choice.{pick_elim}
use Rattle.geometry.specs.declared.Orientation.{Orientation}
use Rattle.geometry.specs.declared.Rectangle.{Rectangle}
use Rattle.slots.specs.Slots.{slot, is_none}
use Rattle.table.specs.Table.{node_at, HasSlot}
use Rattle.stores.specs.Stores.{Store, toNext, toPrev, to_kind, to_rect, to_node, stored, after}
use Rattle.stores.proofs.StoreLaws.{length_stored, has_stored, node_at_stored_same, node_at_stored_other}
use Rattle.slots.specs.declared.AllocIndex.{AllocIndex}
use Rattle.slots.specs.declared.NodeKind.{NodeKind}
use Rattle.slots.specs.declared.NodeKind.TheVariants.{Alloc, Free}
use Rattle.sound.specs.View.{Link, none, to, link_of, Seen, seen, seen_as}
use Rattle.sound.specs.ViewLaws.{to_inj, no_link}
use Rattle.forest.specs.Pigeon.{In}
use Rattle.links.specs.LinkLaws.{link_none, link_some, link_of_slot}
use Rattle.changes.specs.Stands.{cell}
use Rattle.changes.specs.Swaps.{Elsewhere}
use Rattle.changes.specs.Merges.{Rekind}
use Rattle.grants.specs.Carves.{turned, answered_by, split_node, beside, first_node, last_node, pair_under}

-- Slot i turns Alloc, with the rectangle q.
pub record Turned (get get' : ℕ → Seen) (i : ℕ) (q : Rectangle) : Type 0 where
  pub chosen : get' i ≡ cell (get i).parent (get i).next (get i).prev Alloc (get i).orientation q
  pub other : (j : ℕ) → (In j (i ∷ []) → ⊥) → get' j ≡ get j

-- A new Free slot s with the rectangle t becomes slot i's next sibling.
pub record Beside (get get' : ℕ → Seen) (i s : ℕ) (t : Rectangle) : Type 0 where
  pub chosen : get' i ≡ cell (get i).parent (to s) (get i).prev (get i).kind (get i).orientation (get i).rect
  pub split : get' s ≡ cell (get i).parent (get i).next (to i) Free (get i).orientation t
  pub rest : Elsewhere get get' (i ∷ s ∷ []) (get i).next (to s)

-- Two new slots with the parent p, a and then b, which is Free.
pub record Pair (get get' : ℕ → Seen) (p : Link) (o : Orientation) (a : ℕ) (k : NodeKind) (r : Rectangle) (b : ℕ) (t : Rectangle) : Type 0 where
  pub first : get' a ≡ cell p (to b) none k o r
  pub last : get' b ≡ cell p none (to a) Free o t
  pub other : (j : ℕ) → (In j (a ∷ b ∷ []) → ⊥) → get' j ≡ get j

-- Each keeps the table's length.
pub length_turned : (w : List ℕ) (i : AllocIndex) (q : Rectangle) → length (turned w i q) ≡ length w
unfolding turned
length_turned w i q = simp length_stored

pub length_beside : (w : List ℕ) (i s : AllocIndex) (t : Rectangle) → length (beside w i s t) ≡ length w
unfolding beside answered_by
length_beside w i s t =
    pick_elim (λ (u : List ℕ). length u ≡ length w) (is_none (node_at w i).next) _ _ (λ _. simp length_stored) (λ _. simp length_stored)

pub length_pair : (w : List ℕ) (p : AllocIndex) (o : Orientation) (a : AllocIndex) (k : NodeKind) (r : Rectangle) (b : AllocIndex) (t : Rectangle)
    → length (pair_under w p o a k r b t) ≡ length w
unfolding pair_under
length_pair w p o a k r b t = simp length_stored

-- A slot after a store at it, and any other slot.
module _ (w : List ℕ) (i : AllocIndex) (x : Store) where
  pub seen_same : HasSlot w i → seen (stored w i x) i.0 ≡ seen_as (after x (node_at w i))
  unfolding seen
  seen_same h = rw (node_at_stored_same w i x h)

  pub seen_other : (j : ℕ) → (j ≡ i.0 → ⊥) → seen (stored w i x) j ≡ seen w j
  unfolding seen
  seen_other j n = rw (node_at_stored_other w i (slot j) x n)

-- A slot's number is a link to it.
pub slot_link : (w : List ℕ) → length w ≤ 32768 → (i : AllocIndex) → HasSlot w i → link_of i ≡ to i.0
slot_link w few i h = link_of_slot i.0 (omega arith)

-- A kind stored at a slot.
pub kind_writes : (w : List ℕ) (i : AllocIndex) (k : NodeKind) → HasSlot w i → Rekind (seen w) (seen (stored w i (to_kind k))) i.0 k
unfolding seen
kind_writes w i k h = record { chosen = seen_same w i (to_kind k) h; other = λ j m. seen_other w i (to_kind k) j (λ e. m (inl e)) }

pub turn_writes : (w : List ℕ) (i : AllocIndex) (q : Rectangle) → HasSlot w i → Turned (seen w) (seen (turned w i q)) i.0 q
unfolding seen turned
turn_writes w i q h =
    let u = stored w i (to_kind Alloc) in
    record {
      chosen = seen_same u i (to_rect q) (has_stored w i i (to_kind Alloc) h) ∙ rw (node_at_stored_same w i (to_kind Alloc) h);
      other = λ j m. seen_other u i (to_rect q) j (λ e. m (inl e)) ∙ seen_other w i (to_kind Alloc) j (λ e. m (inl e));
    }

pub pair_writes : (w : List ℕ) → length w ≤ 32768 → (p : AllocIndex) (o : Orientation) (a : AllocIndex) (k : NodeKind) (r : Rectangle) (b : AllocIndex) (t : Rectangle)
    → {l : Link} → link_of p ≡ l → HasSlot w a → HasSlot w b → (a.0 ≡ b.0 → ⊥) → Pair (seen w) (seen (pair_under w p o a k r b t)) l o a.0 k r b.0 t
unfolding seen pair_under link_of
pair_writes w few p o a k r b t e ha hb n =
    let u = stored w a (to_node (first_node p b k o r)) in
    let first = to_node (first_node p b k o r) in
    let last = to_node (last_node p a o t) in
    record {
      first = seen_other u b last a.0 n ∙ (seen_same w a first ha ∙ rw (e, slot_link w few b hb));
      last = seen_same u b last (has_stored w a b first hb) ∙ rw (e, slot_link w few a ha);
      other = λ j m. seen_other u b last j (λ e. m (inr (inl e))) ∙ seen_other w a first j (λ e. m (inl e));
    }

-- The next of slot i, if any, is a slot of the table, and neither i nor s.
abbrev pub NextApart : List ℕ → ℕ → ℕ → Type 0
NextApart w i s = (j : ℕ) → (seen w i).next ≡ to j → HasSlot w (slot j) × (j ≡ i → ⊥) × (j ≡ s → ⊥)

module _ (w : List ℕ) (few : length w ≤ 32768) (i s : AllocIndex) (t : Rectangle) (hi : HasSlot w i) (hs : HasSlot w s) (n : s.0 ≡ i.0 → ⊥) where
  -- The table with the new slot, and the link to it.
  here : Store
  here = to_node (split_node (node_at w i) i t)

  one : List ℕ
  one = stored w s here

  two : List ℕ
  two = stored one i (toNext s)

  two_chosen : seen two i.0 ≡ cell (seen w i.0).parent (to s.0) (seen w i.0).prev (seen w i.0).kind (seen w i.0).orientation (seen w i.0).rect
  unfolding seen two one here
  two_chosen =
      seen_same (stored w s here) i (toNext s) (has_stored w s i here hi)
      ∙ rw (node_at_stored_other w s i here (λ e. n (sym e)), slot_link w few s hs)

  two_split : seen two s.0 ≡ cell (seen w i.0).parent (seen w i.0).next (to i.0) Free (seen w i.0).orientation t
  unfolding seen two one here
  two_split = seen_other (stored w s here) i (toNext s) s.0 n ∙ (seen_same w s here hs ∙ rw (slot_link w few i hi))

  two_other : (j : ℕ) → (In j (i.0 ∷ s.0 ∷ []) → ⊥) → node_at two (slot j) ≡ node_at w (slot j)
  unfolding two one here
  two_other j m =
      node_at_stored_other (stored w s here) i (slot j) (toNext s) (λ e. m (inl e)) ∙ node_at_stored_other w s (slot j) here (λ e. m (inr (inl e)))

  pub beside_writes : NextApart w i.0 s.0 → Beside (seen w) (seen (beside w i s t)) i.0 s.0 t
  unfolding beside answered_by seen two one here
  beside_writes next =
      pick_elim (λ (u : List ℕ). Beside (seen w) (seen u) i.0 s.0 t) (is_none (node_at w i).next) two (stored two (node_at w i).next (toPrev s)) last more
    where
      last : is_none (node_at w i).next ≡ true → Beside (seen w) (seen two) i.0 s.0 t
      last e =
          record {
            chosen = two_chosen;
            split = two_split;
            rest = record {
              moved = λ j q. absurd (no_link (sym ((link_none (node_at w i).next).0 e) ∙ q));
              other = λ j m q. ap seen_as (two_other j m);
            };
          }

      more : is_none (node_at w i).next ≡ false → Beside (seen w) (seen (stored two (node_at w i).next (toPrev s))) i.0 s.0 t
      more e =
          let x = (node_at w i).next in
          let to-x = link_some x e in
          let f = next x.0 to-x in
          let apart : In x.0 (i.0 ∷ s.0 ∷ []) → ⊥ = ⊎_elim f.1 (⊎_elim f.2 (λ z. z)) in
          record {
            chosen = seen_other two x (toPrev s) i.0 (λ q. f.1 (sym q)) ∙ two_chosen;
            split = seen_other two x (toPrev s) s.0 (λ q. f.2 (sym q)) ∙ two_split;
            rest = record {
              moved = λ j q. let y : x.0 ≡ j = to_inj (sym to-x ∙ q) in
                  rw (← y) (seen_same two x (toPrev s) (has_stored one i x (toNext s) (has_stored w s x here f.0)) ∙ rw (two_other x.0 apart, slot_link w few s hs));
              other = λ j m q. seen_other two x (toPrev s) j (λ y. q (to-x ∙ ap to (sym y))) ∙ ap seen_as (two_other j m);
            };
          }
