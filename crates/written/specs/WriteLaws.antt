-- What is written of an entry: the words, one after another, and how many they are.
-- Assumes nothing.
use Rattle.std.specs.Prelude.{◌≡◌, refl, Bool, not, List, [], ◌∷◌, ◌++◌, ℕ, suc, ◌+◌, ◌*◌, ◌≤◌, get_or, set}
use Rattle.std.proofs.Math.Path.{ap}
use Rattle.std.proofs.Common.{sym, ◌∙◌, add-one, length-append}
use Rattle.std.proofs.Math.Bool.{true, false}
use native.Mathlib.Omega.{arith}
use Rattle.std.proofs.Math.ListN.{length}
use Rattle.std.proofs.lemmas.List.Edits.{sets}
use borrow.Author.Tests.{not-true, not-false}
use Rattle.geometry.specs.Choice.{pick}
use Rattle.geometry.specs.declared.Rectangle.{Rectangle}
use Rattle.slots.specs.Slots.{slot, same_kind}
use Rattle.table.specs.Table.{node_at}
use Rattle.tickets.specs.Tickets.{ticket_of}
use Rattle.tickets.specs.declared.AllocId.{AllocId}
use Rattle.slots.specs.declared.AllocIndex.{AllocIndex}
use Rattle.slots.specs.declared.Node.{Node}
use Rattle.slots.specs.declared.NodeKind.{NodeKind}
use Rattle.slots.specs.declared.NodeKind.TheVariants.{Alloc}
use Rattle.lists.specs.Lists.{Bag, bag}
use Rattle.steps.specs.Spares.{of_kind}
use Rattle.written.specs.Entries.{corners, entry_of, entry_at}
use Rattle.written.specs.Fills.{entry_words, wrote, Enterable}

-- Nothing written, and words written after words.
pub wrote_nothing : (l : List ℕ) → bag l 0 ≡ wrote (bag l 0) []
unfolding wrote
wrote_nothing l = refl

pub wrote_then : (b : Bag) (vs us : List ℕ) → wrote (wrote b vs) us ≡ wrote b (vs ++ us)
unfolding wrote
wrote_then b vs us = rw (stores b.table b.len vs, length-append vs us) (ap (bag (sets b.table b.len (vs ++ us))) (omega arith))
  where
    stores : (l : List ℕ) (i : ℕ) (vs : List ℕ) → sets (sets l i vs) (i + length vs) us ≡ sets l i (vs ++ us)
    stores l i [] = ap (λ (k : ℕ). sets l k us) (omega arith)
    stores l i (v ∷ vs) = ap (λ (k : ℕ). sets (sets (set l i v) (suc i) vs) k us) (omega arith) ∙ stores (set l i v) (suc i) vs

-- Four words stored one after another.
pub four_stores : (l : List ℕ) (at a b c d : ℕ) → set (set (set (set l at a) (at + 1) b) (at + 2) c) (at + 3) d ≡ sets l at (a ∷ b ∷ c ∷ d ∷ [])
four_stores l at a b c d =
    let e : at + 1 ≡ suc at = omega arith in
    let f : at + 2 ≡ suc (suc at) = omega arith in
    let g : at + 3 ≡ suc (suc (suc at)) = omega arith in
    rw (e, f, g)

-- An entry: with the ticket first where it is of the Alloc listing, else the corners alone.
module _ (kind : NodeKind) {k : Bool} (is : k ≡ same_kind kind Alloc) (l : List ℕ) (at : ℕ) (t : AllocId) (r : Rectangle) {after : List ℕ} where
  pub ticket_entry : k ≡ true → after ≡ sets (set l at t.0) (at + 1) (corners r) → bag after (at + 5) ≡ wrote (bag l at) (entry_of kind t r)
  unfolding wrote
  ticket_entry e f = rw (sym is ∙ e, f, add-one)

  pub corners_entry : k ≡ false → after ≡ sets l at (corners r) → bag after (at + 4) ≡ wrote (bag l at) (entry_of kind t r)
  unfolding wrote
  corners_entry e f = rw (sym is ∙ e, f)

-- An entry of a kind's listing has as many words as each other one.
pub entry_length : (kind : NodeKind) (t : AllocId) (r : Rectangle) → length (entry_of kind t r) ≡ entry_words kind
entry_length kind t r = go (same_kind kind Alloc)
  where
    go : (b : Bool) → length (pick b (t.0 ∷ r.x0 ∷ r.y0 ∷ r.x1 ∷ r.y1 ∷ []) (r.x0 ∷ r.y0 ∷ r.x1 ∷ r.y1 ∷ [])) ≡ pick b 5 4
    go true = refl
    go false = refl

module _ (w g : List ℕ) (kind : NodeKind) where
  pub entry_at_length : (i : ℕ) → length (entry_at w g kind i) ≡ of_kind w kind i * entry_words kind
  unfolding entry_at of_kind
  entry_at_length i = go (same_kind (node_at w (slot i)).kind kind)
    where
      go : (b : Bool) → length (pick b (entry_of kind (ticket_of (slot i) (get_or g i 0)) (node_at w (slot i)).rect) []) ≡ pick b 1 0 * entry_words kind
      go true = entry_length kind (ticket_of (slot i) (get_or g i 0)) (node_at w (slot i)).rect ∙ omega arith
      go false = omega arith

  -- Slot i, seen and found to be of the kind or not.
  module _ (i : AllocIndex) {m : Node} (node : m ≡ node_at w i) {k : Bool} (is : k ≡ same_kind m.kind kind) (l : List ℕ) (at : ℕ) where
    same_is : same_kind (node_at w i).kind kind ≡ k
    same_is = rw (← node) (sym is)

    pub other_kind : not k ≡ true → bag l at ≡ wrote (bag l at) (entry_at w g kind i.0)
    unfolding wrote entry_at
    other_kind e = rw (same_is ∙ not-true k e) (let z : at + 0 ≡ at = omega arith in rw z)

    module _ (e : not k ≡ false) where
      pub own_kind : {t : AllocId} → t ≡ ticket_of i (get_or g i.0 0) → {b : Bag} → b ≡ wrote (bag l at) (entry_of kind t m.rect) → b ≡ wrote (bag l at) (entry_at w g kind i.0)
      unfolding entry_at
      own_kind {t} f h = h ∙ ap (wrote (bag l at)) entry
        where
          entry : entry_of kind t m.rect ≡ entry_at w g kind i.0
          entry = rw (same_is ∙ not-false k e, f, node)

      pub own_room : Enterable w g kind i.0 (bag l at) → at + entry_words kind ≤ length l
      unfolding entry_at
      own_room h =
          let x = rw (same_is ∙ not-false k e) at h.room in
          omega (arith, entry_length kind (ticket_of i (get_or g i.0 0)) (node_at w i).rect)
