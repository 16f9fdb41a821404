-- What an allocate leaves, case by case: nothing chosen, too few spare slots, or the cut carried out.
-- Assumes nothing.
use Rattle.std.specs.Prelude.{ℕ, ◌*◌, ◌≤◌, ◌<◌, ◌≡◌, List, [], get_or}
use Rattle.std.proofs.Math.Path.{refl, ap}
use Rattle.std.proofs.Common.{inl, inr, arith}
use Rattle.std.proofs.Math.ListN.{length}
use Rattle.geometry.specs.declared.Bucket.{Bucket}
use Rattle.cuts.specs.declared.Cut.{Cut}
use Rattle.geometry.specs.declared.Extent.{Extent}
use Rattle.geometry.specs.declared.Rectangle.{Rectangle}
use Rattle.slots.specs.Slots.{slot}
use Rattle.table.specs.Table.{node_at}
use Rattle.tickets.specs.Tickets.{ticket_of}
use Rattle.slots.specs.declared.AllocIndex.{AllocIndex}
use Rattle.buckets.specs.FreeLists.{Lists}
use Rattle.steps.specs.Spares.{spare_slots}
use Rattle.steps.specs.State.{State, lists_of}
use Rattle.steps.specs.declared.Head.{Head}
use Rattle.sound.specs.View.{seen}
use Rattle.sound.specs.Rules.{NotEmpty}
use Rattle.sound.specs.Sound.{Sound}
use Rattle.forest.specs.Pigeon.{In}
use Rattle.changes.specs.Swaps.{Taken}
use Rattle.lent.specs.Lent.{LentOf}
use Rattle.grants.specs.Carves.{news_of, carved}
use Rattle.grants.specs.Grants.{Grant, taken}
use Rattle.grants.specs.Shapes.{slots_needed}
use Rattle.grants.specs.declared.CutSlots.{CutSlots}
use Rattle.grants.specs.declared.Shape.{Shape}
use Rattle.grants.specs.declared.Shape.TheVariants.{Exact, Along, AlongLeft, Across, AcrossLeft}
use Rattle.granted.specs.Members.{AllOf}
use Rattle.granted.specs.News.{new_ones, sound_taking, news_taken}
use Rattle.granted.specs.CutShapes.{CutsAs}
use Rattle.granted.specs.Carved.{Piece, slots_of, Carving}
use Rattle.granted.specs.TableCut.{pieces_of, length_carved, table_carved}
use Rattle.granted.specs.SoundFacts.{setup_at, Picked, lent_few, lent_slots, lent_room}
use Rattle.granted.specs.Stocked.{Stocked, removal_stocks, pieces_stock}
use Rattle.granted.specs.Outcomes.{outcome_lent, cut_sound}

-- What a cut that is carried out leaves: slot i is carved, the request's slot being a, and only the new slots' generations change.
pub record Given (s : State) (i a : ℕ) (new : List ℕ) (pieces : List Piece) (g : Grant) : Type 0 where
  pub answer : g.answer ≡ 0
  pub sound : Sound g.after
  pub lent : LentOf g.after
  pub taken : Taken (seen s.words) s.head.count g.after.head.count new
  pub carving : Carving (seen s.words) (seen g.after.words) s.head.count g.after.head.count s.head.root.0 i a new pieces g.rect
  pub others : (j : ℕ) → (In j new → ⊥) → get_or g.after.generations j 0 ≡ get_or s.generations j 0
  pub same : (g.after.head.sheet ≡ s.head.sheet) × (g.after.head.options ≡ s.head.options) × (g.after.head.root ≡ s.head.root)
  pub ticket : g.ticket ≡ ticket_of (slot a) (get_or g.after.generations a 0)

-- The pieces of a shape are among its new slots.
pieces_below : (m : ℕ) (shape : Shape) (n : CutSlots) (c : Cut) → ((j : ℕ) → In j (new_ones shape n) → j < m) → AllOf (λ x. x < m) (slots_of (pieces_of shape n c))
pieces_below m Exact n c h = tt
pieces_below m Along n c h = (h _ (inl refl), tt)
pieces_below m AlongLeft n c h = (h _ (inr (inr (inl refl))), (h _ (inl refl), tt))
pieces_below m Across n c h = (h _ (inr (inl refl)), tt)
pieces_below m AcrossLeft n c h = (h _ (inr (inr (inr (inl refl)))), (h _ (inl refl), tt))

module _ (s : State) (L : LentOf s) (S : Sound s) (e : Extent) (l : Lists)
    (K : Stocked s.words s.head.count (setup_at s) (lists_of s) l []) (i : AllocIndex) (b : Bucket) (k : ℕ) (p : Picked s e l i b k) where
  pub cut_given : (shape : Shape) (q : Rectangle) (c : Cut) → NotEmpty q → CutsAs shape (node_at s.words i).orientation (node_at s.words i).rect q c
      → slots_needed shape ≤ spare_slots s.words (length s.generations) s.head.count
      → let n = news_of shape s.words s.generations s.head i in
      Given s i.0 n.slots.alloc.0 (new_ones shape n.slots) (pieces_of shape n.slots c) (taken shape s (setup_at s) l i b k q c)
  unfolding taken
  cut_given shape q c some cut enough =
      let n = news_of shape s.words s.generations s.head i in
      let w = carved shape s.words i n.slots q c in
      let T = news_taken L.few (sound_taking s S) i shape n refl enough in
      let C = table_carved s.words s.generations s.head (lent_slots s L) (lent_few s L) S.rule3 S.rule4 S.rule5 i p.live p.free S.rule1.fits q some shape n refl T c cut in
      let words = length_carved shape s.words i n.slots q c in
      let fits = T.fits in
      let slots : n.head.count * 8 ≤ length w = rw words (omega (arith, lent_slots s L)) in
      let K' = pieces_stock w n.head.count (setup_at s) (lists_of s) slots (rw words (lent_few s L)) (rw words (lent_room s L)) shape n.slots c
      (removal_stocks K T.taken C b k p.place p.entry) (pieces_below n.head.count shape n.slots c T.taken.below) C.pieces_hold in
      record {
        answer = refl;
        sound = cut_sound w S T p.live C K';
        lent = outcome_lent s n.head w n.generations _ L words T.bytes K'.filed.tables;
        taken = T.taken;
        carving = C;
        others = T.others;
        same = (ap (λ (z : Head). z.sheet) T.head, ap (λ (z : Head). z.options) T.head, ap (λ (z : Head). z.root) T.head);
        ticket = refl;
      }
