-- What a cut that is carried out does to the tickets: one is given out, and every other is live or not as it was.
-- Assumes nothing.
use Prim.Native.Nat.{ℕ, ◌<◌}
use Rattle.std.specs.Prelude.{◌≡◌, ◌⊎◌, List, ◌∷◌, get_or}
use Rattle.std.proofs.Common.{sym, ◌∙◌}
use Rattle.std.proofs.Math.Path.{ap}
use Rattle.std.proofs.Math.Logic.{inl, inr, ⊎_elim}
use native.Mathlib.Omega.{arith}
use Rattle.cuts.specs.Cuts.{at_corner}
use Rattle.cuts.specs.PieceLaws.{Inside}
use Rattle.geometry.specs.declared.Bucket.{Bucket}
use Rattle.geometry.specs.declared.Extent.{Extent}
use Rattle.slots.specs.Slots.{slot}
use Rattle.table.specs.Table.{node_at}
use Rattle.tickets.specs.TicketLaws.{ticket_together, ticket_slot, ticket_generation}
use Rattle.tickets.specs.Tickets.{slot_of, generation_of}
use Rattle.tickets.specs.declared.AllocId.{AllocId}
use Rattle.slots.specs.declared.AllocIndex.{AllocIndex}
use Rattle.slots.specs.declared.NodeKind.{NodeKind}
use Rattle.slots.specs.declared.NodeKind.TheVariants.{Container, Alloc, Free}
use Rattle.buckets.specs.FreeLists.{Lists}
use Rattle.sound.specs.LiveTickets.{LiveTicket}
use Rattle.steps.specs.State.{State}
use Rattle.sound.specs.View.{Seen, seen, in_use}
use Rattle.sound.specs.Sound.{Sound}
use Rattle.forest.specs.Pigeon.{In, In-dec}
use Rattle.cover.proofs.Covered.{leaves_apart}
use Rattle.cover.specs.Sums.{rect_at, InRect}
use Rattle.grants.specs.Grants.{Grant}
use Rattle.granted.specs.Carved.{Piece, Became, request, box, free}
use Rattle.granted.specs.SoundFacts.{Picked}
use Rattle.granted.specs.Given.{Given}
use Rattle.granted.specs.Terms.{GivesOut}

-- An Alloc slot is no Container and not Free.
not_box : {k : NodeKind} → k ≡ Alloc → k ≡ Container → ⊥
not_box e f = let z : ◌≡◌ {A = ℕ} 0 1 = cc in omega arith

not_free : {k : NodeKind} → k ≡ Alloc → k ≡ Free → ⊥
not_free e f = let z : ◌≡◌ {A = ℕ} 0 1 = cc in omega arith

module _ (s : State) (S : Sound s) (e : Extent) (l : Lists) (i : AllocIndex) (b : Bucket) (k : ℕ) (p : Picked s e l i b k)
    (a : ℕ) (new : List ℕ) (pieces : List Piece) (g : Grant) (G : Given s i.0 a new pieces g)
    (at : g.rect ≡ at_corner (node_at s.words i).rect e.width e.height) where
  abbrev gen : ℕ
  gen = get_or g.after.generations a 0

  -- The request's slot is below n, and its number is small.
  a_below : a < g.after.head.count
  a_below =
      let grow = G.taken.grow in
      ⊎_elim {C = a < g.after.head.count} (λ q. omega (arith, p.live.0)) (G.taken.below a) G.carving.alloc.0

  a_small : a < 16777216
  a_small = omega (arith, a_below, G.sound.rule1.fits, G.lent.few)

  ticket_at_lem : (slot_of g.ticket).0 ≡ a
  ticket_at_lem = ap (λ (i : AllocIndex). i.0) (ap slot_of G.ticket ∙ ticket_slot (slot a) gen a_small)

  ticket_gen : generation_of g.ticket ≡ gen
  ticket_gen = ap generation_of G.ticket ∙ ticket_generation (slot a) gen a_small

  -- A slot that was Alloc is not written.
  alloc_other : (j : ℕ) → j < s.head.count → (seen s.words j).kind ≡ Alloc → In j (i.0 ∷ new) → ⊥
  unfolding seen
  alloc_other j h y m = ⊎_elim (λ q. not_free y (rw q p.free)) (λ x. G.taken.idle j x (h, ap in_use y)) m

  rect_in : Inside g.rect (rect_at s i.0)
  unfolding seen
  rect_in = let f = p.fits in rw at (record { left = omega arith; wide = omega arith; right = f.wide; top = omega arith; tall = omega arith; bottom = f.tall })

  -- No Alloc slot's rectangle has a point of the one returned.
  apart : (j : ℕ) → j < s.head.count → (seen s.words j).kind ≡ Alloc → (x y : ℕ) → InRect x y (rect_at s j) → InRect x y g.rect → ⊥
  unfolding seen
  apart j h y u v m o =
      let z = rect_in in
      leaves_apart S j i.0 (h, inl y) (p.live.0, inr p.free) (λ q. alloc_other j h y (inl q)) u v m (omega arith, omega arith, omega arith, omega arith)

  -- A live ticket stays live with its rectangle,
  stays : (t : AllocId) → LiveTicket s t → LiveTicket g.after t × (rect_at g.after (slot_of t).0 ≡ rect_at s (slot_of t).0)
  unfolding seen
  stays t v =
      let j = (slot_of t).0 in
      let out = alloc_other j v.below v.alloc in
      let same = G.carving.others j out in
      let grow = G.taken.grow in (
        record {
          below = omega (arith, v.below);
          present = G.others j (λ x. out (inr x)) ∙ v.present;
          alloc = ap (λ (m : Seen). m.kind) same ∙ v.alloc;
        },
        ap (λ (m : Seen). m.rect) same,
      )

  -- and one that is live now was, or is the one given out.
  only : (t : AllocId) → LiveTicket g.after t → (t ≡ g.ticket) ⊎ LiveTicket s t
  unfolding seen
  only t v = go (In-dec j (i.0 ∷ new))
    where
      j : ℕ
      j = (slot_of t).0

      written : Became (seen g.after.words) a pieces j → t ≡ g.ticket
      written (request q x) = sym (ticket_together t) ∙ (rw (← v.present, q) (sym G.ticket))
      written (box x) = absurd (not_box v.alloc x)
      written (free x m) = absurd (not_free v.alloc x)

      go : Dec (In j (i.0 ∷ new)) → (t ≡ g.ticket) ⊎ LiveTicket s t
      go (yes m) = inl (written (G.carving.written j m))
      go (no m) =
          let same = G.carving.others j m in
          inr (record {
            below = G.taken.counted j v.below (λ x. m (inr x));
            present = sym (G.others j (λ x. m (inr x))) ∙ v.present;
            alloc = sym (ap (λ (m : Seen). m.kind) same) ∙ v.alloc;
          })

  -- THE TICKET GIVEN OUT.
  pub gives_out : GivesOut s e g
  unfolding seen
  gives_out = record {
    live = record {
      below = rw ticket_at_lem a_below;
      present = rw (ticket_at_lem, ticket_gen);
      alloc = rw ticket_at_lem G.carving.alloc.1;
    };
    new = λ v. alloc_other a (rw ticket_at_lem at v.below) (rw ticket_at_lem at v.alloc) G.carving.alloc.0;
    own = rw ticket_at_lem G.carving.alloc.2;
    wide = rw at (omega arith);
    tall = rw at (omega arith);
    inside = (i.0, (p.live.0, record { free = p.free; wide = let f = p.fits in omega arith; tall = let f = p.fits in omega arith }), rect_in);
    apart = apart;
    others = stays;
    only = only;
    generations = λ j v. G.others j (λ m. G.taken.idle j m v);
    same = G.same;
  }
