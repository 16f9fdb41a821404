-- WHEN EACH ANSWER IS GIVEN, in the paper's words, by the listings; what comes with 0; and that a refusal gives nothing and changes nothing.
-- Each speaks of any outcome that meets the call's contract; there is no other (`answers_once`).
-- Assumes nothing.
use Rattle.std.specs.Prelude.{◌≡◌, Bool, ◌↔◌, List, ℕ, ◌≤◌, ◌<◌, length, get_or}
use Rattle.std.proofs.Math.Path.{refl}
use Rattle.std.proofs.Common.{ap, sym, ◌∙◌, arith, leb-true, leb-false}
use Rattle.std.proofs.Math.Bool.{true, false}
use Rattle.std.proofs.Math.Dec.{leb}
use Rattle.geometry.specs.Choice.{pick}
use Rattle.slots.specs.Slots.{slot}
use Rattle.table.specs.Table.{node_at}
use Rattle.tickets.specs.Tickets.{ticket_of, slot_of}
use Rattle.tickets.specs.TicketLaws.{ticket_together, ticket_slot, ticket_generation}
use Rattle.tickets.specs.declared.AllocId.{AllocId}
use Rattle.slots.specs.declared.AllocIndex.{AllocIndex}
use Rattle.slots.specs.declared.NodeKind.{NodeKind}
use Rattle.slots.specs.declared.NodeKind.TheVariants.{Alloc}
use Rattle.sound.specs.LiveTickets.{LiveTicket}
use Rattle.steps.specs.Spares.{count_kind}
use Rattle.steps.specs.State.{State}
use Rattle.sound.specs.Sound.{Sound}
use Rattle.lent.specs.Lent.{LentOf}
use Rattle.outcomes.specs.Given.{Given, given}
use Rattle.audit.proofs.AnswerLaws.{answers_1, answers_2, answers_other, answers_sound, answers_refused, on_sound}
use Rattle.listings.specs.Listings.{entries, Filled, filled, written_over, list_answer, list_filled}
use Rattle.views.specs.Views.{listing, ListCall}

-- TICKETS. The ticket that the Alloc listing has for a slot is live,
pub listed_ticket_is_live : (s : State) → LentOf s → Sound s → (i : ℕ) → i < s.head.count → (node_at s.words (slot i)).kind ≡ Alloc
    → LiveTicket s (ticket_of (slot i) (get_or s.generations i 0))
listed_ticket_is_live s L S i b k =
    let fits = S.rule1.fits in
    let small : i < 16777216 = omega (arith, L.few) in
    let same = ap (λ (x : AllocIndex). x.0) (ticket_slot (slot i) (get_or s.generations i 0) small) in
    record { below = rw same b; present = rw same (sym (ticket_generation (slot i) (get_or s.generations i 0) small)); alloc = rw same k }

-- and a live ticket is the one that the Alloc listing has for its slot.
pub live_ticket_is_listed : (s : State) (t : AllocId) → LiveTicket s t → ticket_of (slot_of t) (get_or s.generations (slot_of t).0 0) ≡ t
live_ticket_is_listed s t l = rw l.present (ticket_together t)

-- LISTINGS, of Alloc and of Free slots.
module _ (kind : NodeKind) (s : State) (out : List ℕ) where
  abbrev all : List ℕ
  all = entries s.words s.generations kind s.head.count

  by_room : (P : Given Filled → Type 0) → (length out < length all → P (given 12 (filled 0 out) s))
      → (length all ≤ length out → P (given 0 (filled (count_kind s.words kind s.head.count) (written_over all out)) s)) → P (listing kind s out)
  unfolding list_answer list_filled
  by_room P short done = go (leb (length all) (length out)) refl
    where
      go : (b : Bool) → leb (length all) (length out) ≡ b
          → P (given (pick b 0 12) (pick b (filled (count_kind s.words kind s.head.count) (written_over all out)) (filled 0 out)) s)
      go true e = done (leb-true (length all) (length out) e)
      go false e = short (leb-false (length all) (length out) e)

  module _ {o : Given Filled} (call : ListCall kind s out o) where
    -- 1: a table length is outside its range.
    pub listing_gives_1 : (o.answer ≡ 1) ↔ (LentOf s → ⊥)
    listing_gives_1 = answers_1 call (by_room (λ (g : Given Filled). g.answer ≡ 1 → ⊥) (λ _ e. omega arith) (λ _ e. omega arith))

    -- 2: the lengths are in range and the tables are not sound.
    pub listing_gives_2 : (o.answer ≡ 2) ↔ (LentOf s × (Sound s → ⊥))
    listing_gives_2 = answers_2 call (by_room (λ (g : Given Filled). g.answer ≡ 2 → ⊥) (λ _ e. omega arith) (λ _ e. omega arith))

    -- 12: the tables are sound, of lengths in range, and the lent list is shorter than the listing.
    pub listing_gives_12 : (o.answer ≡ 12) ↔ (LentOf s × Sound s × (length out < length (entries s.words s.generations kind s.head.count)))
    listing_gives_12 =
        on_sound (answers_other call 12 (λ e. omega arith) (λ e. omega arith))
        (λ _ _. by_room (λ (g : Given Filled). (g.answer ≡ 12) ↔ (length out < length all)) (λ h. (λ _. h, λ _. refl))
        (λ h. (λ e. absurd (omega arith), λ k. absurd (omega arith))))

    -- 0: it isn't.
    pub listing_gives_0 : (o.answer ≡ 0) ↔ (LentOf s × Sound s × (length (entries s.words s.generations kind s.head.count) ≤ length out))
    listing_gives_0 =
        on_sound (answers_other call 0 (λ e. omega arith) (λ e. omega arith))
        (λ _ _. by_room (λ (g : Given Filled). (g.answer ≡ 0) ↔ (length all ≤ length out)) (λ h. (λ e. absurd (omega arith), λ k. absurd (omega arith)))
        (λ h. (λ _. h, λ _. refl)))

    -- With 0 comes the listing, in slot order, with its count; places past it keep their bytes, and no table changes.
    pub listing_gives_all : o.answer ≡ 0
        → o ≡ given 0 (filled (count_kind s.words kind s.head.count) (written_over (entries s.words s.generations kind s.head.count) out)) s
    listing_gives_all z =
        let h = (answers_other call 0 (λ e. omega arith) (λ e. omega arith)).0 z in
        answers_sound call h.0 h.1
        ∙ by_room
        (λ (g : Given Filled). g.answer ≡ 0 → g ≡ given 0 (filled (count_kind s.words kind s.head.count) (written_over all out)) s)
        (λ _ e. absurd (omega arith)) (λ _ _. refl) h.2

    -- A refusal gives the count 0, leaves the lent list as it was and changes nothing.
    pub listing_refused : (o.answer ≡ 0 → ⊥) → o ≡ given o.answer (filled 0 out) s
    listing_refused =
        answers_refused call
        (by_room (λ (g : Given Filled). (g.answer ≡ 0 → ⊥) → g ≡ given g.answer (filled 0 out) s) (λ _ _. refl) (λ _ d. absurd (d refl)))
