-- The laws by which deallocate is proved.
-- Assumes nothing.
use Rattle.std.specs.Prelude.{◌≡◌, ℕ}
use Rattle.std.proofs.Common.{sym, ◌∙◌, arith}
use Rattle.slots.specs.declared.AllocIndex.{AllocIndex}
use Rattle.tickets.specs.Tickets.{slot_of}
use Rattle.tickets.specs.declared.AllocId.{AllocId}
use Rattle.steps.specs.State.{State}
use Rattle.sound.specs.LiveTickets.{LiveTicket}
use Rattle.outcomes.specs.Given.{nothing, given}
use Rattle.audit.specs.Audited.{Checked}
use Rattle.audit.proofs.AnswerLaws.{leaves_done}
use Rattle.live.specs.Live.{ticket_answer}
use Rattle.live.proofs.TicketLaws.{ticket_cases}
use Rattle.frees.specs.Frees.{released}
use Rattle.freed.proofs.Many.{alloc_seen}
use Rattle.releasing.specs.Releasable.{Releasable}
use Rattle.deallocate.specs.Deallocate.{DeallocateCall}

-- A ticket that is answered 0 is live.
pub answered_live : (s : State) (t : AllocId) → ticket_answer s.words s.generations s.head.count t ≡ 0 → LiveTicket s t
answered_live s t =
    ticket_cases s.words s.generations s.head.count t (λ a _. a ≡ 0 → LiveTicket s t) (λ _ e. absurd (omega arith)) (λ _ _ e. absurd (omega arith))
    (λ _ _ _ e. absurd (omega arith)) (λ b p k _. record { below = b; present = p; alloc = k })

module _ (s : State) (t : AllocId) {k a : ℕ} (c : Checked s k) (z : k ≡ 0) (told : a ≡ ticket_answer s.words s.generations s.head.count t) where
  module _ (live : a ≡ 0) {i : AllocIndex} (is : i ≡ slot_of t) where
    -- The ticket's slot can be freed,
    pub live_releasable : Releasable s.head s.words s.small s.medium s.large i
    live_releasable =
        let h = c.gives_0.0 z in
        let v = answered_live s t (sym told ∙ live) in
        rw is (record { generations = s.generations; lent = h.0; sound = h.1; below = v.below; alloc = alloc_seen v })

    -- and is.
    pub leaves_freed : {u : State} → u ≡ released s i → DeallocateCall s t (given 0 nothing u)
    leaves_freed e = leaves_done (released s (slot_of t)) c z told live (rw (← is) e)
