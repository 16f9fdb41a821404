-- WHEN EACH ANSWER IS GIVEN, in the paper's words, by the lookup; what comes with 0; and that a refusal gives nothing and changes
-- nothing. Each speaks of any outcome that meets the call's contract; there is no other (`answers_once`).
-- Assumes nothing.
use Rattle.std.specs.Prelude.{◌≡◌, refl, ◌↔◌, ◌≤◌, ◌<◌, get_or}
use Rattle.std.proofs.Common.{◌∙◌, arith}
use Rattle.geometry.specs.Rectangles.{no_rect}
use Rattle.geometry.specs.declared.Rectangle.{Rectangle}
use Rattle.table.specs.Table.{node_at}
use Rattle.tickets.specs.Tickets.{slot_of, generation_of}
use Rattle.tickets.specs.declared.AllocId.{AllocId}
use Rattle.slots.specs.declared.NodeKind.TheVariants.{Alloc}
use Rattle.sound.specs.LiveTickets.{LiveTicket}
use Rattle.steps.specs.State.{State}
use Rattle.sound.specs.Sound.{Sound}
use Rattle.lent.specs.Lent.{LentOf}
use Rattle.outcomes.specs.Given.{Given, given}
use Rattle.audit.proofs.AnswerLaws.{answers_1, answers_2, answers_other, answers_sound, answers_refused, on_sound}
use Rattle.lookup.specs.Lookup.{lookup, IndexCall}
use Rattle.live.proofs.TicketLaws.{ticket_cases}

module _ (s : State) (t : AllocId) where
  by_ticket : (P : Given Rectangle → Type 0) → (s.head.count ≤ (slot_of t).0 → P (given 8 no_rect s))
      → ((slot_of t).0 < s.head.count → (get_or s.generations (slot_of t).0 0 ≡ generation_of t → ⊥) → P (given 9 no_rect s))
      → ((slot_of t).0 < s.head.count → get_or s.generations (slot_of t).0 0 ≡ generation_of t → ((node_at s.words (slot_of t)).kind ≡ Alloc → ⊥) → P (given 10 no_rect s))
      → (LiveTicket s t → P (given 0 (node_at s.words (slot_of t)).rect s)) → P (lookup s t)
  by_ticket P eight nine ten live =
      ticket_cases s.words s.generations s.head.count t (λ a r. P (given a r s)) eight nine ten
      (λ b p k. live (record { below = b; present = p; alloc = k }))

  module _ {o : Given Rectangle} (call : IndexCall s t o) where
    -- 1: a table length is outside its range.
    pub index_gives_1 : (o.answer ≡ 1) ↔ (LentOf s → ⊥)
    index_gives_1 =
        answers_1 call
        (by_ticket (λ (g : Given Rectangle). g.answer ≡ 1 → ⊥) (λ _ e. omega arith) (λ _ _ e. omega arith) (λ _ _ _ e. omega arith) (λ _ e. omega arith))

    -- 2: the lengths are in range and the tables are not sound.
    pub index_gives_2 : (o.answer ≡ 2) ↔ (LentOf s × (Sound s → ⊥))
    index_gives_2 =
        answers_2 call
        (by_ticket (λ (g : Given Rectangle). g.answer ≡ 2 → ⊥) (λ _ e. omega arith) (λ _ _ e. omega arith) (λ _ _ _ e. omega arith) (λ _ e. omega arith))

    -- 8: the tables are sound, of lengths in range, and the ticket's slot is not below n.
    pub index_gives_8 : (o.answer ≡ 8) ↔ (LentOf s × Sound s × (s.head.count ≤ (slot_of t).0))
    index_gives_8 =
        on_sound (answers_other call 8 (λ e. omega arith) (λ e. omega arith))
        (λ _ _. by_ticket (λ (g : Given Rectangle). (g.answer ≡ 8) ↔ (s.head.count ≤ (slot_of t).0)) (λ h. (λ _. h, λ _. refl))
        (λ b _. (λ e. absurd (omega arith), λ h. absurd (omega arith))) (λ b _ _. (λ e. absurd (omega arith), λ h. absurd (omega arith)))
        (λ l. (λ e. absurd (omega arith), λ h. absurd (omega (arith, l.below)))))

    -- 9: its slot is below n, and its generation differs.
    pub index_gives_9 : (o.answer ≡ 9) ↔ (LentOf s × Sound s × (((slot_of t).0 < s.head.count) × (get_or s.generations (slot_of t).0 0 ≡ generation_of t → ⊥)))
    index_gives_9 =
        on_sound (answers_other call 9 (λ e. omega arith) (λ e. omega arith))
        (λ _ _. by_ticket (λ (g : Given Rectangle). (g.answer ≡ 9) ↔ (((slot_of t).0 < s.head.count) × (get_or s.generations (slot_of t).0 0 ≡ generation_of t → ⊥)))
        (λ h. (λ e. absurd (omega arith), λ p. absurd (omega (arith, p.0)))) (λ b d. (λ _. (b, d), λ _. refl))
        (λ _ p _. (λ e. absurd (omega arith), λ h. absurd (h.1 p))) (λ l. (λ e. absurd (omega arith), λ h. absurd (h.1 l.present))))

    -- 10: its slot is below n, its generation is the present one, and its slot is not Alloc.
    pub index_gives_10 : (o.answer ≡ 10)
        ↔ (LentOf s × Sound s × (((slot_of t).0 < s.head.count) × (get_or s.generations (slot_of t).0 0 ≡ generation_of t) × ((node_at s.words (slot_of t)).kind ≡ Alloc → ⊥)))
    index_gives_10 =
        on_sound (answers_other call 10 (λ e. omega arith) (λ e. omega arith))
        (λ _ _. by_ticket
        (λ (g : Given Rectangle). (g.answer ≡ 10)
        ↔ (((slot_of t).0 < s.head.count) × (get_or s.generations (slot_of t).0 0 ≡ generation_of t) × ((node_at s.words (slot_of t)).kind ≡ Alloc → ⊥)))
        (λ h. (λ e. absurd (omega arith), λ p. absurd (omega (arith, p.0)))) (λ _ d. (λ e. absurd (omega arith), λ h. absurd (d h.1)))
        (λ b p k. (λ _. (b, p, k), λ _. refl)) (λ l. (λ e. absurd (omega arith), λ h. absurd (h.2 l.alloc))))

    -- 0: the ticket is live.
    pub index_gives_0 : (o.answer ≡ 0) ↔ (LentOf s × Sound s × LiveTicket s t)
    index_gives_0 =
        on_sound (answers_other call 0 (λ e. omega arith) (λ e. omega arith))
        (λ _ _. by_ticket (λ (g : Given Rectangle). (g.answer ≡ 0) ↔ LiveTicket s t) (λ h. (λ e. absurd (omega arith), λ l. absurd (omega (arith, l.below))))
        (λ _ d. (λ e. absurd (omega arith), λ l. absurd (d l.present))) (λ _ _ d. (λ e. absurd (omega arith), λ l. absurd (d l.alloc)))
        (λ l. (λ _. l, λ _. refl)))

    -- A live ticket's rectangle is given, and nothing changes.
    pub index_gives_rect : o.answer ≡ 0 → o ≡ given 0 (node_at s.words (slot_of t)).rect s
    index_gives_rect z =
        let h = (answers_other call 0 (λ e. omega arith) (λ e. omega arith)).0 z in
        answers_sound call h.0 h.1
        ∙ by_ticket (λ (g : Given Rectangle). g.answer ≡ 0 → g ≡ given 0 (node_at s.words (slot_of t)).rect s) (λ _ e. absurd (omega arith))
        (λ _ _ e. absurd (omega arith)) (λ _ _ _ e. absurd (omega arith)) (λ _ _. refl) h.2

    -- A refusal gives the zero rectangle and changes nothing.
    pub index_refused : (o.answer ≡ 0 → ⊥) → o ≡ given o.answer no_rect s
    index_refused =
        answers_refused call
        (by_ticket (λ (g : Given Rectangle). (g.answer ≡ 0 → ⊥) → g ≡ given g.answer no_rect s) (λ _ _. refl) (λ _ _ _. refl) (λ _ _ _ _. refl)
        (λ _ d. absurd (d refl)))
