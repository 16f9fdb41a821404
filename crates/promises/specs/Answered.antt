-- Every answer is one of the call's own.
-- Assumes nothing.
use Rattle.std.specs.Prelude.{◌≡◌, refl, Bool, true, false, List, [], ◌∷◌, ◌⊎◌, Result, ℕ, length, leb}
use Rattle.std.proofs.Common.{ap, inl, inr}
use Rattle.geometry.specs.Choice.{pick}
use Rattle.geometry.specs.Rectangles.{no_rect}
use Rattle.geometry.specs.Sides.{valid_setup, setup_of}
use Rattle.geometry.specs.declared.AllocatorOptions.{AllocatorOptions}
use Rattle.geometry.specs.declared.Extent.{Extent}
use Rattle.geometry.specs.declared.Rectangle.{Rectangle}
use Rattle.geometry.specs.declared.Size.{Size}
use Rattle.rounding.specs.RequestLaws.{Outcome, not_positive, too_large, accepted}
use Rattle.rounding.proofs.RequestLaws.{request_outcome}
use Rattle.refusals.specs.declared.Refusal.{Refusal}
use Rattle.slots.specs.declared.NodeKind.{NodeKind}
use Rattle.tickets.specs.declared.AllocId.{AllocId}
use Rattle.tickets.specs.Tickets.{slot_of}
use Rattle.steps.specs.State.{State}
use Rattle.lent.specs.Lent.{lent}
use Rattle.starts.specs.Starts.{start_answer, start_call, clear_call}
use Rattle.outcomes.specs.Given.{Given, nothing, given}
use Rattle.audit.specs.Answers.{after_check, Answers}
use Rattle.audit.proofs.AnswerLaws.{answers_cases, own_answer}
use Rattle.live.specs.Live.{ticket_answer}
use Rattle.live.proofs.TicketLaws.{ticket_cases}
use Rattle.listings.specs.Listings.{entries, list_answer}
use Rattle.grants.specs.Grants.{taken, granted}
use Rattle.granted.proofs.Cases.{grant_cases}
use Rattle.allocate.specs.Allocate.{allocated_for, allocated}
use Rattle.frees.specs.Frees.{released}
use Rattle.deallocate.specs.Deallocate.{deallocated}
use Rattle.grows.specs.Grows.{grown}
use Rattle.grows.specs.Refusals.{grow_answer}
use Rattle.grow.specs.Grow.{grown_to}
use Rattle.grow.specs.GrowLaws.{grow_cases}
use Rattle.promises.specs.Calls.{OneOf}

-- Of a call that checks first: 1, 2, or what it answers on sound tables.
pub checked_answers : {A : Type 0} {none : A} {s : State} {core o : Given A} (ks : List ℕ) → Answers none s core o
    → OneOf core.answer (0 ∷ ks) → OneOf o.answer (0 ∷ 1 ∷ 2 ∷ ks)
checked_answers {A} {none} {s} {core} {o} ks call own =
    answers_cases call (λ (g : Given A). OneOf g.answer (0 ∷ 1 ∷ 2 ∷ ks)) (λ _. inr (inl refl)) (λ _ _. inr (inr (inl refl))) (λ _ _. later own)
  where
    later : OneOf core.answer (0 ∷ ks) → OneOf core.answer (0 ∷ 1 ∷ 2 ∷ ks)
    later (inl e) = inl e
    later (inr h) = inr (inr (inr h))

-- Start, reset and clear.
pub start_answers : (z : Size) (o : AllocatorOptions) (s : State) → OneOf (start_call z o s).answer (0 ∷ 1 ∷ 3 ∷ [])
unfolding start_call
start_answers z o s = go (lent s) (valid_setup z o)
  where
    go : (l v : Bool) → OneOf (start_answer l v z o s).answer (0 ∷ 1 ∷ 3 ∷ [])
    go false v = inr (inl refl)
    go true false = inr (inr (inl refl))
    go true true = inl refl

-- Allocate, on sound tables.
pub allocated_answers : (s : State) (z : Size) → OneOf (allocated s z).answer (0 ∷ 4 ∷ 5 ∷ 6 ∷ 7 ∷ [])
unfolding allocated allocated_for taken
allocated_answers s z = go (request_outcome (setup_of s.head.sheet s.head.options) z)
  where
    go : {r : Result Extent Refusal} → Outcome (setup_of s.head.sheet s.head.options) z r → OneOf (allocated_for s r).answer (0 ∷ 4 ∷ 5 ∷ 6 ∷ 7 ∷ [])
    go (not_positive h) = inr (inl refl)
    go (too_large x y h) = inr (inr (inl refl))
    go (accepted x y h k) =
        grant_cases s _ (λ g. OneOf g.answer (0 ∷ 4 ∷ 5 ∷ 6 ∷ 7 ∷ [])) (λ _. inr (inr (inr (inl refl)))) (λ _ _ _ _ _. inr (inr (inr (inr (inl refl)))))
        (λ _ _ _ _ _. inl refl)

-- A ticket, on sound tables.
pub ticket_answers : (w g : List ℕ) (n : ℕ) (t : AllocId) → OneOf (ticket_answer w g n t) (0 ∷ 8 ∷ 9 ∷ 10 ∷ [])
ticket_answers w g n t =
    ticket_cases w g n t (λ a _. OneOf a (0 ∷ 8 ∷ 9 ∷ 10 ∷ [])) (λ _. inr (inl refl)) (λ _ _. inr (inr (inl refl))) (λ _ _ _. inr (inr (inr (inl refl)))) (λ _ _ _. inl refl)

pub deallocated_answers : (s : State) (t : AllocId) → OneOf (deallocated s t).answer (0 ∷ 8 ∷ 9 ∷ 10 ∷ [])
unfolding after_check
deallocated_answers s t =
    ticket_cases s.words s.generations s.head.count t
    (λ a _. OneOf (after_check nothing s (given 0 nothing (released s (slot_of t))) a).answer (0 ∷ 8 ∷ 9 ∷ 10 ∷ [])) (λ _. inr (inl refl)) (λ _ _. inr (inr (inl refl)))
    (λ _ _ _. inr (inr (inr (inl refl)))) (λ _ _ _. inl refl)

-- Grow, on sound tables.
pub grown_answers : (s : State) (z : Size) → OneOf (grown_to s z).answer (0 ∷ 11 ∷ 3 ∷ 7 ∷ [])
grown_answers s z =
    rw (own_answer s (grown s z) (grow_answer s z))
    (grow_cases s z (λ k. OneOf k (0 ∷ 11 ∷ 3 ∷ 7 ∷ [])) (λ _. inr (inl refl)) (λ _ _. inr (inr (inl refl))) (λ _ _ _. inr (inr (inr (inl refl)))) (λ _. inl refl))

-- A listing, on sound tables.
pub list_answers : (w g : List ℕ) (kind : NodeKind) (n : ℕ) (out : List ℕ) → OneOf (list_answer w g kind n out) (0 ∷ 12 ∷ [])
unfolding list_answer
list_answers w g kind n out = go (leb (length (entries w g kind n)) (length out))
  where
    go : (b : Bool) → OneOf (pick b 0 12) (0 ∷ 12 ∷ [])
    go true = inl refl
    go false = inr (inl refl)
