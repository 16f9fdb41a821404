-- DEMAND 1. Whatever tables, sizes or tickets arrive, every call ends, touches only its lent tables and gives an answer from the list. It
-- checks for itself. What stays in the tables after each refusal is written.
--
-- That a call ends, and that it reads and writes nothing but what it is lent, is what the language gives each function that is proved. That it
-- checks for itself is that its contract, `Leaves`, asks nothing of the head and the tables. The rest is stated here.
-- Assumes nothing.
use Rattle.std.specs.Prelude.{◌≡◌, refl, Bool, false, List, [], ◌∷◌, ◌⊎◌, ℕ}
use Rattle.std.proofs.Common.{ap, sym, ◌∙◌, inl, inr, arith}
use Rattle.geometry.specs.Rectangles.{no_rect}
use Rattle.geometry.specs.declared.Rectangle.{Rectangle}
use Rattle.slots.specs.declared.NodeKind.{NodeKind}
use Rattle.tickets.specs.declared.AllocId.{AllocId}
use Rattle.steps.specs.State.{State}
use Rattle.geometry.specs.declared.Size.{Size}
use Rattle.starts.specs.Starts.{start_call, clear_call}
use Rattle.starts.specs.StartWhen.{start_refusal_changes_nothing}
use Rattle.outcomes.specs.Given.{Given}
use Rattle.audit.proofs.AnswerLaws.{answers_once}
use Rattle.lookup.specs.Lookup.{IndexCall}
use Rattle.lookup.specs.LookupWhen.{index_refused}
use Rattle.listings.specs.Listings.{Filled, filled}
use Rattle.views.specs.Views.{ListCall}
use Rattle.views.specs.ViewsWhen.{listing_refused}
use Rattle.empty.specs.Empty.{EmptyCall}
use Rattle.empty.proofs.EmptyWhen.{empty_refused}
use Rattle.allocate.specs.Allocate.{Crop, no_crop, AllocateCall}
use Rattle.allocate.specs.AllocateWhen.{Taken, as_grant, allocate_refusal_changes_nothing, allocate_refusal_changes_lists_alone}
use Rattle.grants.specs.Grants.{no_ticket}
use Rattle.granted.specs.Terms.{Refuses}
use Rattle.deallocate.specs.DeallocateWhen.{deallocate_refused}
use Rattle.grow.specs.GrowWhen.{grow_refused}
use Rattle.promises.specs.Calls.{Call, Start, Reset, Clear, Allocate, Deallocate, Grow, Index, Listing, IsEmpty, Leaves, answers_of, OneOf, ChangesNothing}
use Rattle.promises.specs.Answered.{checked_answers, start_answers, allocated_answers, ticket_answers, deallocated_answers, grown_answers, list_answers}

-- What an equation of outcomes says of the answer and of the tables.
pub after_of : {A : Type 0} {o p : Given A} → o ≡ p → (o.answer ≡ p.answer) × (o.after ≡ p.after)
after_of e = (ap (λ g. g.answer) e, ap (λ g. g.after) e)

value_of : {A : Type 0} {o p : Given A} → o ≡ p → o.value ≡ p.value
value_of e = ap (λ g. g.value) e

crop_same : {c : Crop} → c.ticket ≡ no_ticket → c.rect ≡ no_rect → c ≡ no_crop
crop_same a b = rw (a, b)

-- AN ANSWER FROM THE LIST. Every call answers 0 or one of its own refusals.
pub answer_is_listed : (c : Call) (s : State) (k : ℕ) (t : State) → Leaves c s k t → OneOf k (answers_of c)
unfolding clear_call
answer_is_listed (Start z o) s k t e = rw (after_of e).0 (start_answers z o s)
answer_is_listed (Reset z o) s k t e = rw (after_of e).0 (start_answers z o s)
answer_is_listed Clear s k t e = rw (after_of e).0 (start_answers s.head.sheet s.head.options s)
answer_is_listed (Allocate z) s k t (c, call) = checked_answers (4 ∷ 5 ∷ 6 ∷ 7 ∷ []) call (allocated_answers s z)
answer_is_listed (Deallocate i) s k t call = checked_answers (8 ∷ 9 ∷ 10 ∷ []) call (deallocated_answers s i)
answer_is_listed (Grow z) s k t call = checked_answers (11 ∷ 3 ∷ 7 ∷ []) call (grown_answers s z)
answer_is_listed (Index i) s k t (r, call) = checked_answers (8 ∷ 9 ∷ 10 ∷ []) call (ticket_answers s.words s.generations s.head.count i)
answer_is_listed (Listing kind out) s k t (f, call) = checked_answers (12 ∷ []) call (list_answers s.words s.generations kind s.head.count out)
answer_is_listed IsEmpty s k t (b, call) = checked_answers [] call (inl refl)

-- ONE OUTCOME. The answer and the head and every table after the call are settled by the head and the tables before it and by what the call is given.
pub outcome_is_one : (c : Call) (s : State) (k l : ℕ) (t u : State) → Leaves c s k t → Leaves c s l u → (k ≡ l) × (t ≡ u)
outcome_is_one (Start z o) s k l t u e f = after_of (e ∙ sym f)
outcome_is_one (Reset z o) s k l t u e f = after_of (e ∙ sym f)
outcome_is_one Clear s k l t u e f = after_of (e ∙ sym f)
outcome_is_one (Allocate z) s k l t u (_, a) (_, b) = after_of (answers_once a b)
outcome_is_one (Deallocate i) s k l t u a b = after_of (answers_once a b)
outcome_is_one (Grow z) s k l t u a b = after_of (answers_once a b)
outcome_is_one (Index i) s k l t u (_, a) (_, b) = after_of (answers_once a b)
outcome_is_one (Listing kind out) s k l t u (_, a) (_, b) = after_of (answers_once a b)
outcome_is_one IsEmpty s k l t u (_, a) (_, b) = after_of (answers_once a b)

-- AFTER A REFUSAL the head and every table are as they were, but after 6 and 7 of allocate.
pub refusal_changes_nothing : (c : Call) (s : State) (k : ℕ) (t : State) → Leaves c s k t → ChangesNothing c k → t ≡ s
unfolding clear_call
refusal_changes_nothing (Start z o) s k t e d =
    (after_of e).1 ∙ start_refusal_changes_nothing z o s (rw (after_of e).0 at d)
refusal_changes_nothing (Reset z o) s k t e d = (after_of e).1 ∙ start_refusal_changes_nothing z o s (rw (after_of e).0 at d)
refusal_changes_nothing Clear s k t e d = (after_of e).1 ∙ start_refusal_changes_nothing s.head.sheet s.head.options s (rw (after_of e).0 at d)
refusal_changes_nothing (Allocate z) s k t (_, call) d = (after_of (allocate_refusal_changes_nothing s z call d.0 d.1 d.2)).1
refusal_changes_nothing (Deallocate i) s k t call d = (after_of (deallocate_refused s i call d)).1
refusal_changes_nothing (Grow z) s k t call d = (after_of (grow_refused s z call d)).1
refusal_changes_nothing (Index i) s k t (_, call) d = (after_of (index_refused s i call d)).1
refusal_changes_nothing (Listing kind out) s k t (_, call) d = (after_of (listing_refused kind s out call d)).1
refusal_changes_nothing IsEmpty s k t (_, call) d = (after_of (empty_refused call d)).1

-- AFTER 6 AND 7 of allocate the slots, the generations and the head, but for the list lengths, are as they were, and the lists as the search left
-- them, the chosen entry still in; zero ticket and rectangle come back.
pub refusal_6_and_7_leaves_the_search : (z : Size) (s : State) (o : Given Crop) → AllocateCall z s o → (o.answer ≡ 6) ⊎ (o.answer ≡ 7) → Taken s z (λ e. Refuses s e (as_grant o))
refusal_6_and_7_leaves_the_search z s o call = allocate_refusal_changes_lists_alone s z call

-- A REFUSAL HANDS OVER NOTHING: zero ticket and rectangle of allocate, the zero rectangle of the lookup, the count 0 of a listing, whose lent
-- list stays as it was, and "no" for emptiness.
pub refused_allocate_gives_no_crop : (z : Size) (s : State) (o : Given Crop) → AllocateCall z s o → (o.answer ≡ 0 → ⊥) → o.value ≡ no_crop
refused_allocate_gives_no_crop z s o call d = by_answer (answer_is_listed (Allocate z) s o.answer o.after (o.value, call))
  where
    same : Taken s z (λ e. Refuses s e (as_grant o)) → o.value ≡ no_crop
    same (e, _, r) = crop_same r.ticket r.rect

    by_answer : OneOf o.answer (answers_of (Allocate z)) → o.value ≡ no_crop
    by_answer (inl e) = absurd (d e)
    by_answer (inr (inl e)) = value_of (allocate_refusal_changes_nothing s z call d (λ q. omega arith) (λ q. omega arith))
    by_answer (inr (inr (inl e))) = value_of (allocate_refusal_changes_nothing s z call d (λ q. omega arith) (λ q. omega arith))
    by_answer (inr (inr (inr (inl e)))) = value_of (allocate_refusal_changes_nothing s z call d (λ q. omega arith) (λ q. omega arith))
    by_answer (inr (inr (inr (inr (inl e))))) = value_of (allocate_refusal_changes_nothing s z call d (λ q. omega arith) (λ q. omega arith))
    by_answer (inr (inr (inr (inr (inr (inl e)))))) = same (refusal_6_and_7_leaves_the_search z s o call (inl e))
    by_answer (inr (inr (inr (inr (inr (inr (inl e))))))) = same (refusal_6_and_7_leaves_the_search z s o call (inr e))
    by_answer (inr (inr (inr (inr (inr (inr (inr e))))))) = elim e [ ]

pub refused_lookup_gives_no_rect : (i : AllocId) (s : State) (o : Given Rectangle) → IndexCall s i o → (o.answer ≡ 0 → ⊥) → o.value ≡ no_rect
refused_lookup_gives_no_rect i s o call d = value_of (index_refused s i call d)

pub refused_listing_gives_nothing : (kind : NodeKind) (out : List ℕ) (s : State) (o : Given Filled) → ListCall kind s out o → (o.answer ≡ 0 → ⊥) → o.value ≡ filled 0 out
refused_listing_gives_nothing kind out s o call d = value_of (listing_refused kind s out call d)

pub refused_emptiness_says_no : (s : State) (o : Given Bool) → EmptyCall s o → (o.answer ≡ 0 → ⊥) → o.value ≡ false
refused_emptiness_says_no s o call d = value_of (empty_refused call d)
