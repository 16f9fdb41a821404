-- DEMAND 2. Start, clear, reset, allocate, deallocate, grow and the listings do what the paper's rules say, down to slot and ticket.
--
-- The rules are the models: `start_call`, `clear_call`, `allocated`, `deallocated`, `grown_to`, `lookup`, `listing`. That a call does what its model says, on the answer, what
-- it hands over, the head and every table place, is its contract. Here: that the model is all that a call does, and when it gives which answer.
-- Assumes nothing.
use Rattle.std.specs.Prelude.{◌≡◌, Bool, true, List, ◌↔◌, ℕ}
use Rattle.std.proofs.Common.{ap}
use Rattle.geometry.specs.declared.AllocatorOptions.{AllocatorOptions}
use Rattle.geometry.specs.declared.Rectangle.{Rectangle}
use Rattle.geometry.specs.declared.Size.{Size}
use Rattle.slots.specs.declared.NodeKind.{NodeKind}
use Rattle.tickets.specs.declared.AllocId.{AllocId}
use Rattle.steps.specs.State.{State}
use Rattle.sound.specs.Sound.{Sound}
use Rattle.lent.specs.Lent.{LentOf}
use Rattle.starts.specs.Starts.{start_call, clear_call}
use Rattle.starts.specs.StartWhen.{start_gives_1, start_gives_3, start_gives_0}
use Rattle.outcomes.specs.Given.{Given}
use Rattle.audit.proofs.AnswerLaws.{answers_sound}
use Rattle.lookup.specs.Lookup.{lookup, IndexCall}
use Rattle.lookup.specs.LookupWhen.{index_gives_1, index_gives_2, index_gives_8, index_gives_9, index_gives_10, index_gives_0}
use Rattle.listings.specs.Listings.{Filled}
use Rattle.views.specs.Views.{listing, ListCall}
use Rattle.views.specs.ViewsWhen.{listing_gives_1, listing_gives_2, listing_gives_12, listing_gives_0}
use Rattle.empty.specs.Empty.{WholeFree, EmptyCall}
use Rattle.empty.proofs.EmptyWhen.{empty_gives_1, empty_gives_2, empty_gives_0, empty_gives_yes}
use Rattle.allocate.specs.Allocate.{Crop, allocated, leaves, AllocateCall}
use Rattle.allocate.specs.AllocateWhen.{allocate_gives_1, allocate_gives_2, allocate_gives_4, allocate_gives_5, allocate_gives_6, allocate_gives_7, allocate_gives_0}
use Rattle.deallocate.specs.Deallocate.{deallocated, DeallocateCall}
use Rattle.deallocate.specs.DeallocateWhen.{deallocate_gives_1, deallocate_gives_2, deallocate_gives_8, deallocate_gives_9, deallocate_gives_10, deallocate_gives_0}
use Rattle.grow.specs.Grow.{grown_to, GrowCall}
use Rattle.grow.specs.GrowWhen.{grow_gives_1, grow_gives_2, grow_gives_11, grow_gives_3, grow_gives_7, grow_gives_0}
use Rattle.promises.specs.Calls.{Start, Clear, Allocate, Deallocate, Grow, Index, Listing, IsEmpty, Leaves}
use Rattle.promises.specs.When.{StartAnswers, AllocateAnswers, TicketAnswers, GrowAnswers, ListingAnswers, EmptyAnswers, OnSound}

-- ON SOUND TABLES a call does what its model says. (Start, reset and clear do on all tables: their contract is that equation.)
module _ (s : State) (L : LentOf s) (S : Sound s) where
  pub allocate_is_its_model : (z : Size) (o : Given Crop) → AllocateCall z s o → o ≡ leaves (allocated s z)
  allocate_is_its_model z o call = answers_sound call L S

  pub deallocate_is_its_model : (i : AllocId) (o : Given (Unit {0})) → DeallocateCall s i o → o ≡ deallocated s i
  deallocate_is_its_model i o call = answers_sound call L S

  pub grow_is_its_model : (z : Size) (o : Given (Unit {0})) → GrowCall s z o → o ≡ grown_to s z
  grow_is_its_model z o call = answers_sound call L S

  pub lookup_is_its_model : (i : AllocId) (o : Given Rectangle) → IndexCall s i o → o ≡ lookup s i
  lookup_is_its_model i o call = answers_sound call L S

  pub listing_is_its_model : (kind : NodeKind) (out : List ℕ) (o : Given Filled) → ListCall kind s out o → o ≡ listing kind s out
  listing_is_its_model kind out o call = answers_sound call L S

-- "Yes" for emptiness exactly when one Free slot is the whole sheet.
pub yes_exactly_when_empty : (s : State) (o : Given Bool) → EmptyCall s o → (o.value ≡ true) ↔ OnSound s (WholeFree s)
yes_exactly_when_empty s o call = empty_gives_yes call

-- EXACTLY WHEN: the tables of answers in When.antt hold.
pub start_answers_when : (z : Size) (o : AllocatorOptions) (s : State) (k : ℕ) (t : State) → Leaves (Start z o) s k t → StartAnswers z o s k
start_answers_when z o s k t e =
    rw (ap (λ (x : Given (Unit {0})). x.answer) e) (record { gives_1 = start_gives_1 z o s; gives_3 = start_gives_3 z o s; gives_0 = start_gives_0 z o s })

pub clear_answers_when : (s : State) (k : ℕ) (t : State) → Leaves Clear s k t → StartAnswers s.head.sheet s.head.options s k
unfolding clear_call
clear_answers_when s k t e = start_answers_when s.head.sheet s.head.options s k t e

pub allocate_answers_when : (z : Size) (s : State) (k : ℕ) (t : State) → Leaves (Allocate z) s k t → AllocateAnswers z s k
allocate_answers_when z s k t (_, call) = record {
  checks = record { gives_1 = allocate_gives_1 s z call; gives_2 = allocate_gives_2 s z call };
  gives_4 = allocate_gives_4 s z call;
  gives_5 = allocate_gives_5 s z call;
  gives_6 = allocate_gives_6 s z call;
  gives_7 = allocate_gives_7 s z call;
  gives_0 = allocate_gives_0 s z call;
}

pub deallocate_answers_when : (i : AllocId) (s : State) (k : ℕ) (t : State) → Leaves (Deallocate i) s k t → TicketAnswers i s k
deallocate_answers_when i s k t call = record {
  checks = record { gives_1 = deallocate_gives_1 s i call; gives_2 = deallocate_gives_2 s i call };
  gives_8 = deallocate_gives_8 s i call;
  gives_9 = deallocate_gives_9 s i call;
  gives_10 = deallocate_gives_10 s i call;
  gives_0 = deallocate_gives_0 s i call;
}

pub grow_answers_when : (z : Size) (s : State) (k : ℕ) (t : State) → Leaves (Grow z) s k t → GrowAnswers z s k
grow_answers_when z s k t call = record {
  checks = record { gives_1 = grow_gives_1 s z call; gives_2 = grow_gives_2 s z call };
  gives_11 = grow_gives_11 s z call;
  gives_3 = grow_gives_3 s z call;
  gives_7 = grow_gives_7 s z call;
  gives_0 = grow_gives_0 s z call;
}

pub lookup_answers_when : (i : AllocId) (s : State) (k : ℕ) (t : State) → Leaves (Index i) s k t → TicketAnswers i s k
lookup_answers_when i s k t (_, call) = record {
  checks = record { gives_1 = index_gives_1 s i call; gives_2 = index_gives_2 s i call };
  gives_8 = index_gives_8 s i call;
  gives_9 = index_gives_9 s i call;
  gives_10 = index_gives_10 s i call;
  gives_0 = index_gives_0 s i call;
}

pub listing_answers_when : (kind : NodeKind) (out : List ℕ) (s : State) (k : ℕ) (t : State) → Leaves (Listing kind out) s k t → ListingAnswers kind out s k
listing_answers_when kind out s k t (_, call) = record {
  checks = record { gives_1 = listing_gives_1 kind s out call; gives_2 = listing_gives_2 kind s out call };
  gives_12 = listing_gives_12 kind s out call;
  gives_0 = listing_gives_0 kind s out call;
}

pub empty_answers_when : (s : State) (k : ℕ) (t : State) → Leaves IsEmpty s k t → EmptyAnswers s k
empty_answers_when s k t (_, call) = record { checks = record { gives_1 = empty_gives_1 call; gives_2 = empty_gives_2 call }; gives_0 = empty_gives_0 call }
