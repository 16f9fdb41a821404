-- EVERY PUBLIC CALL, and what its contract says of it: on the head and the tables s it answers k and leaves them as t.
-- Assumes nothing.
use Rattle.std.specs.Prelude.{◌≡◌, Bool, List, [], ◌∷◌, ◌⊎◌, ℕ}
use Rattle.geometry.specs.declared.AllocatorOptions.{AllocatorOptions}
use Rattle.geometry.specs.declared.Rectangle.{Rectangle}
use Rattle.geometry.specs.declared.Size.{Size}
use Rattle.slots.specs.declared.NodeKind.{NodeKind}
use Rattle.tickets.specs.declared.AllocId.{AllocId}
use Rattle.steps.specs.State.{State}
use Rattle.starts.specs.Starts.{start_call, clear_call}
use Rattle.outcomes.specs.Given.{nothing, given}
use Rattle.lookup.specs.Lookup.{IndexCall}
use Rattle.listings.specs.Listings.{Filled}
use Rattle.views.specs.Views.{ListCall}
use Rattle.empty.specs.Empty.{EmptyCall}
use Rattle.allocate.specs.Allocate.{Crop, AllocateCall}
use Rattle.deallocate.specs.Deallocate.{DeallocateCall}
use Rattle.grow.specs.Grow.{GrowCall}

-- A public call, with what it is given beside the head and the tables. A listing is of a kind of slot, Alloc or Free, and is lent a list.
pub data Call : Type 0 where
  Start : Size → AllocatorOptions → Call
  Reset : Size → AllocatorOptions → Call
  Clear : Call
  Allocate : Size → Call
  Deallocate : AllocId → Call
  Grow : Size → Call
  Index : AllocId → Call
  Listing : NodeKind → List ℕ → Call
  IsEmpty : Call

-- What the contract of the call says of its answer and of the head and the tables after it; what it hands over beside is some value.
abbrev pub Leaves : Call → State → ℕ → State → Type 0
Leaves (Start z o) s k t = given k nothing t ≡ start_call z o s
Leaves (Reset z o) s k t = given k nothing t ≡ start_call z o s
Leaves Clear s k t = given k nothing t ≡ clear_call s
Leaves (Allocate z) s k t = (c : Crop) × AllocateCall z s (given k c t)
Leaves (Deallocate i) s k t = DeallocateCall s i (given k nothing t)
Leaves (Grow z) s k t = GrowCall s z (given k nothing t)
Leaves (Index i) s k t = (r : Rectangle) × IndexCall s i (given k r t)
Leaves (Listing kind out) s k t = (f : Filled) × ListCall kind s out (given k f t)
Leaves IsEmpty s k t = (b : Bool) × EmptyCall s (given k b t)

-- Calls one after another.
pub data Run : State → State → Type 0 where
  Done : {s : State} → Run s s
  Then : {s t u : State} (c : Call) (k : ℕ) → Leaves c s k t → Run t u → Run s u

-- The numbers that a call may answer: done, and its refusals in their order.
abbrev pub answers_of : Call → List ℕ
answers_of (Start z o) = 0 ∷ 1 ∷ 3 ∷ []
answers_of (Reset z o) = 0 ∷ 1 ∷ 3 ∷ []
answers_of Clear = 0 ∷ 1 ∷ 3 ∷ []
answers_of (Allocate z) = 0 ∷ 1 ∷ 2 ∷ 4 ∷ 5 ∷ 6 ∷ 7 ∷ []
answers_of (Deallocate i) = 0 ∷ 1 ∷ 2 ∷ 8 ∷ 9 ∷ 10 ∷ []
answers_of (Grow z) = 0 ∷ 1 ∷ 2 ∷ 11 ∷ 3 ∷ 7 ∷ []
answers_of (Index i) = 0 ∷ 1 ∷ 2 ∷ 8 ∷ 9 ∷ 10 ∷ []
answers_of (Listing kind out) = 0 ∷ 1 ∷ 2 ∷ 12 ∷ []
answers_of IsEmpty = 0 ∷ 1 ∷ 2 ∷ []

abbrev pub OneOf : ℕ → List ℕ → Type 0
OneOf k [] = ⊥
OneOf k (a ∷ rest) = (k ≡ a) ⊎ OneOf k rest

-- A refusal that changes nothing: any but 6 and 7 of allocate.
abbrev pub ChangesNothing : Call → ℕ → Type 0
ChangesNothing (Start z o) k = k ≡ 0 → ⊥
ChangesNothing (Reset z o) k = k ≡ 0 → ⊥
ChangesNothing Clear k = k ≡ 0 → ⊥
ChangesNothing (Allocate z) k = (k ≡ 0 → ⊥) × (k ≡ 6 → ⊥) × (k ≡ 7 → ⊥)
ChangesNothing (Deallocate i) k = k ≡ 0 → ⊥
ChangesNothing (Grow z) k = k ≡ 0 → ⊥
ChangesNothing (Index i) k = k ≡ 0 → ⊥
ChangesNothing (Listing kind out) k = k ≡ 0 → ⊥
ChangesNothing IsEmpty k = k ≡ 0 → ⊥

-- A call that leaves a ticket alone: any but start, reset and clear, and a deallocate of that ticket.
abbrev pub Spares : Call → AllocId → Type 0
Spares (Start z o) i = ⊥
Spares (Reset z o) i = ⊥
Spares Clear i = ⊥
Spares (Allocate z) i = Unit {0}
Spares (Deallocate j) i = i ≡ j → ⊥
Spares (Grow z) i = Unit {0}
Spares (Index j) i = Unit {0}
Spares (Listing kind out) i = Unit {0}
Spares IsEmpty i = Unit {0}
