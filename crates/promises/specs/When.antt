-- THE ANSWERS, call by call: each number is given exactly when what stands beside it holds. (The first number in a call's order that applies: what
-- stands beside a number denies the ones before it.)
-- Assumes nothing.
use Rattle.std.specs.Prelude.{◌≡◌, true, false, List, ◌↔◌, ℕ, ◌≤◌, ◌<◌, length, get_or}
use Rattle.geometry.specs.Sides.{valid_setup}
use Rattle.geometry.specs.declared.AllocatorOptions.{AllocatorOptions}
use Rattle.geometry.specs.declared.Size.{Size}
use Rattle.slots.specs.declared.AllocIndex.{AllocIndex}
use Rattle.slots.specs.declared.NodeKind.{NodeKind}
use Rattle.slots.specs.declared.NodeKind.TheVariants.{Alloc}
use Rattle.table.specs.Table.{node_at}
use Rattle.tickets.specs.Tickets.{slot_of, generation_of}
use Rattle.tickets.specs.declared.AllocId.{AllocId}
use Rattle.steps.specs.State.{State}
use Rattle.sound.specs.Sound.{Sound}
use Rattle.sound.specs.LiveTickets.{LiveTicket}
use Rattle.lent.specs.Lent.{LentOf}
use Rattle.listings.specs.Listings.{entries}
use Rattle.granted.specs.Terms.{Roomy, Chooses, TooFew, Enough, spare_at}
use Rattle.grows.specs.Grows.{grow_slots}
use Rattle.grown.specs.Terms.{GrowDue}
use Rattle.grow.specs.Grow.{Smaller}
use Rattle.allocate.specs.AllocateWhen.{NotPositiveSide, TooLargeSide, Taken}

-- Start and reset, of a size and options; clear, of those in the head.
pub record StartAnswers (z : Size) (o : AllocatorOptions) (s : State) (k : ℕ) : Type 0 where
  -- a table length is outside the ranges
  pub gives_1 : (k ≡ 1) ↔ (LentOf s → ⊥)
  -- setup invalid
  pub gives_3 : (k ≡ 3) ↔ (LentOf s × (valid_setup z o ≡ false))
  -- done
  pub gives_0 : (k ≡ 0) ↔ (LentOf s × (valid_setup z o ≡ true))

-- Every other call checks the tables first.
pub record Checks (s : State) (k : ℕ) : Type 0 where
  -- a table length is outside the ranges
  pub gives_1 : (k ≡ 1) ↔ (LentOf s → ⊥)
  -- tables not sound
  pub gives_2 : (k ≡ 2) ↔ (LentOf s × (Sound s → ⊥))

-- The table lengths are in range, the tables are sound, and P holds.
abbrev pub OnSound : State → Type 0 → Type 0
OnSound s P = LentOf s × Sound s × P

pub record AllocateAnswers (z : Size) (s : State) (k : ℕ) : Type 0 where
  pub checks : Checks s k
  -- a requested side is 0 or less
  pub gives_4 : (k ≡ 4) ↔ OnSound s (NotPositiveSide z)
  -- a side rounded up exceeds 2,147,483,647
  pub gives_5 : (k ≡ 5) ↔ OnSound s (TooLargeSide s z)
  -- no Free rectangle is as wide and as tall as the rounded request
  pub gives_6 : (k ≡ 6) ↔ OnSound s (Taken s z (λ e. (x : ℕ) → Roomy s e x → ⊥))
  -- fewer spare slots than the cut of the chosen slot needs
  pub gives_7 : (k ≡ 7) ↔ OnSound s (Taken s z (λ e. (i : AllocIndex) × Chooses s e i × TooFew s e i))
  -- done
  pub gives_0 : (k ≡ 0) ↔ OnSound s (Taken s z (λ e. (i : AllocIndex) × Chooses s e i × Enough s e i))

-- Deallocate and ticket lookup.
pub record TicketAnswers (i : AllocId) (s : State) (k : ℕ) : Type 0 where
  pub checks : Checks s k
  -- ticket's slot is not below n
  pub gives_8 : (k ≡ 8) ↔ OnSound s (s.head.count ≤ (slot_of i).0)
  -- generation differs
  pub gives_9 : (k ≡ 9) ↔ OnSound s (((slot_of i).0 < s.head.count) × (get_or s.generations (slot_of i).0 0 ≡ generation_of i → ⊥))
  -- slot is not Alloc
  pub gives_10 : (k ≡ 10)
      ↔ OnSound s (((slot_of i).0 < s.head.count) × (get_or s.generations (slot_of i).0 0 ≡ generation_of i) × ((node_at s.words (slot_of i)).kind ≡ Alloc → ⊥))
  -- done: the ticket is live
  pub gives_0 : (k ≡ 0) ↔ OnSound s (LiveTicket s i)

pub record GrowAnswers (z : Size) (s : State) (k : ℕ) : Type 0 where
  pub checks : Checks s k
  -- either side smaller than now
  pub gives_11 : (k ≡ 11) ↔ OnSound s (Smaller s z)
  -- setup invalid
  pub gives_3 : (k ≡ 3) ↔ OnSound s ((Smaller s z → ⊥) × (valid_setup z s.head.options ≡ false))
  -- fewer spare slots than the grow needs
  pub gives_7 : (k ≡ 7) ↔ OnSound s ((Smaller s z → ⊥) × (valid_setup z s.head.options ≡ true) × (spare_at s < grow_slots s z))
  -- done
  pub gives_0 : (k ≡ 0) ↔ OnSound s (GrowDue s z)

pub record ListingAnswers (kind : NodeKind) (out : List ℕ) (s : State) (k : ℕ) : Type 0 where
  pub checks : Checks s k
  -- lent list shorter than the listing
  pub gives_12 : (k ≡ 12) ↔ OnSound s (length out < length (entries s.words s.generations kind s.head.count))
  -- done
  pub gives_0 : (k ≡ 0) ↔ OnSound s (length (entries s.words s.generations kind s.head.count) ≤ length out)

pub record EmptyAnswers (s : State) (k : ℕ) : Type 0 where
  pub checks : Checks s k
  -- done
  pub gives_0 : (k ≡ 0) ↔ (LentOf s × Sound s)
