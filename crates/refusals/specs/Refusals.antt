-- THE ANSWERS of a call whose outcome is a result: the paper's number of each refusal, 0 where the call is done, and what is handed over.
-- Assumes nothing.
use Rattle.std.specs.Prelude.{ℕ, Result, Ok, Err}
use Rattle.refusals.specs.declared.Refusal.{Refusal}
use Rattle.refusals.specs.declared.Refusal.TheVariants.{TableLength, NotSound, Setup, NotPositive, TooLarge, NoSpace, NoSlots, NoSuchSlot, Generation, NotAlloc, Smaller, ListLength}

-- The paper's number of a refusal.
abbrev pub number_of : Refusal → ℕ
number_of TableLength = 1
number_of NotSound = 2
number_of Setup = 3
number_of NotPositive = 4
number_of TooLarge = 5
number_of NoSpace = 6
number_of NoSlots = 7
number_of NoSuchSlot = 8
number_of Generation = 9
number_of NotAlloc = 10
number_of Smaller = 11
number_of ListLength = 12

-- What a call answers: 0 where it is done.
abbrev pub answer_of : {A : Type 0} → Result A Refusal → ℕ
answer_of (Ok _) = 0
answer_of (Err e) = number_of e

-- What a call hands over: a refusal hands over what stands for nothing.
abbrev pub handed : {A : Type 0} → A → Result A Refusal → A
handed _ (Ok x) = x
handed none (Err _) = none
