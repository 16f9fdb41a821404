-- What is known of an answer where the outcome is known. Assumes nothing.
use Rattle.std.specs.Prelude.{◌≡◌, ℕ, Result, Ok, Err}
use Rattle.std.proofs.Common.{refl, sym, ap, ◌∙◌, arith}
use Rattle.refusals.specs.Refusals.{number_of, answer_of}
use Rattle.refusals.specs.declared.Refusal.{Refusal}
use Rattle.refusals.specs.declared.Refusal.TheVariants.{TableLength, NotSound, Setup, NotPositive, TooLarge, NoSpace, NoSlots, NoSuchSlot, Generation, NotAlloc, Smaller, ListLength}

-- No refusal has the number 0.
pub refused_not_0 : (e : Refusal) → number_of e ≡ 0 → ⊥
refused_not_0 TableLength = λ h. omega (arith, h)
refused_not_0 NotSound = λ h. omega (arith, h)
refused_not_0 Setup = λ h. omega (arith, h)
refused_not_0 NotPositive = λ h. omega (arith, h)
refused_not_0 TooLarge = λ h. omega (arith, h)
refused_not_0 NoSpace = λ h. omega (arith, h)
refused_not_0 NoSlots = λ h. omega (arith, h)
refused_not_0 NoSuchSlot = λ h. omega (arith, h)
refused_not_0 Generation = λ h. omega (arith, h)
refused_not_0 NotAlloc = λ h. omega (arith, h)
refused_not_0 Smaller = λ h. omega (arith, h)
refused_not_0 ListLength = λ h. omega (arith, h)

-- A call that is done answers 0, and one that is refused doesn't.
pub done_0 : {A : Type 0} {r : Result A Refusal} {x : A} → r ≡ Ok x → answer_of r ≡ 0
done_0 is = ap answer_of is

pub refused_answer : {A : Type 0} {r : Result A Refusal} {e : Refusal} → r ≡ Err e → answer_of r ≡ 0 → ⊥
refused_answer {e = e} is z = refused_not_0 e (sym (ap answer_of is) ∙ z)
