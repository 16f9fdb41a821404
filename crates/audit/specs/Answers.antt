-- A CALL THAT CHECKS FIRST: 1 or 2 where the check says so, handing over nothing and changing nothing; else what the call does on sound tables.
-- Assumes nothing.
use Rattle.std.specs.Prelude.{◌≡◌, ℕ, eqb}
use Rattle.geometry.specs.Choice.{pick}
use Rattle.steps.specs.State.{State}
use Rattle.outcomes.specs.Given.{Given, given}
use Rattle.audit.specs.Audited.{Checked}

-- What a call gives where the check answers k: that number, unless it is 0, and else what the call does on sound tables.
unfoldable pub after_check : {A : Type 0} → A → State → Given A → ℕ → Given A
after_check nothing s core k = pick (eqb k 0) core (given k nothing s)

-- What a call leaves is what it gives after the check's answer. (Nothing else is: `answers_once`.)
pub record Answers {A : Type 0} (nothing : A) (s : State) (core o : Given A) : Type 0 where
  pub code : ℕ
  pub checked : Checked s code
  pub is : o ≡ after_check nothing s core code
