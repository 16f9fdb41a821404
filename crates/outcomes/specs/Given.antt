-- WHAT A CALL LEAVES: its answer, what it hands over, and the head and every table, whole.
-- Assumes nothing.
use Rattle.std.specs.Prelude.{ℕ}
use Rattle.steps.specs.State.{State}

pub record Given (A : Type 0) : Type 0 where
  pub answer : ℕ
  pub value : A
  pub after : State

abbrev pub given : {A : Type 0} → ℕ → A → State → Given A
given k v s = record { answer = k; value = v; after = s }

-- What a call hands over that gives its answer alone.
abbrev pub nothing : Unit {0}
nothing = tt
