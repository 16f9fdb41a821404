-- A verdict of the check: a rule, and the lowest place that breaks it; and the verdict that a result of the check stands for.
-- Assumes nothing.
use Rattle.std.specs.Prelude.{Bool, ℕ, ltb, Result, Ok, Err}
use Rattle.geometry.specs.Choice.{pick}
use Rattle.below.specs.Below.{first_from}
use Rattle.judged.specs.declared.Broken.{Broken}
use Rattle.judged.specs.declared.Rule.{Rule}
use Rattle.judged.specs.declared.Rule.TheVariants.{Numbers, SpareChain, Links, Merging, Places, Lists, Last}

-- THE PLACES. The lowest of the first n at which a test fails, or 0 where none does.
unfoldable pub lowest_bad : (ℕ → Bool) → ℕ → ℕ
lowest_bad p n = pick (ltb (first_from p 0 n) n) (first_from p 0 n) 0

-- The number of the lowest-numbered rule that is broken, 0 for none, and the lowest place that breaks it, 0 where no single place does.
pub record Verdict : Type 0 where
  pub rule : ℕ
  pub place : ℕ

abbrev pub verdict : ℕ → ℕ → Verdict
verdict r k = record { rule = r; place = k }

-- The rules' numbers.
abbrev pub rule_number : Rule → ℕ
rule_number Numbers = 1
rule_number SpareChain = 2
rule_number Links = 3
rule_number Merging = 4
rule_number Places = 5
rule_number Lists = 6
rule_number Last = 7

-- The verdict that a result stands for.
abbrev pub rule_of : Result (Unit {0}) Broken → ℕ
rule_of (Ok _) = 0
rule_of (Err b) = rule_number b.rule

abbrev pub place_of : Result (Unit {0}) Broken → ℕ
place_of (Ok _) = 0
place_of (Err b) = b.place

abbrev pub verdict_of : Result (Unit {0}) Broken → Verdict
verdict_of r = verdict (rule_of r) (place_of r)
