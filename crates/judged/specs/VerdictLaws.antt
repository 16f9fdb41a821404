-- Laws of verdicts: what a search for a bad place finds, and that no rule has the number that stands for none.
-- Assumes nothing.
use Rattle.std.specs.Prelude.{◌≡◌, refl, Bool, true, false, ℕ, ltb, Option, Some, None}
use Rattle.std.specs.Option.{unwrap_or}
use Rattle.std.proofs.Common.{arith}
use Rattle.geometry.specs.Choice.{pick}
use Rattle.below.specs.Below.{first_from, first_bad}
use Rattle.judged.specs.declared.Rule.{Rule}
use Rattle.judged.specs.declared.Rule.TheVariants.{Numbers, SpareChain, Links, Merging, Places, Lists, Last}
use Rattle.judged.specs.Verdicts.{lowest_bad, rule_number}

-- What a search finds, or 0, is the lowest bad place.
pub bad_place : (p : ℕ → Bool) (n : ℕ) {r : Option ℕ} → r ≡ first_bad p n → unwrap_or r 0 ≡ lowest_bad p n
unfolding lowest_bad
bad_place p n {r} e = rw e (go (ltb (first_from p 0 n) n))
  where
    go : (b : Bool) → unwrap_or (pick b (Some (first_from p 0 n)) None) 0 ≡ pick b (first_from p 0 n) 0
    go true = refl
    go false = refl

-- No rule has the number 0.
pub rule_some : (r : Rule) → rule_number r ≡ 0 → ⊥
rule_some Numbers e = absurd (omega arith)
rule_some SpareChain e = absurd (omega arith)
rule_some Links e = absurd (omega arith)
rule_some Merging e = absurd (omega arith)
rule_some Places e = absurd (omega arith)
rule_some Lists e = absurd (omega arith)
rule_some Last e = absurd (omega arith)
