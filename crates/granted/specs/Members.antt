-- What holds of each member of a list of slots.
-- Assumes nothing.
use Rattle.std.specs.Prelude.{ℕ, ◌≡◌, List, [], ◌∷◌}
use Rattle.std.proofs.Common.{sym, subst, ⊎_elim}
use Rattle.forest.specs.Pigeon.{In}

-- P holds of each.
abbrev pub AllOf : (ℕ → Type 0) → List ℕ → Type 0
AllOf P [] = Unit {0}
AllOf P (x ∷ xs) = P x × AllOf P xs

pub all_of : (P : ℕ → Type 0) (xs : List ℕ) → AllOf P xs → (j : ℕ) → In j xs → P j
all_of P [] h j m = absurd m
all_of P (x ∷ xs) h j m = ⊎_elim {C = P j} (λ e. subst P (sym e) h.0) (all_of P xs h.1 j) m

-- A slot that differs from each is no member.
pub none_of : (s : ℕ) (xs : List ℕ) → AllOf (λ x. s ≡ x → ⊥) xs → In s xs → ⊥
none_of s [] h m = m
none_of s (x ∷ xs) h m = ⊎_elim h.0 (none_of s xs h.1) m
