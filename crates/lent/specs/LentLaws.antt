-- The test of the lent lengths says yes exactly where they are in range.
-- Assumes nothing.
use Rattle.std.specs.Prelude.{◌≡◌, true, not, ℕ, ◌*◌, eqb, leb}
use Rattle.std.proofs.Common.{arith, eqb-true, leb-true, le-leb, eq-eqb, ne_eqb}
use Rattle.std.proofs.lemmas.Bool.{eqb-false, not-true}
use Rattle.geometry.specs.TestLaws.{and_true_each}
use Rattle.lent.specs.Lent.{list_length, lent_lengths, ListLent, Lent}

list_lent : (g a : ℕ) → list_length g a ≡ true → ListLent g a
unfolding list_length
list_lent g a h =
    let e = and_true_each (leb g a) (leb a 16384) h in
    record { enough = leb-true g a e.0; few = leb-true a 16384 e.1 }

lent_list : (g a : ℕ) → ListLent g a → list_length g a ≡ true
unfolding list_length
lent_list g a l = rw (le-leb g a l.enough, le-leb a 16384 l.few)

-- The test says yes exactly where the lengths are in range.
pub lent_yes : (w g a b c : ℕ) → lent_lengths w g a b c ≡ true → Lent w g a b c
unfolding lent_lengths
lent_yes w g a b c h =
    let e1 = and_true_each (not (eqb g 0)) _ h in
    let e2 = and_true_each (leb g 4096) _ e1.1 in
    let e3 = and_true_each (eqb w (g * 8)) _ e2.1 in
    let e4 = and_true_each (list_length g a) _ e3.1 in
    let e5 = and_true_each (list_length g b) _ e4.1 in
    record {
      some = let z = eqb-false g 0 (not-true (eqb g 0) e1.0) in omega arith;
      few = leb-true g 4096 e2.0;
      eight = eqb-true w (g * 8) e3.0;
      small = list_lent g a e4.0;
      medium = list_lent g b e5.0;
      large = list_lent g c e5.1;
    }

pub yes_lent : (w g a b c : ℕ) → Lent w g a b c → lent_lengths w g a b c ≡ true
unfolding lent_lengths
yes_lent w g a b c l =
    rw (ne_eqb g 0 (λ e. omega (arith, l.some)), le-leb g 4096 l.few, eq-eqb w (g * 8) l.eight, lent_list g a l.small, lent_list g b l.medium, lent_list g c l.large)
