-- A link names one slot, or none. Assumes nothing.
use Rattle.std.specs.Prelude.{◌≡◌, ℕ}
use Rattle.std.proofs.Common.{arith}
use Rattle.sound.specs.View.{none, to}

pub to_inj : {i j : ℕ} → to i ≡ to j → i ≡ j
to_inj p = cc

pub no_link : {i : ℕ} → none ≡ to i → ⊥
no_link p = let z : ◌≡◌ {A = ℕ} 0 1 = cc in omega arith
