-- The table of first children: what enter_firsts leaves in a table of none-links.
-- Assumes nothing.
use Rattle.std.specs.Prelude.{◌≡◌, false, List, length}
use Prim.Native.Nat.{ℕ, ◌≤◌, ◌<◌}
use Rattle.std.proofs.Math.ListN.{get_or}
use Rattle.slots.specs.Slots.{slot, is_none}
use Rattle.sound.specs.View.{none, seen}
use Rattle.sound.specs.Rules.{FirstChild}

-- The table says none of a slot that has no first child, and one of its first children of any other.
pub record Firsts (w fs : List ℕ) (n : ℕ) : Type 0 where
  pub room : n ≤ length fs
  pub some : (i c : ℕ) → i < n → FirstChild (seen w) n i c → is_none (slot (get_or fs i 0)) ≡ false
  pub is_first_lem : (i : ℕ) → i < n → is_none (slot (get_or fs i 0)) ≡ false → FirstChild (seen w) n i (get_or fs i 0)
