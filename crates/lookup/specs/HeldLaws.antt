-- Where the check said 0, the tables hold their slots and their generations, and the root.
-- Assumes nothing.
use Rattle.std.specs.Prelude.{◌≡◌, ℕ}
use Rattle.std.proofs.Common.{arith}
use Rattle.table.specs.Table.{HasSlot}
use Rattle.steps.specs.State.{State}
use Rattle.audit.specs.Audited.{Checked}
use Rattle.links.specs.Held.{Held}

module _ (s : State) {k : ℕ} (c : Checked s k) (z : k ≡ 0) where
  pub checked_held : Held s.words s.generations s.head.count
  checked_held =
      let h = c.gives_0.0 z in
      let fits = h.1.rule1.fits in
      record { table = record { slots = omega (arith, h.0.eight); few = omega (arith, h.0.few) }; bytes = fits }

  pub checked_root : HasSlot s.words s.head.root
  checked_root = let root = (c.gives_0.0 z).1.rule1.root in omega (arith, checked_held.table.slots)
