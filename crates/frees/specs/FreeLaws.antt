-- One push, at the end of the climb.
-- Assumes nothing.
use Rattle.std.specs.Prelude.{◌≡◌, refl}
use Rattle.geometry.specs.Sides.{setup_of}
use Rattle.slots.specs.declared.AllocIndex.{AllocIndex}
use Rattle.table.specs.Table.{node_at}
use Rattle.steps.specs.State.{State, lists_of}
use Rattle.entries.specs.Entries.{entered}
use Rattle.frees.specs.Frees.{climb_of, released}

-- The lists after a slot is freed are those before it with one push: of the slot that the climb came to.
pub one_push : (s : State) (i : AllocIndex)
    → let m = climb_of s i in
    lists_of (released s i) ≡ entered m.words (setup_of s.head.sheet s.head.options) m.at (node_at m.words m.at).rect (lists_of s)
unfolding released
one_push s i = refl
