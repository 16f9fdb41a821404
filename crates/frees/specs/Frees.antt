-- DEALLOCATE on sound tables, of a live ticket: mark Free, climb, push.
-- Assumes nothing.
use Rattle.std.specs.Prelude.{List, ℕ}
use Rattle.geometry.specs.Sides.{setup_of}
use Rattle.table.specs.Table.{node_at}
use Rattle.stores.specs.Stores.{stored, to_kind}
use Rattle.slots.specs.declared.AllocIndex.{AllocIndex}
use Rattle.slots.specs.declared.NodeKind.TheVariants.{Free}
use Rattle.steps.specs.Spares.{with_spare}
use Rattle.steps.specs.State.{State, lists_of}
use Rattle.entries.specs.Entries.{entered}
use Rattle.grants.specs.Grants.{with_lists}
use Rattle.frees.specs.Climbs.{Level, level, climbed}

-- What deallocate does to the generations: nothing.
abbrev pub generations_after : List ℕ → AllocIndex → List ℕ
generations_after g i = g

-- The climb from slot i, marked Free; n is more levels than there can be.
unfoldable pub climb_of : State → AllocIndex → Level
climb_of s i = climbed s.head.count (level (stored s.words i (to_kind Free)) s.head.spare i)

-- Slot i is freed: the climb, and one push, at its end.
unfoldable pub released : State → AllocIndex → State
released s i =
    let m = climb_of s i in
    with_lists (with_spare s.head m.spare) m.words (generations_after s.generations i)
    (entered m.words (setup_of s.head.sheet s.head.options) m.at (node_at m.words m.at).rect (lists_of s))
