-- A new Free slot after the last slot of the top chain.
-- Assumes nothing.
use Rattle.std.specs.Prelude.{ℕ, List}
use Rattle.geometry.specs.declared.Orientation.{Orientation}
use Rattle.geometry.specs.declared.Rectangle.{Rectangle}
use Rattle.slots.specs.declared.AllocIndex.{AllocIndex}
use Rattle.stores.specs.Stores.{stored, toNext, to_node}
use Rattle.grows.specs.Grows.{tail_node}

-- The table with slot f linked after slot i.
abbrev pub linked_after : List ℕ → AllocIndex → AllocIndex → Orientation → Rectangle → List ℕ
linked_after w i f o t = stored (stored w i (toNext f)) f (to_node (tail_node i o t))
