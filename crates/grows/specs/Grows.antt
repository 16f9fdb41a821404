-- GROW on sound tables: a single Free root stretches. Otherwise along the root's orientation stretch the last slot or append (1 slot);
-- across it take a Free slot, then a new zero-rectangle root (2 slots).
-- Assumes nothing.
use Rattle.std.specs.Prelude.{◌&&◌, not, List, ℕ, zero, suc, ◌+◌, ◌-◌, ltb}
use Rattle.geometry.specs.Choice.{pick}
use Rattle.geometry.specs.Rectangles.{flip, no_rect}
use Rattle.geometry.specs.Sides.{natural, extent_of, setup_of}
use Rattle.geometry.specs.declared.Extent.{Extent}
use Rattle.geometry.specs.declared.Orientation.{Orientation}
use Rattle.geometry.specs.declared.Rectangle.{Rectangle}
use Rattle.geometry.specs.declared.Setup.{Setup}
use Rattle.geometry.specs.declared.Size.{Size}
use Rattle.slots.specs.Slots.{none, is_none}
use Rattle.table.specs.Table.{node_at}
use Rattle.stores.specs.Stores.{stored, to_parent, toNext, to_rect, to_node}
use Rattle.slots.specs.declared.AllocIndex.{AllocIndex}
use Rattle.slots.specs.declared.Node.{Node}
use Rattle.slots.specs.declared.NodeKind.TheVariants.{Container, Free}
use Rattle.lists.specs.Lists.{free_entry}
use Rattle.steps.specs.Spares.{new_node}
use Rattle.steps.specs.State.{State, state, lists_of}
use Rattle.steps.specs.declared.Head.{Head}
use Rattle.sound.specs.Sound.{sheet_of}
use Rattle.strips.specs.Strips.{along, stretched_rect, appended_rect, strip_rect}
use Rattle.lone.specs.Lone.{lone_free}
use Rattle.entries.specs.Entries.{entered}
use Rattle.moves.specs.Moves.{moved}
use Rattle.grants.specs.Carves.{pair_under}
use Rattle.grants.specs.Grants.{with_lists}

-- The head with another sheet, or another root.
abbrev pub with_sheet : Head → Size → Head
with_sheet h z = record { sheet = z; options = h.options; root = h.root; spare = h.spare; count = h.count; lengths = h.lengths }

abbrev pub with_root : Head → AllocIndex → Head
with_root h i = record { sheet = h.sheet; options = h.options; root = i; spare = h.spare; count = h.count; lengths = h.lengths }

-- By how much the sheet grows in x and in y.
unfoldable pub growth : Size → Size → Extent
growth old new =
    record { width = natural new.width - natural old.width; height = natural new.height - natural old.height }

-- The last slot of the chain from slot i, at most k links on.
unfoldable pub last_from : ℕ → List ℕ → AllocIndex → AllocIndex
last_from zero w i = i
last_from (suc k) w i = pick (is_none (node_at w i).next) i (last_from k w (node_at w i).next)

-- The setup by whose thresholds entries are made.
abbrev pub own_setup : State → Setup
own_setup s = setup_of s.head.sheet s.head.options

-- A Free slot i gets another rectangle, and its entry moves.
unfoldable pub stretched : State → AllocIndex → Rectangle → State
stretched s i r =
    let w = stored s.words i (to_rect r) in
    with_lists s.head w s.generations (moved w (own_setup s) i r (lists_of s))

-- A new Free slot follows slot i, the last of the top chain.
abbrev pub tail_node : AllocIndex → Orientation → Rectangle → Node
tail_node i o r = record { parent = none; next = none; prev = i; kind = Free; orientation = o; rect = r }

unfoldable pub appended_to : State → AllocIndex → Orientation → Rectangle → State
appended_to s i o r =
    let f = new_node s.words s.generations s.head in
    let w = stored (stored s.words i (toNext f.taken)) f.taken (to_node (tail_node i o r)) in
    with_lists f.head w f.generations (entered w (own_setup s) f.taken r (lists_of s))

-- Along the root's orientation: stretch the last slot of the top chain if it is Free, else append to it.
unfoldable pub grown_along : State → ℕ → State
grown_along s d =
    let o = (node_at s.words s.head.root).orientation in
    let i = last_from s.head.count s.words s.head.root in
    let r = (node_at s.words i).rect in
    pick (free_entry s.words i.0) (stretched s i (stretched_rect o r d)) (appended_to s i o (appended_rect o r d))

-- The chain from slot i, at most k slots of it, gets another parent.
unfoldable pub reparented : ℕ → List ℕ → AllocIndex → AllocIndex → List ℕ
reparented zero w p i = w
reparented (suc k) w p i = pick (is_none i) w (reparented k (stored w i (to_parent p)) p (node_at w i).next)

-- Across it: a Free slot, then a new zero-rectangle root over the old top chain.
unfoldable pub grown_across : State → Rectangle → State
grown_across s r =
    let o = (node_at s.words s.head.root).orientation in
    let f = new_node s.words s.generations s.head in
    let t = new_node s.words f.generations f.head in
    let w = reparented s.head.count (pair_under s.words none (flip o) t.taken Container no_rect f.taken r) t.taken s.head.root in
    with_lists (with_root t.head t.taken) w t.generations (entered w (own_setup s) f.taken r (lists_of s))

-- Along, then across, each if the sheet grows that way.
unfoldable pub grown_both : State → Size → Size → State
grown_both s old new =
    let o = (node_at s.words s.head.root).orientation in
    let d = growth old new in
    let t = pick (ltb 0 (along o d)) (grown_along s (along o d)) s in
    pick (ltb 0 (along (flip o) d)) (grown_across t (strip_rect (flip o) (extent_of old) (extent_of new))) t

-- The state after a grow to another size.
unfoldable pub grown : State → Size → State
grown s new =
    let t = state (with_sheet s.head new) s.words s.generations s.small s.medium s.large in
    pick (lone_free s.words s.head.root) (stretched t s.head.root (sheet_of new)) (grown_both t s.head.sheet new)

-- New slots needed: none for a single Free root; else 1 to append and 2 across.
unfoldable pub grow_slots : State → Size → ℕ
grow_slots s new =
    let o = (node_at s.words s.head.root).orientation in
    let d = growth s.head.sheet new in
    let i = last_from s.head.count s.words s.head.root in
    pick (lone_free s.words s.head.root) 0 (pick (ltb 0 (along o d) && not (free_entry s.words i.0)) 1 0 + pick (ltb 0 (along (flip o) d)) 2 0)
