-- DEALLOCATE in the slot table: absorb a Free next; be absorbed by a Free prev; if now an only child, give the rectangle to the
-- parent, become spare, and the climb then starts again at the parent.
-- Assumes nothing.
use Rattle.std.specs.Prelude.{Bool, ◌&&◌, not, List, ℕ, zero, suc}
use Rattle.geometry.specs.Choice.{pick}
use Rattle.slots.specs.Slots.{is_none}
use Rattle.table.specs.Table.{node_at}
use Rattle.stores.specs.Stores.{stored, toNext, to_kind, to_rect}
use Rattle.slots.specs.declared.AllocIndex.{AllocIndex}
use Rattle.slots.specs.declared.NodeKind.TheVariants.{Free}
use Rattle.lists.specs.Lists.{free_entry}
use Rattle.steps.specs.Spares.{marked_unused}
use Rattle.sound.specs.Rules.{join}
use Rattle.grants.specs.Carves.{answered_by}

-- Where a climb stands: the slot table, the head of the spare chain, and the Free slot that it has come to.
pub record Level : Type 0 where
  pub words : List ℕ
  pub spare : AllocIndex
  pub at : AllocIndex

abbrev pub level : List ℕ → AllocIndex → AllocIndex → Level
level w spare i = record { words = w; spare = spare; at = i }

-- Slot a absorbs b, its next: the rectangles are joined, b leaves the chain of siblings, and b becomes spare.
unfoldable pub absorbed : List ℕ → AllocIndex → AllocIndex → AllocIndex → Level
absorbed w spare a b =
    let r = join (node_at w a).rect (node_at w b).rect in
    let n = (node_at w b).next in
    level (marked_unused (answered_by (stored (stored w a (to_rect r)) a (toNext n)) n a) spare b) b a

-- A link names a Free slot.
abbrev pub is_free : List ℕ → AllocIndex → Bool
is_free w j = not (is_none j) && free_entry w j.0

-- Absorb a Free next.
unfoldable pub next_absorbed : Level → Level
next_absorbed l =
    let n = (node_at l.words l.at).next in
    pick (is_free l.words n) (absorbed l.words l.spare l.at n) l

-- Be absorbed by a Free prev.
unfoldable pub absorbed_by_prev : Level → Level
absorbed_by_prev l =
    let p = (node_at l.words l.at).prev in
    pick (is_free l.words p) (absorbed l.words l.spare p l.at) l

-- An only child: neither prev nor next, and a parent.
unfoldable pub is_only_child : List ℕ → AllocIndex → Bool
is_only_child w i = is_none (node_at w i).prev && (is_none (node_at w i).next && not (is_none (node_at w i).parent))

-- It gives its rectangle to the parent, which turns Free, and becomes spare.
unfoldable pub given_up : Level → Level
given_up l =
    let p = (node_at l.words l.at).parent in
    let r = (node_at l.words l.at).rect in
    level (marked_unused (stored (stored l.words p (to_rect r)) p (to_kind Free)) l.spare l.at) l.at p

-- The climb, of at most k levels: the number of live slots falls by one each level.
unfoldable pub climbed : ℕ → Level → Level
climbed zero l = l
climbed (suc k) l =
    let m = absorbed_by_prev (next_absorbed l) in
    pick (is_only_child m.words m.at) (climbed k (given_up m)) m
