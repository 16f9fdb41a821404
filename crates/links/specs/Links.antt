-- Rules 2, 3 and 4 as tests of one slot. LinkLaws says that they are the rules.
-- Assumes nothing.
use Rattle.std.specs.Prelude.{◌≡◌, Bool, false, ◌&&◌, ◌||◌, not, List, ℕ, zero, suc, ◌*◌, ◌≤◌, ◌<◌, length, get_or, set, eqb, ltb, leb}
use Rattle.geometry.specs.Choice.{pick}
use Rattle.geometry.specs.Rectangles.{flip}
use Rattle.slots.specs.Slots.{slot, is_none, same_kind, same_orientation}
use Rattle.table.specs.Table.{node_at, HasSlot}
use Rattle.slots.specs.declared.AllocIndex.{AllocIndex}
use Rattle.slots.specs.declared.Node.{Node}
use Rattle.slots.specs.declared.NodeKind.TheVariants.{Container, Free, Unused}

-- The table holds the first n slots, and they are at most 4,096.
pub record Table (w : List ℕ) (n : ℕ) : Type 0 where
  pub slots : n * 8 ≤ length w
  pub few : n ≤ 4096

-- A link that is none or names a slot of the table, or a place of the table of first children.
abbrev pub NamesSlot : List ℕ → AllocIndex → Type 0
NamesSlot w l = is_none l ≡ false → HasSlot w l

abbrev pub NamesPlace : List ℕ → AllocIndex → Type 0
NamesPlace fs l = is_none l ≡ false → l.0 < length fs

-- A slot that is live: below n and not Unused.
unfoldable pub live_at : List ℕ → ℕ → ℕ → Bool
live_at w n i = ltb i n && not (same_kind (node_at w (slot i)).kind Unused)

-- A link that is none or names a live slot.
unfoldable pub link_at : List ℕ → ℕ → AllocIndex → Bool
link_at w n l = is_none l || live_at w n l.0

-- The spare chain passes just this many Unused slots below n, and then ends.
unfoldable pub spare_walk : List ℕ → ℕ → ℕ → AllocIndex → Bool
spare_walk w n zero l = is_none l
spare_walk w n (suc k) l = ltb l.0 n && (same_kind (node_at w l).kind Unused && spare_walk w n k (node_at w l).next)

-- A first child: live, with a parent below n and no prev.
unfoldable pub is_first : List ℕ → ℕ → ℕ → Bool
is_first w n i = not (same_kind (node_at w (slot i)).kind Unused) && (is_none (node_at w (slot i)).prev && ltb (node_at w (slot i)).parent.0 n)

-- The table of first children, slot i entered at its parent.
unfoldable pub entered : List ℕ → ℕ → ℕ → List ℕ → List ℕ
entered w n i fs = pick (is_first w n i) (set fs (node_at w (slot i)).parent.0 i) fs

-- The first k slots entered, in order.
unfoldable pub firsts_to : List ℕ → ℕ → ℕ → List ℕ → List ℕ
firsts_to w n zero fs = fs
firsts_to w n (suc k) fs = entered w n k (firsts_to w n k fs)

-- Next and prev agree; siblings share parent and orientation.
unfoldable pub next_agrees : List ℕ → ℕ → Node → Bool
next_agrees w i m =
    is_none m.next ||
    (eqb (node_at w m.next).prev.0 i &&
    (eqb (node_at w m.next).parent.0 m.parent.0 && same_orientation (node_at w m.next).orientation m.orientation))

unfoldable pub prev_agrees : List ℕ → ℕ → Node → Bool
prev_agrees w i m = is_none m.prev || eqb (node_at w m.prev).next.0 i

-- A parent is a Container of the other orientation.
unfoldable pub parent_agrees : List ℕ → Node → Bool
parent_agrees w m =
    is_none m.parent ||
    (same_kind (node_at w m.parent).kind Container && same_orientation (node_at w m.parent).orientation (flip m.orientation))

-- A Container has a first child, and a first child is the one entered at its parent.
unfoldable pub child_agrees : List ℕ → ℕ → Node → Bool
child_agrees fs i m = not (same_kind m.kind Container) || not (is_none (slot (get_or fs i 0)))

unfoldable pub first_agrees : List ℕ → ℕ → Node → Bool
first_agrees fs i m = not (is_none m.prev) || (is_none m.parent || eqb (get_or fs m.parent.0 0) i)

-- Root is the only live slot with neither parent nor prev.
unfoldable pub root_agrees : ℕ → ℕ → Node → Bool
root_agrees root i m = pick (is_none m.parent && is_none m.prev) (eqb i root) (not (eqb i root))

-- A slot's links are none or name live slots.
unfoldable pub links_sane : List ℕ → ℕ → Node → Bool
links_sane w n m = link_at w n m.parent && (link_at w n m.next && link_at w n m.prev)

-- A slot agrees with its next and prev, and with its parent, its children and the root.
unfoldable pub siblings_agree : List ℕ → ℕ → Node → Bool
siblings_agree w i m = next_agrees w i m && prev_agrees w i m

unfoldable pub family_agrees : List ℕ → List ℕ → ℕ → ℕ → Node → Bool
family_agrees w fs root i m = parent_agrees w m && (child_agrees fs i m && (first_agrees fs i m && root_agrees root i m))

-- Rule 3 of slot i, but for the sentences that follow links to their end.
unfoldable pub links_at : List ℕ → List ℕ → ℕ → ℕ → ℕ → Bool
links_at w fs n root i =
    let m = node_at w (slot i) in
    not (live_at w n i) || (links_sane w n m && (siblings_agree w i m && family_agrees w fs root i m))

-- Rule 4 of slot i: a Free slot's next isn't Free, and a Free slot with a parent has a sibling.
unfoldable pub merged_at : List ℕ → ℕ → ℕ → Bool
merged_at w n i =
    let m = node_at w (slot i) in
    not (same_kind m.kind Free) ||
    pick (leb n m.next.0) (not (is_none m.prev) || is_none m.parent) (not (same_kind (node_at w m.next).kind Free))
