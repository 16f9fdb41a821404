-- A table's numbers as links, and its slots as live ones: what the tests of one link say.
-- Assumes nothing.
use Rattle.std.specs.Prelude.{◌≡◌, refl, Bool, true, false, ◌||◌, not, List, ℕ, ◌<◌, eqb}
use Rattle.std.proofs.Common.{ap, sym, ◌∙◌, arith, eqb-true, eq-eqb, ne_eqb}
use Rattle.slots.specs.Slots.{slot, is_none, same_kind}
use Rattle.table.specs.Table.{node_at}
use Rattle.slots.specs.declared.AllocIndex.{AllocIndex}
use Rattle.slots.specs.declared.NodeKind.{NodeKind}
use Rattle.slots.specs.declared.NodeKind.TheVariants.{Container, Alloc, Free, Unused}
use Rattle.sound.specs.View.{none, to, link_of, seen, in_use, Live}
use Rattle.sound.specs.ViewLaws.{to_inj, no_link}
use Rattle.links.specs.Links.{live_at, link_at}
use Rattle.links.specs.TestLaws.{Says, both_say, less_says}

-- A number that isn't the none-link spells a link to the slot of that number,
pub link_some : (l : AllocIndex) → is_none l ≡ false → link_of l ≡ to l.0
unfolding link_of
link_some l e = rw e

-- and every slot's number is one.
pub link_of_slot : (i : ℕ) → i < 4096 → link_of (slot i) ≡ to i
link_of_slot i h = link_some (slot i) (ne_eqb i 4294967295 (λ e. omega arith))

-- The none-link spells none, and nothing else does.
pub link_none : (l : AllocIndex) → Says (is_none l) (link_of l ≡ none)
unfolding link_of
link_none l = (λ e. rw e, back (is_none l) refl)
  where
    back : (b : Bool) → is_none l ≡ b → link_of l ≡ none → is_none l ≡ true
    back true q e = q
    back false q e = absurd (no_link (sym e ∙ link_some l q))

-- A link to slot j is spelled by the number j.
pub link_names : (l : AllocIndex) (j : ℕ) → link_of l ≡ to j → (is_none l ≡ false) × (l.0 ≡ j)
link_names l j e = go (is_none l) refl
  where
    go : (b : Bool) → is_none l ≡ b → (is_none l ≡ false) × (l.0 ≡ j)
    go true q = absurd (no_link (sym ((link_none l).0 q) ∙ e))
    go false q = (q, to_inj (sym (link_some l q) ∙ e))

-- Two numbers that spell the same link are equal.
pub same_link_says : (a b : AllocIndex) → Says (eqb a.0 b.0) (link_of a ≡ link_of b)
same_link_says a b = (λ e. ap (λ x. link_of (slot x)) (eqb-true a.0 b.0 e), λ e. eq-eqb a.0 b.0 (go (is_none b) refl e))
  where
    go : (c : Bool) → is_none b ≡ c → link_of a ≡ link_of b → a.0 ≡ b.0
    go true q e = eqb-true a.0 4294967295 ((link_none a).1 (e ∙ (link_none b).0 q)) ∙ sym (eqb-true b.0 4294967295 q)
    go false q e = (link_names a b.0 (e ∙ link_some b q)).1

pub link_to_says : (l : AllocIndex) (i : ℕ) → i < 4096 → Says (eqb l.0 i) (link_of l ≡ to i)
link_to_says l i h = rw (← link_of_slot i h) (same_link_says l (slot i))

-- A test that is passed over at the none-link says its part of each slot that the link names.
pub link_says : (l : AllocIndex) {b : Bool} (P : ℕ → Type 0) → Says b (P l.0) → Says (is_none l || b) ((j : ℕ) → link_of l ≡ to j → P j)
link_says l {b} P s = (yes', no' (is_none l) refl)
  where
    yes' : (is_none l || b) ≡ true → (j : ℕ) → link_of l ≡ to j → P j
    yes' h j e = let q = link_names l j e in rw q.1 at (s.0 (rw q.0 at h))

    no' : (c : Bool) → is_none l ≡ c → ((j : ℕ) → link_of l ≡ to j → P j) → (is_none l || b) ≡ true
    no' true q f = rw q
    no' false q f = rw q (s.1 (f l.0 (link_some l q)))

-- A kind in use is any but Unused.
pub in_use_says : (k : NodeKind) → Says (not (same_kind k Unused)) (in_use k ≡ true)
in_use_says Container = (λ e. e, λ e. e)
in_use_says Alloc = (λ e. e, λ e. e)
in_use_says Free = (λ e. e, λ e. e)
in_use_says Unused = (λ e. e, λ e. e)

pub unused_kind : (k : NodeKind) → same_kind k Unused ≡ not (in_use k)
unused_kind Container = refl
unused_kind Alloc = refl
unused_kind Free = refl
unused_kind Unused = refl

-- The test of a slot says that it is live, and the test of a link that it names a live slot, if any.
pub live_is : (w : List ℕ) (n i : ℕ) → Says (live_at w n i) (Live (seen w) n i)
unfolding live_at seen
live_is w n i = both_say (less_says i n) (in_use_says (node_at w (slot i)).kind)

pub link_is : (w : List ℕ) (n : ℕ) (l : AllocIndex) → Says (link_at w n l) ((j : ℕ) → link_of l ≡ to j → Live (seen w) n j)
unfolding link_at
link_is w n l = link_says l (Live (seen w) n) (live_is w n l.0)
