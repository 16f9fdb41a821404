-- The laws by which the climb is proved: what each step finds, and what a level comes to.
-- Assumes nothing.
use Rattle.std.specs.Prelude.{◌≡◌, true, false, not, List, ℕ, suc, ◌-◌}
use Rattle.std.proofs.Common.{arith}
use Rattle.std.proofs.lemmas.Bool.{not-true}
use Rattle.geometry.specs.TestLaws.{and_true_each}
use Rattle.slots.specs.Slots.{is_none}
use Rattle.table.specs.Table.{node_at, HasSlot}
use Rattle.slots.specs.declared.AllocIndex.{AllocIndex}
use Rattle.lists.specs.Lists.{free_entry}
use Rattle.sound.specs.View.{seen, Live}
use Rattle.links.specs.LinkLaws.{link_some}
use Rattle.pairs.specs.Pairs.{LinkHas}
use Rattle.frees.specs.Climbs.{Level, is_free, next_absorbed, absorbed_by_prev, is_only_child, given_up, climbed}
use Rattle.freed.specs.Climbing.{Reached, NextCalm, in_table, next_reached, prev_reached, give_reached, only_child}
use Rattle.absorbing.specs.Absorbable.{NextReady, PrevReady}
use Rattle.climbs.specs.Climbable.{Climbing}

-- A Free slot is linked to by a link that is not none.
free_some : (w : List ℕ) (j : AllocIndex) → is_free w j ≡ true → is_none j ≡ false
free_some w j e = not-true (is_none j) (and_true_each (not (is_none j)) (free_entry w j.0) e).0

module _ {k : ℕ} {l : Level} (C : Climbing k l) where
  -- Live slots are slots of the table.
  has : (j : AllocIndex) → Live (seen l.words) C.count j.0 → HasSlot l.words j
  has j v = in_table C.was C.size C.count C.root C.start C.all C.tree C.slots C.few k l C.reached j.0 v

  next_some : (i : AllocIndex) → Live (seen l.words) C.count i.0 → is_none (node_at l.words i).next ≡ false
      → Live (seen l.words) C.count (node_at l.words i).next.0
  unfolding seen
  next_some i v e = let b = (node_at l.words i).next in C.reached.stands.links.near.next_live i.0 b.0 v (link_some b e)

  prev_some : (i : AllocIndex) → Live (seen l.words) C.count i.0 → is_none (node_at l.words i).prev ≡ false
      → Live (seen l.words) C.count (node_at l.words i).prev.0
  unfolding seen
  prev_some i v e = let b = (node_at l.words i).prev in C.reached.stands.links.near.prev_live i.0 b.0 v (link_some b e)

  next_has : (i : AllocIndex) → Live (seen l.words) C.count i.0 → LinkHas l.words (node_at l.words i).next
  next_has i v e = has (node_at l.words i).next (next_some i v e)

  -- The slot, its neighbours and theirs are in the table.
  pub climbing_own : HasSlot l.words l.at
  climbing_own = has l.at C.reached.stands.live

  pub climbing_next : NextReady l.words l.at
  climbing_next =
      let v = C.reached.stands.live in
      let b = (node_at l.words l.at).next in
      record {
        own = climbing_own;
        link = next_has l.at v;
        merges = λ e. let u = next_some l.at v (free_some l.words b e) in
            record { taker = climbing_own; other = has b u; beyond = next_has b u };
      }

  pub climbing_prev : PrevReady l.words l.at
  climbing_prev =
      let v = C.reached.stands.live in
      let p = (node_at l.words l.at).prev in
      record {
        own = climbing_own;
        link = λ e. has p (prev_some l.at v e);
        merges = λ e. record { taker = has p (prev_some l.at v (free_some l.words p e)); other = climbing_own; beyond = next_has l.at v };
      }

  -- So is the parent of an only child.
  pub climbing_parent : is_only_child l.words l.at ≡ true → HasSlot l.words (node_at l.words l.at).parent
  climbing_parent e =
      let p = (node_at l.words l.at).parent in
      has p (C.reached.stands.links.near.parent_live l.at.0 p.0 C.reached.stands.live (only_child l.words l.at e).2)

  -- A climb has come to another level.
  on : {j : ℕ} {m : Level} → Reached C.was C.size C.count C.root C.start C.all C.tree j m → Climbing j m
  on R = record {
    was = C.was;
    size = C.size;
    count = C.count;
    root = C.root;
    start = C.start;
    all = C.all;
    tree = C.tree;
    slots = C.slots;
    few = C.few;
    reached = R;
  }

  -- Each step keeps this.
  pub next_climbing : {m : Level} → m ≡ next_absorbed l → Climbing k m × NextCalm m
  next_climbing e =
      let z = next_reached C.was C.size C.count C.root C.start C.all C.tree C.slots C.few k l C.reached in
      rw e (on z.0, z.1)

  pub prev_climbing : {m : Level} → m ≡ absorbed_by_prev l → NextCalm l → Climbing k m
  prev_climbing e calm =
      rw e (on (prev_reached C.was C.size C.count C.root C.start C.all C.tree C.slots C.few k l C.reached calm).0)

  pub give_climbing : {m : Level} (j : ℕ) → k ≡ suc j → m ≡ given_up l → is_only_child l.words l.at ≡ true → Climbing j m
  give_climbing j s e o =
      rw e (on (give_reached C.was C.size C.count C.root C.start C.all C.tree C.slots C.few j l (rw s at C.reached) o))

-- Where at least one level is left, there is one less.
one_less : (k : ℕ) → (k ≡ 0 → ⊥) → k ≡ suc (k - 1)
one_less k n = omega (arith, n)

module _ {k : ℕ} {l m u : Level} (C : Climbing k l) (next : m ≡ next_absorbed l) (prev : u ≡ absorbed_by_prev m) where
  -- After both merges,
  pub level_climbing : Climbing k u
  level_climbing = let z = next_climbing C next in prev_climbing z.0 prev z.1

  -- and after the child gave up.
  pub above_climbing : {v : Level} → (k ≡ 0 → ⊥) → is_only_child u.words u.at ≡ true → v ≡ given_up u → Climbing (k - 1) v
  above_climbing n o e = give_climbing level_climbing (k - 1) (one_less k n) e o

-- A level of the climb: it ends here, or it goes on above.
pub climb_none : (k : ℕ) (l : Level) → k ≡ 0 → l ≡ climbed k l
unfolding climbed
climb_none k l e = rw e

module _ (l : Level) {m u : Level} (next : m ≡ next_absorbed l) (prev : u ≡ absorbed_by_prev m) where
  ends : (j : ℕ) → is_only_child u.words u.at ≡ false → u ≡ climbed (suc j) l
  unfolding climbed
  ends j o = rw (← next, ← prev, o)

  goes : (j : ℕ) {v r : Level} → is_only_child u.words u.at ≡ true → v ≡ given_up u → r ≡ climbed j v → r ≡ climbed (suc j) l
  unfolding climbed
  goes j o e f = rw (← next, ← prev, o, ← e) f

  pub climb_ends_here : (k : ℕ) → (k ≡ 0 → ⊥) → is_only_child u.words u.at ≡ false → u ≡ climbed k l
  climb_ends_here k n o = rw (one_less k n) (ends (k - 1) o)

  pub climb_goes_on : (k : ℕ) {v r : Level} → (k ≡ 0 → ⊥) → is_only_child u.words u.at ≡ true → v ≡ given_up u → r ≡ climbed (k - 1) v → r ≡ climbed k l
  climb_goes_on k n o e f = again (one_less k n) (goes (k - 1) o e f)
    where
      again : {r : Level} {i j : ℕ} → i ≡ j → r ≡ climbed j l → r ≡ climbed i l
      again q h = rw q h
