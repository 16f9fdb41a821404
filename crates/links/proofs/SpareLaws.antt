-- The number of Unused slots as a count, and rule 2: the walk over the spare chain decides it.
-- Assumes nothing.
use Rattle.std.specs.Prelude.{◌≡◌, refl, Bool, true, false, not, List}
use Rattle.std.proofs.Common.{ap, ◌∙◌, ⊎_elim, arith}
use Prim.Native.Nat.{ℕ, zero, suc, ◌+◌, ◌-◌, ◌<◌}
use Rattle.geometry.specs.Choice.{pick}
use Rattle.slots.specs.Slots.{slot}
use Rattle.table.specs.Table.{node_at}
use Rattle.slots.specs.SlotLaws.{same_kind_equal}
use Rattle.slots.specs.declared.AllocIndex.{AllocIndex}
use Rattle.slots.specs.declared.NodeKind.{NodeKind}
use Rattle.slots.specs.declared.NodeKind.TheVariants.{Unused}
use Rattle.steps.specs.Spares.{of_kind, count_kind, unused_below}
use Rattle.sound.specs.View.{Link, to, link_of, seen, in_use, Dead}
use Rattle.sound.specs.Rules.{Visits, it, later}
use Rattle.sound.specs.Sound.{SpareChain}
use Rattle.lists.specs.Counts.{bit, count}
use Rattle.forest.specs.Ends.{EndsIn}
use Rattle.forest.specs.Spare.{is_dead, none_visits, visits_step, spare_steps, steps_spare}
use Rattle.links.specs.Links.{Table, spare_walk}
use Rattle.links.specs.TestLaws.{Says, both_say, says_as, less_says, kind_says}
use Rattle.links.specs.LinkLaws.{link_none, link_some, link_of_slot, link_names, unused_kind}

-- The slots that are Unused are counted as such, and the others are live.
unused_bit : (w : List ℕ) (i : ℕ) → of_kind w Unused i ≡ bit (is_dead (seen w) i)
unfolding of_kind seen
unused_bit w i = rw (unused_kind (node_at w (slot i)).kind) (go (not (in_use (node_at w (slot i)).kind)))
  where
    go : (b : Bool) → pick b 1 0 ≡ bit b
    go true = refl
    go false = refl

pub unused_count : (w : List ℕ) (n : ℕ) → count (is_dead (seen w)) n ≡ unused_below w n
unfolding count count_kind
unused_count w zero = refl
unused_count w (suc n) = let r = unused_count w n in let b = unused_bit w n in omega arith

all_counted : (w : List ℕ) (n : ℕ) → count (λ j. in_use (seen w j).kind) n + unused_below w n ≡ n
unfolding count count_kind
all_counted w zero = refl
all_counted w (suc n) =
    let r = all_counted w n in let b = unused_bit w n in let o = one (in_use (seen w n).kind) in omega arith
  where
    one : (b : Bool) → bit b + bit (not b) ≡ 1
    one true = refl
    one false = refl

pub live_count : (w : List ℕ) (n : ℕ) → count (λ j. in_use (seen w j).kind) n ≡ n - unused_below w n
live_count w n = let s = all_counted w n in omega arith

dead_kind : (k : NodeKind) → in_use k ≡ false → k ≡ Unused
dead_kind k e = same_kind_equal k Unused (unused_kind k ∙ ap not e)

module _ (w : List ℕ) (n : ℕ) (t : Table w n) where
  -- A chain of k slots, all Unused, that ends.
  abbrev Chain : Link → ℕ → Type 0
  Chain l k = EndsIn (λ j. (seen w j).next) l k × ((a : ℕ) → Visits (λ j. (seen w j).next) a l → Dead (seen w) n a)

  walk_says : (k : ℕ) (l : AllocIndex) → Says (spare_walk w n k l) (Chain (link_of l) k)
  unfolding spare_walk seen
  walk_says zero l = (λ e. let z = (link_none l).0 e in (z, λ a v. absurd (none_visits v z)), λ c. (link_none l).1 c.0)
  walk_says (suc k) l =
      says_as (both_say (less_says l.0 n) (both_say (kind_says (node_at w l).kind Unused) (walk_says k (node_at w l).next))) (on, back)
    where
      Turn : Type 0
      Turn = (l.0 < n) × (((node_at w l).kind ≡ Unused) × Chain (link_of (node_at w l).next) k)

      on : Turn → Chain (link_of l) (suc k)
      on p =
          let e : link_of l ≡ to l.0 = link_of_slot l.0 (omega (arith, t.few)) in
          ((l.0, e, p.1.1.0), λ a v. ⊎_elim {C = Dead (seen w) n a} (λ q. rw q (p.0, ap in_use p.1.0)) (p.1.1.1 a) (visits_step v l.0 e))

      back : Chain (link_of l) (suc k) → Turn
      back c =
          let names = link_names l c.0.0 c.0.1 in
          let e : link_of l ≡ to l.0 = link_some l names.0 in
          let d = c.1 l.0 (rw e it) in
          (d.0, (dead_kind _ d.1, (rw (← names.1) at c.0.2, λ a v. c.1 a (rw e (later {i = l.0} v)))))

  -- RULE 2, EXACT: the walk that passes as many slots as are Unused says that the chain is the spare chain.
  pub spare_walk_yes : (spare : AllocIndex) → spare_walk w n (unused_below w n) spare ≡ true → SpareChain (seen w) n (link_of spare)
  spare_walk_yes spare e =
      let c = (walk_says (unused_below w n) spare).0 e in
      steps_spare (seen w) n (link_of spare) (rw (unused_count w n) c.0) c.1

  pub spare_walk_no : (spare : AllocIndex) → SpareChain (seen w) n (link_of spare) → spare_walk w n (unused_below w n) spare ≡ true
  spare_walk_no spare s =
      (walk_says (unused_below w n) spare).1 (rw unused_count at (spare_steps (seen w) n (link_of spare) s), s.only)
