-- THE NEW SLOTS THAT A GROW NEEDS, in the paper's words: none for a single Free root; else 1 to append along the root's orientation, and 2 across it.
-- Assumes nothing.
use Rattle.std.specs.Prelude.{◌≡◌, Bool, ◌&&◌, not, ℕ, ◌+◌, ◌-◌, ◌<◌, ltb}
use Rattle.std.proofs.Common.{arith, ltb-true, lt-ltb}
use Rattle.geometry.specs.Choice.{pick}
use Rattle.geometry.specs.Rectangles.{flip}
use Rattle.geometry.specs.Sides.{natural, extent_of}
use Rattle.geometry.specs.declared.Orientation.{Orientation}
use Rattle.geometry.specs.declared.Orientation.TheVariants.{Vertical, Horizontal}
use Rattle.geometry.specs.declared.Size.{Size}
use Rattle.table.specs.Table.{node_at}
use Rattle.slots.specs.declared.NodeKind.TheVariants.{Free}
use Rattle.lists.specs.Lists.{free_entry}
use Rattle.steps.specs.State.{State}
use Rattle.links.specs.TestLaws.{Says, refuted, both_say, not_say, kind_says}
use Rattle.lone.specs.LoneLaws.{lone_says}
use Rattle.strips.specs.Strips.{along}
use Rattle.grows.specs.Grows.{growth, last_from, grow_slots}
use Rattle.grown.specs.Fills.{Lone}

-- The root's orientation, and the one across it.
abbrev pub root_way : State → Orientation
root_way s = (node_at s.words s.head.root).orientation

abbrev pub cross_way : State → Orientation
cross_way s = flip (root_way s)

-- The sheet grows along an orientation.
abbrev pub GrowsAlong : State → Size → Orientation → Type 0
GrowsAlong s new o = along o (extent_of s.head.sheet) < along o (extent_of new)

-- The last slot of the top chain is Free.
abbrev pub EndsFree : State → Type 0
EndsFree s = (node_at s.words (last_from s.head.count s.words s.head.root)).kind ≡ Free

-- What is left of one number past another is above 0 where the other is less.
left_says : (a b : ℕ) → Says (ltb 0 (b - a)) (a < b)
left_says a b = (λ e. omega (arith, ltb-true 0 (b - a) e), λ h. lt-ltb 0 (b - a) (omega arith))

module _ (s : State) (new : Size) where
  along_says : (o : Orientation) → Says (ltb 0 (along o (growth s.head.sheet new))) (GrowsAlong s new o)
  unfolding growth
  along_says Vertical = left_says (natural s.head.sheet.height) (natural new.height)
  along_says Horizontal = left_says (natural s.head.sheet.width) (natural new.width)

  append_says : Says (ltb 0 (along (root_way s) (growth s.head.sheet new)) && not (free_entry s.words (last_from s.head.count s.words s.head.root).0))
      (GrowsAlong s new (root_way s) × (EndsFree s → ⊥))
  append_says = both_say (along_says (root_way s)) (not_say (kind_says _ Free))

  -- A single Free root needs none.
  pub lone_needs_none : Lone s → grow_slots s new ≡ 0
  unfolding grow_slots
  lone_needs_none l = rw ((lone_says s.words s.head.root).1 l)

  module _ (several : Lone s → ⊥) where
    needs : {p q : Bool} → (ltb 0 (along (root_way s) (growth s.head.sheet new)) && not (free_entry s.words (last_from s.head.count s.words s.head.root).0)) ≡ p
        → ltb 0 (along (cross_way s) (growth s.head.sheet new)) ≡ q → grow_slots s new ≡ pick p 1 0 + pick q 2 0
    unfolding grow_slots
    needs e f = rw (refuted (lone_says s.words s.head.root) several, e, f)

    -- To append along takes 1, to stretch none;
    pub stretch_needs_none : (GrowsAlong s new (root_way s) → EndsFree s) → (GrowsAlong s new (cross_way s) → ⊥) → grow_slots s new ≡ 0
    stretch_needs_none f n = needs (refuted append_says (λ z. z.1 (f z.0))) (refuted (along_says (cross_way s)) n)

    pub append_needs_one : GrowsAlong s new (root_way s) → (EndsFree s → ⊥) → (GrowsAlong s new (cross_way s) → ⊥) → grow_slots s new ≡ 1
    append_needs_one g f n = needs (append_says.1 (g, f)) (refuted (along_says (cross_way s)) n)

    -- and across takes 2 more.
    pub across_needs_two : (GrowsAlong s new (root_way s) → EndsFree s) → GrowsAlong s new (cross_way s) → grow_slots s new ≡ 2
    across_needs_two f a = needs (refuted append_says (λ z. z.1 (f z.0))) ((along_says (cross_way s)).1 a)

    pub both_need_three : GrowsAlong s new (root_way s) → (EndsFree s → ⊥) → GrowsAlong s new (cross_way s) → grow_slots s new ≡ 3
    both_need_three g f a = needs (append_says.1 (g, f)) ((along_says (cross_way s)).1 a)
