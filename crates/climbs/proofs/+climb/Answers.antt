-- `climbs::climb` meets its contract: each level is both merges, and an only child gives up to the level above. Assumes nothing.
use mathlib.Core.Path.{sym, ◌∙◌}
use native.Mathlib.Omega.{arith}
use Rattle.climbs.specs.ClimbLaws.{climbing_own, climbing_next, climbing_prev, climbing_parent, next_climbing, level_climbing, above_climbing, climb_none, climb_ends_here, climb_goes_on}
use Rattle.climbs.proofs.+climb.Goals as goal

pub returns-then-left-eq0 : goal.returns-then-left-eq0
returns-then-left-eq0 t c = climb_none _ _ c.if-left-eq0.true

pub absorb_next-wider-requires : goal.absorb_next-wider-requires
absorb_next-wider-requires t c = climbing_next c.requires

pub absorb_into_prev-widest-requires : goal.absorb_into_prev-widest-requires
absorb_into_prev-widest-requires t c = climbing_prev (next_climbing c.requires c.absorb_next-wider.ensures).0

pub is_only_child-requires : goal.is_only_child-requires
is_only_child-requires t c = climbing_own (level_climbing c.requires c.absorb_next-wider.ensures c.absorb_into_prev-widest.ensures)

pub give_up-above-requires : goal.give_up-above-requires
give_up-above-requires t c =
    let z = level_climbing c.requires c.absorb_next-wider.ensures c.absorb_into_prev-widest.ensures in
    (climbing_own z, climbing_parent z (sym c.is_only_child.ensures ∙ c.if-is_only_child.true))

pub climb-end-requires : goal.climb-end-requires
climb-end-requires t c = (
  omega (arith, c.if-left-eq0.false, c.decreases),
  above_climbing c.requires c.absorb_next-wider.ensures c.absorb_into_prev-widest.ensures c.if-left-eq0.false
      (sym c.is_only_child.ensures ∙ c.if-is_only_child.true) c.give_up-above.ensures,
)

pub returns-then-is_only_child : goal.returns-then-is_only_child
returns-then-is_only_child t c =
    climb_goes_on _ c.absorb_next-wider.ensures c.absorb_into_prev-widest.ensures _ c.if-left-eq0.false (sym c.is_only_child.ensures ∙ c.if-is_only_child.true)
    c.give_up-above.ensures c.climb-end.ensures

pub returns : goal.returns
returns t c =
    climb_ends_here _ c.absorb_next-wider.ensures c.absorb_into_prev-widest.ensures _ c.if-left-eq0.false (sym c.is_only_child.ensures ∙ c.if-is_only_child.false)
