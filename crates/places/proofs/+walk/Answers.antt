-- The walk meets its contract: a chain is one slot after another, a slot is a leaf or a Container, and a Container is the chain of children at
-- the end of its line. Each answer follows from those below it by the laws of `WalkLaws`. Assumes nothing.
use mathlib.Core.Path.{refl, sym, ◌∙◌}
use native.Mathlib.Omega.{arith}
use borrow.Author.Rules.{rules}
use borrow.Author.Tests.{not-true, not-false}
use Rattle.places.proofs.WalkLaws as laws
use Rattle.places.proofs.WalkLaws.{some_slot}
use Rattle.places.proofs.+walk.Goals as goal

pub place_of_chain-loop-parent-init : goal.place_of_chain-loop-parent-init
place_of_chain-loop-parent-init t c = laws.going_start _ _ c.requires _ _ _ _ c.nothing_yet-sum.ensures

pub place_of_chain-returns-then-not-is_held : goal.place_of_chain-returns-then-not-is_held
place_of_chain-returns-then-not-is_held t c =
    rw c.out_of_slots.ensures
    (laws.going_out c.loop-parent.invariant (some_slot c.is_none.ensures c.loop-parent-test.true) refl (laws.chained_not_held _ _ _ _ _ _ _ (sym c.is_held.ensures ∙ c.if-not-is_held.true)))

pub place_of_chain-node_at-node-requires : goal.place_of_chain-node_at-node-requires
place_of_chain-node_at-node-requires t c =
    omega (arith, c.requires.slots, (laws.held_first _ _ _ (sym c.is_held.ensures ∙ c.if-not-is_held.false)).0)

pub place_of_chain-returns-then-not-stands : goal.place_of_chain-returns-then-not-stands
place_of_chain-returns-then-not-stands t c =
    rw c.out_of_slots-then-not-stands.ensures
    (laws.going_out c.loop-parent.invariant (some_slot c.is_none.ensures c.loop-parent-test.true) refl (laws.chained_astray _ _ _ _ _ _ _ _ c.node_at-node.ensures (sym c.stands.ensures ∙ c.if-not-stands.true)))

pub place_of_chain-place_of_slot-p-requires : goal.place_of_chain-place_of_slot-p-requires
place_of_chain-place_of_slot-p-requires t c = (
  omega (arith, c.decreases, c.loop-parent.invariant.less),
  (c.requires, laws.held_slot _ _ _ _ _ _ _ _ (sym c.is_held.ensures ∙ c.if-not-is_held.false) c.node_at-node.ensures (sym c.stands.ensures ∙ c.if-not-stands.false)),
)

pub place_of_chain-returns-then-not-p : goal.place_of_chain-returns-then-not-p
place_of_chain-returns-then-not-p t c =
    laws.going_unended c.loop-parent.invariant (some_slot c.is_none.ensures c.loop-parent-test.true)
    (laws.held_slot _ _ _ _ _ _ _ _ (sym c.is_held.ensures ∙ c.if-not-is_held.false) c.node_at-node.ensures (sym c.stands.ensures ∙ c.if-not-stands.false))
    (sym c.stands.ensures ∙ c.if-not-stands.false) c.place_of_slot-p.ensures (not-true _ c.if-not-p.true)

pub place_of_chain-loop-parent-smaller : goal.place_of_chain-loop-parent-smaller
place_of_chain-loop-parent-smaller t c =
    rw c.added-sum.ensures (laws.going_less c.loop-parent.invariant (some_slot c.is_none.ensures c.loop-parent-test.true) c.place_of_slot-p.ensures (not-false _ c.if-not-p.false))

pub place_of_chain-loop-parent-preserved : goal.place_of_chain-loop-parent-preserved
place_of_chain-loop-parent-preserved t c =
    let h = laws.held_slot _ _ _ _ _ _ _ _ (sym c.is_held.ensures ∙ c.if-not-is_held.false) c.node_at-node.ensures (sym c.stands.ensures ∙ c.if-not-stands.false) in
    laws.going_on c.loop-parent.invariant (some_slot c.is_none.ensures c.loop-parent-test.true) h (sym c.stands.ensures ∙ c.if-not-stands.false) c.place_of_slot-p.ensures (not-false _ c.if-not-p.false)
    c.added-sum.ensures (omega (arith, c.requires.few, h.below))

pub place_of_container-returns : goal.place_of_container-returns
place_of_container-returns t c =
    let l = c.line_below-line.ensures in
    l.same _ (laws.contained_chain _ _ c.requires.0 _ _ _ _ l.below refl c.place_of_chain.ensures)

pub place_of_slot-returns-then-ne : goal.place_of_slot-returns-then-ne
place_of_slot-returns-then-ne t c =
    laws.slotted_leaf c.requires.1 (search rules) c.own_place.ensures

pub place_of_slot-returns : goal.place_of_slot-returns
place_of_slot-returns t c =
    laws.slotted_children c.requires.1 (search rules)
    (rw c.flipped-along.ensures at c.place_of_container-p.ensures) c.stored_as.ensures
