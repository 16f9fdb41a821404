-- The laws by which growing along is proved, from what each call ensures.
-- Assumes nothing.
use Rattle.std.specs.Prelude.{◌≡◌, refl, true, false, not, ℕ, ◌+◌, ◌^◌, ◌≤◌, ◌<◌}
use Rattle.std.proofs.Common.{sym, arith}
use Rattle.geometry.specs.Choice.{pick}
use Rattle.geometry.specs.declared.Orientation.{Orientation}
use Rattle.geometry.specs.declared.Orientation.TheVariants.{Vertical, Horizontal}
use Rattle.geometry.specs.declared.Rectangle.{Rectangle}
use Rattle.slots.specs.Slots.{is_none, same_kind}
use Rattle.slots.specs.declared.AllocIndex.{AllocIndex}
use Rattle.slots.specs.declared.Node.{Node}
use Rattle.slots.specs.declared.NodeKind.TheVariants.{Free}
use Rattle.table.specs.Table.{node_at, HasSlot}
use Rattle.lists.specs.Lists.{free_entry}
use Rattle.steps.specs.Spares.{HasSpare}
use Rattle.steps.specs.State.{State, lists_of}
use Rattle.sound.specs.View.{none, seen}
use Rattle.sound.specs.Rules.{NotEmpty, Adjoin}
use Rattle.forest.specs.Fill.{join_not_empty}
use Rattle.granted.specs.NewSlots.{start_taking, has_spare}
use Rattle.granted.specs.SoundFacts.{lent_slots, lists_ready}
use Rattle.granted.specs.Terms.{spare_at}
use Rattle.strips.specs.Strips.{stretched_rect, appended_rect}
use Rattle.grows.specs.Grows.{stretched, appended_to, grown_along}
use Rattle.grown.specs.Both.{runs_at, last_at}
use Rattle.grown.proofs.Both.{along_steps}
use Rattle.grown.specs.Chains.{OnTop, last_on_top}
use Rattle.grown.specs.Filled.{last_some}
use Rattle.grown.specs.Growths.{appended_adjoins, appended_some, appended_join}
use Rattle.stretches.specs.Chains.{ChainHas}
use Rattle.growing.specs.Ready.{StepReady}
use Rattle.growing.specs.TopLaws.{top_has, root_has, top_some}
use Rattle.along.specs.Ready.{AlongReady}

-- A rectangle that ends where the whole does has its far corner.
ends_alike : (o : Orientation) (all r : Rectangle) (d : ℕ) → Adjoin o all (appended_rect o r d) → (r.x1 ≡ all.x1) × (r.y1 ≡ all.y1)
ends_alike Vertical all r d a = (sym a.2, sym a.0)
ends_alike Horizontal all r d a = (sym a.0, sym a.2)

module _ {s : State} {by : ℕ} (R : AlongReady s by) where
  -- The root is in the table, and the top chain can be followed.
  pub first_has : HasSlot s.words s.head.root
  first_has = root_has s R.lent R.fills.rule1.fits R.fills.rule3

  pub chain_has_lem : (is_none s.head.root ≡ false) × ChainHas s.head.count s.words s.head.root
  chain_has_lem = let f = R.fills in (top_some s R.lent f.rule1.fits f.rule3, top_has s R.lent f.rule1.fits f.rule3)

  -- THE LAST SLOT of the top chain is in the table, and its rectangle is not empty and ends where the whole does.
  found : OnTop (seen s.words) s.head.count (runs_at s) (last_at s).0 × ((seen s.words (last_at s).0).next ≡ none)
  found = last_on_top s.words s.head.count s.head.root.0 R.fills.rule3 s.head.root refl

  end_has : HasSlot s.words (last_at s)
  end_has = omega (arith, found.0.live.0, R.fills.rule1.fits, lent_slots s R.lent)

  end_some : NotEmpty (node_at s.words (last_at s)).rect
  unfolding seen
  end_some =
      let f = R.fills in
      last_some (seen s.words) s.head.count s.head.root.0 f.rule3 R.all f.rule5 f.rule7 (last_at s).0 found.0.live found.0.parent found.1

  end_room : ((node_at s.words (last_at s)).rect.x1 + by < 2 ^ 32) × ((node_at s.words (last_at s)).rect.y1 + by < 2 ^ 32)
  unfolding seen
  end_room =
      let e = ends_alike (runs_at s) R.all (node_at s.words (last_at s)).rect by (along_steps s R.all R.lent R.fills R.lone by R.more R.spare).0 in
      (rw e.0 R.room.0, rw e.1 R.room.1)

  -- A rectangle that is not empty is ready for the step.
  step_ready : (r : Rectangle) → NotEmpty r → StepReady s.words (lists_of s) (last_at s) r
  step_ready r h = record { lists = lists_ready s R.lent R.fills.rule1; slot = end_has; wide = omega (arith, h.0); tall = omega (arith, h.1) }

  new_some : (o : Orientation) → NotEmpty (appended_rect o (node_at s.words (last_at s)).rect by)
  new_some o = appended_some o (node_at s.words (last_at s)).rect by end_some R.more

  longer_some : (o : Orientation) → NotEmpty (stretched_rect o (node_at s.words (last_at s)).rect by)
  longer_some o =
      let r = (node_at s.words (last_at s)).rect in
      rw (← appended_join o r by) (join_not_empty o r (appended_rect o r by) (appended_adjoins o r by) end_some (new_some o))

  -- The same of the slot that was found, and the two ways to go on.
  module _ {i : AllocIndex} (last : i ≡ last_at s) where
    pub last_has : HasSlot s.words i
    last_has = rw last end_has

    module _ {v : Node} (node : v ≡ node_at s.words i) where
      pub last_room : (v.rect.x1 + by < 2 ^ 32) × (v.rect.y1 + by < 2 ^ 32)
      last_room = rw (node, last) end_room

      module _ {m : Node} (top : m ≡ node_at s.words s.head.root) where
        pub stretch_ready : {q : Rectangle} → q ≡ stretched_rect m.orientation v.rect by → StepReady s.words (lists_of s) i q
        stretch_ready e = rw (e, node, last) (step_ready _ (longer_some m.orientation))

        pub append_ready : {q : Rectangle} → same_kind v.kind Free ≡ false → q ≡ appended_rect m.orientation v.rect by
            → HasSpare s.words s.generations s.head × StepReady s.words (lists_of s) i q
        append_ready solid e =
            let f = R.fills in
            let T = start_taking s.words s.generations s.head f.rule2 f.rule1.fits in
            let kind : free_entry s.words (last_at s).0 ≡ false = rw (node, last) at solid in
            let spare : pick (not false) 1 0 ≤ spare_at s = rw kind at R.spare in
            (has_spare R.lent.few T (lent_slots s R.lent) (omega arith), rw (e, node, last) (step_ready _ (new_some m.orientation)))

        -- Either is growing along.
        pub stretch_is_along : {q : Rectangle} {t : State} → same_kind v.kind Free ≡ true → q ≡ stretched_rect m.orientation v.rect by
            → t ≡ stretched s i q → t ≡ grown_along s by
        unfolding grown_along
        stretch_is_along free e w = rw (w, e, top, ← last, ← node, free)

        pub append_is_along : {q : Rectangle} {t : State} → same_kind v.kind Free ≡ false → q ≡ appended_rect m.orientation v.rect by
            → t ≡ appended_to s i m.orientation q → t ≡ grown_along s by
        unfolding grown_along
        append_is_along solid e w = rw (w, e, top, ← last, ← node, solid)
