-- Grow in two steps: along the root's orientation, then across it, each if the sheet grows that way.
-- Assumes nothing.
use Rattle.std.specs.Prelude.{ℕ, ◌+◌, ◌≤◌, ◌<◌, ◌≡◌, Bool, true, false, ◌&&◌, not, ltb}
use Rattle.std.proofs.Math.Path.{refl}
use Rattle.std.proofs.Common.{arith, ltb-true, ltb-false}
use Rattle.geometry.specs.Choice.{pick}
use Rattle.geometry.specs.Rectangles.{flip}
use Rattle.geometry.specs.Sides.{natural, extent_of}
use Rattle.geometry.specs.declared.Orientation.{Orientation}
use Rattle.geometry.specs.declared.Rectangle.{Rectangle}
use Rattle.geometry.specs.declared.Size.{Size}
use Rattle.slots.specs.declared.AllocIndex.{AllocIndex}
use Rattle.slots.specs.declared.NodeKind.TheVariants.{Free}
use Rattle.lists.specs.Lists.{free_entry}
use Rattle.steps.specs.State.{State}
use Rattle.sound.specs.View.{none, seen}
use Rattle.sound.specs.Rules.{NotEmpty, Adjoin}
use Rattle.sound.specs.Sound.{sheet_of}
use Rattle.links.specs.TestLaws.{fails, kind_says}
use Rattle.lent.specs.Lent.{LentOf}
use Rattle.granted.specs.Terms.{spare_at}
use Rattle.strips.specs.Strips.{along, stretched_rect, appended_rect, strip_rect}
use Rattle.grows.specs.Grows.{growth, stretched, appended_to, grown_along, grown_across, grown_both}
use Rattle.grown.specs.Fills.{Fills, Carries, Lone, carries_same, carries_both}
use Rattle.grown.specs.Chains.{OnTop, last_on_top}
use Rattle.grown.specs.Filled.{whole_some, last_some}
use Rattle.grown.specs.Growths.{larger_some, appended_adjoins, appended_some, appended_join, whole_stretched, stretched_none, strip_adjoins, strip_joins, strip_some, along_alone}
use Rattle.grown.proofs.Stretching.{last_steps, last_roots}
use Rattle.grown.proofs.Appending.{append_steps}
use Rattle.grown.proofs.Crossing.{cross_steps}
use Rattle.grown.specs.Both.{runs_at, last_at, needs_along, needs_across, Reaches}

module _ (s : State) (all : Rectangle) (L : LentOf s) (S : Fills s all) (lone : Lone s → ⊥) where
  -- ALONG by d: the last slot is stretched if Free, else one is appended to it. Its rectangle ends where the whole does.
  pub along_steps : (d : ℕ) → 0 < d → pick (not (free_entry s.words (last_at s).0)) 1 0 ≤ spare_at s
      → Adjoin (runs_at s) all (appended_rect (runs_at s) (seen s.words (last_at s).0).rect d)
      × Reaches s (grown_along s d) (stretched_rect (runs_at s) all d) (pick (not (free_entry s.words (last_at s).0)) 1 0)
  unfolding grown_along seen
  along_steps d more = go (free_entry s.words i.0) refl
    where
      i : AllocIndex
      i = last_at s

      o : Orientation
      o = runs_at s

      r : Rectangle
      r = (seen s.words i.0).rect

      found : OnTop (seen s.words) s.head.count o i.0 × ((seen s.words i.0).next ≡ none)
      found = last_on_top s.words s.head.count s.head.root.0 S.rule3 s.head.root refl

      some : NotEmpty (appended_rect o r d)
      some = appended_some o r d (last_some (seen s.words) s.head.count s.head.root.0 S.rule3 all S.rule5 S.rule7 i.0 found.0.live found.0.parent found.1) more

      ad : Adjoin (seen s.words i.0).orientation r (appended_rect o r d)
      ad = rw found.0.orientation (appended_adjoins o r d)

      go : (b : Bool) → free_entry s.words i.0 ≡ b → pick (not b) 1 0 ≤ spare_at s
          → Adjoin o all (appended_rect o r d)
          × Reaches s (pick b (stretched s i (stretched_rect o r d)) (appended_to s i o (appended_rect o r d))) (stretched_rect o all d) (pick (not b) 1 0)
      go true e h =
          let free = (kind_says (seen s.words i.0).kind Free).0 e in
          let z = last_steps s all L S i (appended_rect o r d) found.0.live free found.0.parent found.1 some ad in
          let w = whole_stretched o all r d z.0 in
          let j = appended_join o r d in (
            z.0,
            record {
              fills = rw (← j, ← w) z.1;
              carries = rw (← j) z.2;
              roots = last_roots s all L S i (stretched_rect o r d) found.0.live free found.1 lone;
            },
          )
      go false e h =
          let z = append_steps s all L S i (appended_rect o r d) found.0.live (fails (kind_says (seen s.words i.0).kind Free) e) found.0.parent found.1 some ad h lone in
          let w = whole_stretched o all r d z.0 in (
            z.0,
            record {
              fills = rw (← w) (rw found.0.orientation at z.1);
              carries = rw found.0.orientation at z.2;
              roots = rw found.0.orientation at z.3;
            },
          )

module _ (s : State) (old new : Size) (L : LentOf s) (S : Fills s (sheet_of old)) (lone : Lone s → ⊥)
    (wide : natural old.width ≤ natural new.width) (tall : natural old.height ≤ natural new.height) where
  abbrev o : Orientation
  o = runs_at s

  abbrev d : ℕ
  d = along o (growth old new)

  -- After the step along, if any, the top chain fills the old sheet stretched.
  pub between : (b : Bool) → ltb 0 d ≡ b → pick (b && not (free_entry s.words (last_at s).0)) 1 0 ≤ spare_at s
      → Reaches s (pick b (grown_along s d) s) (stretched_rect o (sheet_of old) d) (pick (b && not (free_entry s.words (last_at s).0)) 1 0)
  between true e h = (along_steps s (sheet_of old) L S lone d (ltb-true 0 d e) h).1
  between false e h =
      let z : d ≡ 0 = omega (arith, ltb-false 0 d e) in
      record { fills = rw (stretched_none o (sheet_of old) d z) S; carries = carries_same L; roots = record { orientation = refl; lone = lone } }

  -- The new sheet is not empty.
  some : NotEmpty (sheet_of new)
  some = larger_some old new wide tall (whole_some (seen s.words) s.head.count s.head.root.0 S.rule3 (sheet_of old) S.rule5)

  after : (m : State) (k : ℕ) → Reaches s m (stretched_rect o (sheet_of old) d) k → (b : Bool) → ltb 0 (along (flip o) (growth old new)) ≡ b → k + pick b 2 0 ≤ spare_at s
      → Fills (pick b (grown_across m (strip_rect (flip o) (extent_of old) (extent_of new))) m) (sheet_of new) × Carries s (pick b (grown_across m (strip_rect (flip o) (extent_of old) (extent_of new))) m) (k + pick b 2 0)
  after m k R true e h =
      let c = R.carries.spares in
      let z = cross_steps m (stretched_rect o (sheet_of old) d) R.carries.lent R.fills (strip_rect (flip o) (extent_of old) (extent_of new)) R.roots.lone
      (strip_some old new wide tall o some (ltb-true 0 (along (flip o) (growth old new)) e)) (rw R.roots.orientation (strip_adjoins old new wide tall o)) (omega arith) in
      (rw (strip_joins old new wide tall o) at z.0, carries_both R.carries z.1)
  after m k R false e h =
      let z : along (flip o) (growth old new) ≡ 0 = omega (arith, ltb-false 0 (along (flip o) (growth old new)) e) in
      (rw (← along_alone old new wide tall o z) R.fills, carries_both R.carries (carries_same R.carries.lent))

  -- ALONG, THEN ACROSS takes tables that fill the old sheet to tables that fill the new one.
  pub both_steps : needs_along s old new + needs_across s old new ≤ spare_at s
      → Fills (grown_both s old new) (sheet_of new) × Carries s (grown_both s old new) (needs_along s old new + needs_across s old new)
  unfolding grown_both seen
  both_steps h =
      after (pick (ltb 0 d) (grown_along s d) s) (needs_along s old new) (between (ltb 0 d) refl (omega arith)) (ltb 0 (along (flip o) (growth old new))) refl h
