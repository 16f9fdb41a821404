-- The whole of a grow: a lone Free root is stretched, or the two steps are taken.
-- Assumes nothing.
use Rattle.std.specs.Prelude.{◌+◌, ◌≤◌, ◌≡◌, Bool}
use Rattle.std.proofs.Math.Path.{refl}
use Rattle.std.proofs.Math.Bool.{true, false}
use Rattle.std.proofs.Common.{arith}
use Rattle.geometry.specs.Choice.{pick}
use Rattle.geometry.specs.Sides.{setup_of}
use Rattle.geometry.specs.declared.Size.{Size}
use Rattle.steps.specs.State.{State, state}
use Rattle.sound.specs.View.{seen}
use Rattle.sound.specs.Rules.{NotEmpty}
use Rattle.sound.specs.Sound.{Sound, sheet_of}
use Rattle.links.specs.TestLaws.{fails}
use Rattle.lone.specs.Lone.{lone_free}
use Rattle.lone.specs.LoneLaws.{lone_says}
use Rattle.lent.specs.Lent.{LentOf}
use Rattle.granted.specs.Terms.{spare_at}
use Rattle.grows.specs.Grows.{with_sheet, stretched, grown_both, grown, grow_slots}
use Rattle.grown.specs.Fills.{Fills, Carries, Lone}
use Rattle.grown.specs.Filled.{whole_some}
use Rattle.grown.specs.Growths.{larger_some}
use Rattle.grown.proofs.Stretching.{lone_steps}
use Rattle.grown.specs.Both.{needs_along, needs_across}
use Rattle.grown.proofs.Both.{both_steps}
use Rattle.grown.specs.Terms.{GrowDue}

module _ (s : State) (new : Size) (L : LentOf s) (S : Sound s) (G : GrowDue s new) where
  -- The state with the new sheet: its top chain still fills the old one.
  abbrev t : State
  t = state (with_sheet s.head new) s.words s.generations s.small s.medium s.large

  pub begins : Fills t (sheet_of s.head.sheet)
  unfolding setup_of
  begins = record {
    rule1 = record {
      some = S.rule1.some;
      fits = S.rule1.fits;
      valid = G.valid;
      within = S.rule1.within;
      root = S.rule1.root;
      entries = S.rule1.entries;
    };
    rule2 = S.rule2;
    rule3 = S.rule3;
    rule4 = S.rule4;
    rule5 = S.rule5;
    rule6 = S.rule6;
    rule7 = S.rule7;
  }

  some : NotEmpty (sheet_of new)
  some =
      larger_some s.head.sheet new G.wide G.tall
      (whole_some (seen s.words) s.head.count s.head.root.0 S.rule3 (sheet_of s.head.sheet) S.rule5)

  -- The new sheet is filled, and as many slots are taken as counted.
  pub grown_steps : Fills (grown s new) (sheet_of new) × Carries t (grown s new) (grow_slots s new)
  unfolding grown grow_slots seen
  grown_steps = go (lone_free s.words s.head.root) refl G.enough
    where
      go : (b : Bool) → lone_free s.words s.head.root ≡ b
          → pick b 0 (needs_along t s.head.sheet new + needs_across t s.head.sheet new) ≤ spare_at s
          → Fills (pick b (stretched t s.head.root (sheet_of new)) (grown_both t s.head.sheet new)) (sheet_of new)
          × Carries t (pick b (stretched t s.head.root (sheet_of new)) (grown_both t s.head.sheet new))
          (pick b 0 (needs_along t s.head.sheet new + needs_across t s.head.sheet new))
      go true e h = let z = (lone_says s.words s.head.root).0 e in lone_steps t (sheet_of s.head.sheet) L begins (sheet_of new) some (omega (arith, G.wide), omega (arith, G.tall)) z.0 z.1
      go false e h = both_steps t s.head.sheet new L begins (fails (lone_says s.words s.head.root) e) G.wide G.tall h
