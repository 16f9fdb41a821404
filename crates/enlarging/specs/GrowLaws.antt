-- The laws by which a grow is proved, from what each call ensures.
-- Assumes nothing.
use Rattle.std.specs.Prelude.{◌≡◌, Bool, ◌&&◌, ℕ, ◌+◌, ◌^◌, ◌≤◌, ◌<◌}
use Rattle.std.proofs.Math.Path.{refl, sym}
use Rattle.std.proofs.Common.{◌∙◌, arith}
use Rattle.std.proofs.Math.Bool.{true, false, not}
use Rattle.std.proofs.Math.Dec.{ltb}
use borrow.Author.Tests.{lt-ltb, le-ltb}
use Rattle.geometry.specs.Choice.{pick}
use Rattle.geometry.specs.Rectangles.{flip}
use Rattle.geometry.specs.SideLaws.{sheet_side_lem}
use Rattle.geometry.specs.Sides.{natural, extent_of, valid_setup, setup_of}
use Rattle.geometry.specs.TestLaws.{and_true_each}
use Rattle.geometry.specs.declared.AllocatorOptions.{AllocatorOptions}
use Rattle.geometry.specs.declared.Orientation.{Orientation}
use Rattle.geometry.specs.declared.Orientation.TheVariants.{Vertical, Horizontal}
use Rattle.geometry.specs.declared.Setup.{Setup}
use Rattle.geometry.specs.declared.Size.{Size}
use Rattle.slots.specs.declared.Node.{Node}
use Rattle.table.specs.Table.{node_at, HasSlot}
use Rattle.lists.specs.Lists.{free_entry}
use Rattle.steps.specs.State.{State, state, lists_of}
use Rattle.sound.specs.View.{seen}
use Rattle.sound.specs.Sound.{Sound, sheet_of}
use Rattle.links.specs.TestLaws.{fails}
use Rattle.lone.specs.Lone.{lone_free}
use Rattle.lone.specs.LoneLaws.{lone_says}
use Rattle.lent.specs.Lent.{LentOf}
use Rattle.granted.specs.SoundFacts.{lists_ready}
use Rattle.granted.specs.Terms.{spare_at}
use Rattle.strips.specs.Strips.{along, stretched_rect, strip_rect}
use Rattle.grows.specs.Grows.{with_sheet, growth, stretched, grown_along, grown_both, grown, grow_slots}
use Rattle.grown.specs.Both.{runs_at, last_at, needs_along, needs_across, Reaches}
use Rattle.grown.proofs.Both.{between}
use Rattle.grown.specs.Terms.{GrowDue}
use Rattle.grown.proofs.Whole.{begins}
use Rattle.growing.specs.Ready.{StepReady}
use Rattle.growing.specs.TopLaws.{root_has}
use Rattle.along.specs.Ready.{AlongReady}
use Rattle.across.specs.Ready.{AcrossReady}
use Rattle.ways.specs.Ways.{ways_of}
use Rattle.ways.specs.declared.Ways.{Ways}
use Rattle.enlarging.specs.Ready.{along_by, across_by, BothReady}

-- The sides of a valid sheet fit an i32.
sides_fit : (sheet : Size) (options : AllocatorOptions) → valid_setup sheet options ≡ true → (natural sheet.width < 2 ^ 31) × (natural sheet.height < 2 ^ 31)
unfolding valid_setup
sides_fit sheet options h =
    let a = and_true_each _ _ h in
    let b = and_true_each _ _ a.1 in
    (omega (arith, ((sheet_side_lem _).0 a.0).1), omega (arith, ((sheet_side_lem _).0 b.0).1))

-- A sheet grows by less than that along either orientation.
growth_fits : (o : Orientation) (old new : Size) → natural new.width < 2 ^ 31 → natural new.height < 2 ^ 31 → along o (growth old new) < 2 ^ 31
unfolding growth
growth_fits Vertical old new w h = omega arith
growth_fits Horizontal old new w h = omega arith

-- The strip has its corners in order.
strip_upright : (o : Orientation) (old new : Size) → natural old.width ≤ natural new.width → natural old.height ≤ natural new.height
    → ((strip_rect o (extent_of old) (extent_of new)).x0 ≤ (strip_rect o (extent_of old) (extent_of new)).x1)
    × ((strip_rect o (extent_of old) (extent_of new)).y0 ≤ (strip_rect o (extent_of old) (extent_of new)).y1)
strip_upright Vertical old new w h = (omega arith, h)
strip_upright Horizontal old new w h = (w, omega arith)

-- A step that is taken where a length is above 0.
pub step_on : (x y t : State) (d : ℕ) → 0 < d → t ≡ x → t ≡ pick (ltb 0 d) x y
step_on x y t d h e = rw (lt-ltb 0 d h) e

pub step_off : (x y : State) (d : ℕ) → d ≤ 0 → y ≡ pick (ltb 0 d) x y
step_off x y d h = rw (le-ltb 0 d h)

module _ {s : State} {old : Size} (R : BothReady s old) where
  -- The root is in the table.
  pub both_root : HasSlot s.words s.head.root
  both_root = root_has s R.lent R.fills.rule1.fits R.fills.rule3

  -- How far the sheet grows each way.
  module _ {m : Node} {g : Ways} (node : m ≡ node_at s.words s.head.root) (ways : g ≡ ways_of m.orientation old s.head.sheet) where
    abbrev d : ℕ
    d = along (runs_at s) (growth old s.head.sheet)

    by_along : g.along ≡ d
    unfolding ways_of seen
    by_along = rw (ways, node)

    -- ALONG,
    pub along_ready : 0 < g.along → AlongReady s g.along
    along_ready more =
        let fit = sides_fit s.head.sheet s.head.options R.fills.rule1.valid in
        let less : g.along < 2 ^ 31 = rw by_along (growth_fits (runs_at s) old s.head.sheet fit.0 fit.1) in
        let e : ltb 0 d ≡ true = lt-ltb 0 d (rw by_along at more) in
        let all : pick (true && not (free_entry s.words (last_at s).0)) 1 0 + needs_across s old s.head.sheet ≤ spare_at s = rw e at R.enough in
        record {
          all = sheet_of old;
          lent = R.lent;
          fills = R.fills;
          lone = R.lone;
          more = more;
          spare = omega arith;
          room = (omega (arith, R.wide), omega (arith, R.tall));
        }

    -- then ACROSS,
    pub across_ready : {t : State} → t ≡ along_by s g.along → 0 < g.across → AcrossReady t g.strip
    unfolding ways_of seen
    across_ready {t} steps more =
        let Z : Reaches s (pick (ltb 0 d) (grown_along s d) s) (stretched_rect (runs_at s) (sheet_of old) d) (needs_along s old s.head.sheet) =
        between s old s.head.sheet R.lent R.fills R.lone R.wide R.tall (ltb 0 d) refl (omega (arith, R.enough)) in
        let X : Reaches s t (stretched_rect (runs_at s) (sheet_of old) d) (needs_along s old s.head.sheet) = rw (steps, by_along) Z in
        let e : ltb 0 (along (flip (runs_at s)) (growth old s.head.sheet)) ≡ true = lt-ltb 0 _ (rw (ways, node) at more) in
        let both : needs_along s old s.head.sheet + pick true 2 0 ≤ spare_at s = rw e at R.enough in
        let up = strip_upright (flip m.orientation) old s.head.sheet R.wide R.tall in
        record {
          all = stretched_rect (runs_at s) (sheet_of old) d;
          lent = X.carries.lent;
          fills = X.fills;
          spare = omega (arith, X.carries.spares);
          wide = rw ways up.0;
          tall = rw ways up.1;
        }

    -- which is both.
    pub both_done : {t u : State} → t ≡ along_by s g.along → u ≡ across_by t g.across g.strip → u ≡ grown_both s old s.head.sheet
    unfolding grown_both ways_of
    both_done a b = rw (b, a, ways, node)

-- THE WHOLE, for sound tables and a size to which a grow is due.
module _ {s : State} {new : Size} (L : LentOf s) (S : Sound s) (G : GrowDue s new) where
  pub whole_root : HasSlot s.words s.head.root
  whole_root = root_has s L S.rule1.fits S.rule3

  module _ {b : Bool} (test : b ≡ lone_free s.words s.head.root) where
    -- A single Free root is stretched over the new sheet,
    pub lone_ready : {q : Setup} → q ≡ setup_of new s.head.options
        → StepReady s.words (lists_of s) s.head.root (record { x0 = 0; y0 = 0; x1 = q.sheet.width; y1 = q.sheet.height })
    lone_ready e =
        record { lists = lists_ready s L S.rule1; slot = whole_root; wide = omega arith; tall = omega arith }

    pub lone_done : {q : Setup} {t : State} → b ≡ true → q ≡ setup_of new s.head.options
        → t ≡ stretched (state (with_sheet s.head new) s.words s.generations s.small s.medium s.large) s.head.root
        (record { x0 = 0; y0 = 0; x1 = q.sheet.width; y1 = q.sheet.height })
        → t ≡ grown s new
    unfolding grown setup_of
    lone_done is e w = rw (w, e, sym test ∙ is)

    -- and otherwise the two steps are taken.
    pub both_ready : b ≡ false → BothReady (state (with_sheet s.head new) s.words s.generations s.small s.medium s.large) s.head.sheet
    unfolding grow_slots seen
    both_ready not =
        let e : lone_free s.words s.head.root ≡ false = sym test ∙ not in
        record {
          lent = L;
          fills = begins s new L S G;
          lone = fails (lone_says s.words s.head.root) e;
          wide = G.wide;
          tall = G.tall;
          enough = rw e at G.enough;
        }

    pub both_grows : {t : State} → b ≡ false
        → t ≡ grown_both (state (with_sheet s.head new) s.words s.generations s.small s.medium s.large) s.head.sheet new → t ≡ grown s new
    unfolding grown
    both_grows not w = rw (w, sym test ∙ not)
