-- The laws by which the questions before a grow are answered.
-- Assumes nothing.
use Rattle.std.specs.Prelude.{◌≡◌, refl, Bool, true, false, ◌&&◌, List, ℕ, ◌+◌, ◌≤◌, ◌<◌, ltb, leb}
use Rattle.std.proofs.Common.{ap, ◌∙◌, arith, ltb-false, lt-ltb, le-ltb, leb-true, leb-false}
use Rattle.std.proofs.Math.Path.{sym}
use Rattle.std.proofs.Math.Bool.{not}
use Rattle.std.proofs.lemmas.Bool.{not-true, not-false}
use Rattle.geometry.specs.Choice.{pick, pick_elim}
use Rattle.geometry.specs.Sides.{natural, extent_of, setup_of, valid_setup}
use Rattle.geometry.specs.TestLaws.{or_false_each}
use Rattle.geometry.specs.declared.AllocatorOptions.{AllocatorOptions}
use Rattle.geometry.specs.declared.Extent.{Extent}
use Rattle.geometry.specs.declared.Setup.{Setup}
use Rattle.geometry.specs.declared.Size.{Size}
use Rattle.table.specs.Table.{node_at}
use Rattle.slots.specs.Slots.{same_kind}
use Rattle.slots.specs.declared.AllocIndex.{AllocIndex}
use Rattle.slots.specs.declared.Node.{Node}
use Rattle.slots.specs.declared.NodeKind.TheVariants.{Free}
use Rattle.lists.specs.Lists.{free_entry}
use Rattle.steps.specs.State.{State}
use Rattle.steps.specs.declared.Head.{Head}
use Rattle.sound.specs.Sound.{Sound}
use Rattle.lone.specs.Lone.{lone_free}
use Rattle.lent.specs.Lent.{LentOf}
use Rattle.granted.specs.SoundFacts.{lent_slots, live_has_slot}
use Rattle.granted.specs.Terms.{spare_at}
use Rattle.grows.specs.Grows.{last_from, grow_slots}
use Rattle.grows.specs.Refusals.{is_smaller, grow_answer}
use Rattle.grown.specs.Chains.{last_on_top}
use Rattle.growing.specs.TopLaws.{top_has, top_some}
use Rattle.ways.specs.Ways.{ways_of}
use Rattle.ways.specs.declared.Ways.{Ways}
use Rattle.growable.specs.Growable.{Growable, slots_along}

-- SOUND TABLES of lengths in range are as the questions ask.
pub sound_growable : (s : State) → LentOf s → Sound s → Growable s.words s.generations s.head
sound_growable s L S =
    let fits = S.rule1.fits in
    record {
      top = record {
        some = top_some s L fits S.rule3;
        first = live_has_slot s L S s.head.root.0 S.rule3.near.root_live;
        chain = top_has s L fits S.rule3;
        last = live_has_slot s L S _ (last_on_top s.words s.head.count s.head.root.0 S.rule3 s.head.root refl).0.live;
      };
      spare = record { below = fits; few = L.few; slots = lent_slots s L; chain = S.rule2 };
    }

-- THE SLOTS THAT IT NEEDS, along: the sheet does not grow so,
module _ (w : List ℕ) (h : Head) (grows : Bool) where
  pub along_not : not grows ≡ true → 0 ≡ slots_along w h grows
  unfolding slots_along
  along_not e = rw (not-true grows e)

  -- or the last slot is Free or not;
  module _ {i : AllocIndex} {m : Node} {free : Bool} (on : not grows ≡ false) (is : i ≡ last_from h.count w h.root) (node : m ≡ node_at w i)
      (kind : free ≡ same_kind m.kind Free) where
    along_as : pick (not free) 1 0 ≡ slots_along w h grows
    unfolding slots_along
    along_as = rw (not-false grows on, ← is, ← node, ← kind)

    pub along_stretches : free ≡ true → 0 ≡ slots_along w h grows
    along_stretches e = sym (ap (λ (b : Bool). pick (not b) 1 0) e) ∙ along_as

    pub along_appends : free ≡ false → 1 ≡ slots_along w h grows
    along_appends e = sym (ap (λ (b : Bool). pick (not b) 1 0) e) ∙ along_as

  -- it is 1 at most;
  pub along_most : {k : ℕ} → k ≡ slots_along w h grows → k ≤ 1
  unfolding slots_along
  along_most {k} e = rw e (pick_elim (λ (n : ℕ). n ≤ 1) (grows && not (free_entry w (last_from h.count w h.root).0)) 1 0 (λ _. omega arith) (λ _. omega arith))

-- none for a single Free root,
module _ (s : State) (new : Size) {b : Bool} (lone : b ≡ lone_free s.words s.head.root) where
  pub slots_lone : b ≡ true → 0 ≡ grow_slots s new
  unfolding grow_slots
  slots_lone e = rw (sym lone ∙ e)

  -- else those along, and 2 across.
  module _ {k : ℕ} {m : Node} {f : Ways} (several : b ≡ false) (node : m ≡ node_at s.words s.head.root) (far : f ≡ ways_of m.orientation s.head.sheet new)
      (many : k ≡ slots_along s.words s.head (ltb 0 f.along)) where
    slots_both : k + pick (ltb 0 f.across) 2 0 ≡ grow_slots s new
    unfolding grow_slots slots_along ways_of
    slots_both = rw (many, far, node, sym lone ∙ several)

    pub slots_across : 0 < f.across → k + 2 ≡ grow_slots s new
    slots_across h = sym (ap (λ (x : Bool). k + pick x 2 0) (lt-ltb 0 f.across h)) ∙ slots_both

    pub slots_along_alone : f.across ≤ 0 → k ≡ grow_slots s new
    slots_along_alone h = omega (arith, sym (ap (λ (x : Bool). k + pick x 2 0) (le-ltb 0 f.across h)) ∙ slots_both)

-- The sheet of a setup.
pub setup_sheet : {t : Setup} (size : Size) (options : AllocatorOptions) → t ≡ setup_of size options → t.sheet ≡ extent_of size
unfolding setup_of
setup_sheet size options e = ap (λ (t : Setup). t.sheet) e

-- Where no side is smaller, each is as long as before.
pub not_smaller : (old new : Size) {d e : Extent} → d ≡ extent_of old → e ≡ extent_of new → is_smaller d e ≡ false
    → (natural old.width ≤ natural new.width) × (natural old.height ≤ natural new.height)
unfolding is_smaller
not_smaller old new p q h = let z = or_false_each _ _ (rw (p, q) at h) in (ltb-false _ _ z.0, ltb-false _ _ z.1)

-- THE ANSWER, test by test.
module _ (s : State) (new : Size) {d e : Extent} (now : d ≡ extent_of s.head.sheet) (then : e ≡ extent_of new) where
  pub answer_11 : is_smaller d e ≡ true → 11 ≡ grow_answer s new
  unfolding grow_answer
  answer_11 q = rw (← now, ← then, q)

  module _ (large : is_smaller d e ≡ false) where
    pub answer_3 : valid_setup new s.head.options ≡ false → 3 ≡ grow_answer s new
    unfolding grow_answer
    answer_3 q = rw (← now, ← then, large, q)

    module _ (valid : valid_setup new s.head.options ≡ true) {k : ℕ} (need : k ≡ grow_slots s new) {b : Bool} (enough : b ≡ leb k (spare_at s)) where
      answer_rest : pick (ltb (spare_at s) (grow_slots s new)) 7 0 ≡ grow_answer s new
      unfolding grow_answer
      answer_rest = rw (← now, ← then, large, valid)

      pub answer_7 : b ≡ false → 7 ≡ grow_answer s new
      answer_7 q =
          sym (ap (λ (x : Bool). pick x 7 0) (lt-ltb (spare_at s) (grow_slots s new) (rw need at (leb-false k (spare_at s) (sym enough ∙ q))))) ∙ answer_rest

      pub answer_0 : b ≡ true → 0 ≡ grow_answer s new
      answer_0 q =
          sym (ap (λ (x : Bool). pick x 7 0) (le-ltb (spare_at s) (grow_slots s new) (rw need at (leb-true k (spare_at s) (sym enough ∙ q))))) ∙ answer_rest
