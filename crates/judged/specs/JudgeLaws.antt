-- The laws by which the verdict on rules 3 to 7 is proved: what the walk and each scan decides.
-- Assumes nothing.
use Rattle.std.specs.Option.{unwrap_or}
use Rattle.std.specs.Prelude.{◌≡◌, refl, Bool, true, false, List, Option, Some, None, ℕ, ◌-◌, ◌≤◌, ◌<◌, length}
use Rattle.std.proofs.Common.{sym, subst, ◌∙◌}
use Rattle.std.proofs.Math.Bool.{true≢false}
use Rattle.geometry.specs.TestLaws.{and_true_each}
use Rattle.geometry.specs.declared.Rectangle.{Rectangle}
use Rattle.geometry.specs.declared.Setup.{Setup}
use Rattle.slots.specs.Slots.{slot}
use Rattle.table.specs.Table.{node_at}
use Rattle.slots.specs.declared.Node.{Node}
use Rattle.steps.specs.Spares.{unused_below}
use Rattle.sound.specs.View.{none, link_of, seen}
use Rattle.sound.specs.Rules.{PlaceChain}
use Rattle.sound.specs.Sound.{Linked, Merged, LastTrue}
use Rattle.places.specs.Places.{Chained}
use Rattle.places.proofs.PlaceLaws.{same_rect_says}
use Rattle.places.specs.RuleLaws.{live_slots, FirstsRight}
use Rattle.places.proofs.RuleLaws.{walk_linked, linked_walk, walk_placed, placed_walk, walk_stored}
use Rattle.joins.specs.declared.Placed.{Placed}
use Rattle.links.specs.Links.{links_at, merged_at}
use Rattle.links.specs.FirstLaws.{Firsts}
use Rattle.links.proofs.MergedLaws.{merged_yes, merged_no}
use Rattle.links.proofs.SpareLaws.{live_count}
use Rattle.links.specs.TestLaws.{Says, fails, both_say, says_as, equal_says}
use Rattle.scans.specs.Tests.{filled_at, not_last_at, settled_at}
use Rattle.marks.specs.Marks.{listed_at}
use Rattle.below.specs.Below.{first_from, first_bad}
use Rattle.below.specs.FirstLaws.{lowest_breaks, lowest_all, bad_some, bad_none}
use Rattle.judged.specs.Verdicts.{Verdict, lowest_bad}
use Rattle.judged.specs.VerdictLaws.{bad_place}
use Rattle.judged.specs.Judged.{broken_at, whole, is_whole, is_filled, AllMarked, Prepared, Walked, Judged, sound, rule3, rule4, rule5, rule6, rule7}

-- A walk that fits together and fills r.
filled_says : (p : Placed) (r : Rectangle) → Says (is_filled p r) ((p.fits ≡ true) × (p.at ≡ r))
unfolding is_filled
filled_says p r = both_say (λ e. e, λ e. e) (same_rect_says p.at r)

whole_says : (p : Placed) → Says (is_whole p) ((p.ended ≡ true) × (p.left ≡ 0))
unfolding is_whole
whole_says p = both_say (λ e. e, λ e. e) (equal_says p.left 0)

-- A verdict at the lowest place that a scan found.
at_broken : (J : ℕ → ℕ → Type 0) (p : ℕ → Bool) (rule k n : ℕ) {a : Verdict} → a ≡ broken_at rule k n → k ≡ first_from p 0 n → J rule (lowest_bad p n) → J a.rule a.place
unfolding lowest_bad
at_broken J p rule k n e is v = rw (e, is) v

-- THE WALK from the root decides rule 3, and where it holds rules 5 and 7.
pub record Decided (w : List ℕ) (n root : ℕ) (p : Placed) : Type 0 where
  pub linked : Says (is_whole p) (Linked (seen w) n root)
  pub placed : Linked (seen w) n root → (r : Rectangle) → Says (is_filled p r) (PlaceChain (seen w) n root r)
  pub stored : Linked (seen w) n root → p.fits ≡ true → Says p.stored (LastTrue (seen w) n)

decided : (w fs : List ℕ) (root live : ℕ) (p : Placed) → Chained w fs root none none (seen w root).orientation live p
    → Firsts w fs (length fs) → live ≡ length fs - unused_below w (length fs) → Decided w (length fs) root p
unfolding live_slots
decided w fs root live p c f e =
    record {
      linked = says_as (whole_says p) (λ h. walk_linked w fs root d h.0 h.1, λ K. linked_walk w fs root d (right K) K);
      placed = λ K r. says_as (filled_says p r) (λ h. rw (← h.1) (walk_placed w fs root d (right K) K h.0), placed_walk w fs root d (right K) K r);
      stored = λ K. walk_stored w fs root d (right K) K;
    }
  where
    d : Chained w fs root none none (seen w root).orientation (live_slots w (length fs)) p
    d = rw (live_count w (length fs) ∙ sym e) c

    -- Where rule 3 holds, the first child that was entered at a Container is its one.
    right : Linked (seen w) (length fs) root → FirstsRight w fs
    right K i c lv k h = K.near.one_child i _ c (f.is_first_lem i lv.0 (f.some i c lv.0 h)) h

pub walk_decides : {w fs ms : List ℕ} {n root live : ℕ} {m : Node} {p : Placed} → Prepared w fs ms n root → live ≡ n - unused_below w n
    → m ≡ node_at w (slot root) → Chained w fs root (link_of (slot 4294967295)) none m.orientation live p → Decided w n root p
unfolding link_of seen
walk_decides {w} {fs} {ms} {n} {root} {live} {m} {p} P e is c =
    subst (λ n. Firsts w fs n → live ≡ n - unused_below w n → Decided w n root p) P.front (decided w fs root live p (rw is at c)) P.firsts e

-- THE VERDICT on rules 3 to 7.
module _ (w fs ms : List ℕ) (n root : ℕ) (u : Setup) (P : Prepared w fs ms n root) where
  abbrev Judges : Verdict → Type 0
  Judges a = Judged w fs ms n root u a.rule a.place

  module _ {p : Placed} (D : Decided w n root p) where
    pub judge_loose : is_whole p ≡ false → {k : ℕ} {a : Verdict} → k ≡ first_from (links_at w fs n root) 0 n → a ≡ broken_at 3 k n → Judges a
    judge_loose b {k} is e = at_broken (Judged w fs ms n root u) (links_at w fs n root) 3 k n e is (rule3 (fails D.linked b))

    pub judge_walked : is_whole p ≡ true → {b : Bool} → b ≡ is_filled p (whole u) → Walked w n root (whole u) b p.stored
    judge_walked e {b} q =
        let K = D.linked.0 e in
        record { linked = K; placed = rw q (D.placed K (whole u)); last = λ f. D.stored K ((filled_says p (whole u)).0 (sym q ∙ f)).0 }

  -- Where all holds, no place is looked for.
  pub judge_holds : {filled stored : Bool} → Walked w n root (whole u) filled stored → filled ≡ true → stored ≡ true
      → {k : ℕ} → k ≡ first_from (settled_at w ms n u) 0 n → n ≤ k → Judged w fs ms n root u 0 0
  unfolding settled_at
  judge_holds W f g {k} is h =
      sound W.linked (merged_yes w n root P.table W.linked (λ i b. (each i b).0)) (W.placed.0 f) (λ i b. (each i b).1) ((W.last f).0 g)
    where
      each : (i : ℕ) → i < n → (merged_at w n i ≡ true) × (listed_at w ms u i ≡ true)
      each i b = and_true_each (merged_at w n i) (listed_at w ms u i) (lowest_all (settled_at w ms n u) n k is h i b)

  module _ {filled stored : Bool} (W : Walked w n root (whole u) filled stored) {a : ℕ} (is_a : a ≡ first_from (merged_at w n) 0 n) where
    pub judge_split : {v : Verdict} → v ≡ broken_at 4 a n → a < n → Judges v
    judge_split e h =
        at_broken (Judged w fs ms n root u) (merged_at w n) 4 a n e is_a
        (rule4 W.linked (λ M. true≢false (sym (merged_no w n root P.table W.linked M a h) ∙ lowest_breaks (merged_at w n) n a is_a h)))

    module _ (doneA : n ≤ a) where
      merged : Merged (seen w) n
      merged = merged_yes w n root P.table W.linked (lowest_all (merged_at w n) n a is_a doneA)

      pub judge_unfilled : {b : ℕ} {v : Verdict} → filled ≡ false → b ≡ first_from (filled_at w) 0 n → v ≡ broken_at 5 b n → Judges v
      judge_unfilled {b} q is e = at_broken (Judged w fs ms n root u) (filled_at w) 5 b n e is (rule5 W.linked merged (fails W.placed q))

      module _ (doneB : filled ≡ true) {c : ℕ} (isC : c ≡ first_from (listed_at w ms u) 0 n) where
        pub judge_unlisted : {v : Verdict} → v ≡ broken_at 6 c n → c < n → Judges v
        judge_unlisted e h =
            at_broken (Judged w fs ms n root u) (listed_at w ms u) 6 c n e isC
            (rule6 W.linked merged (W.placed.0 doneB) (λ M. true≢false (sym (M c h) ∙ lowest_breaks (listed_at w ms u) n c isC h)))

        module _ (doneC : n ≤ c) where
          marked : AllMarked w ms u n
          marked = lowest_all (listed_at w ms u) n c isC doneC

          pub judge_sound : stored ≡ true → Judged w fs ms n root u 0 0
          judge_sound e = sound W.linked merged (W.placed.0 doneB) marked ((W.last doneB).0 e)

          pub judge_last : stored ≡ false → {d : ℕ} {v : Verdict} → d ≡ first_from (not_last_at w n) 0 n → v ≡ broken_at 7 d n → Judges v
          judge_last q {d} is e =
              at_broken (Judged w fs ms n root u) (not_last_at w n) 7 d n e is
              (rule7 W.linked merged (W.placed.0 doneB) marked (fails (W.last doneB) q))

-- THE SAME, of searches that find a place or none.
module _ (w fs ms : List ℕ) (n root : ℕ) (u : Setup) (P : Prepared w fs ms n root) where
  abbrev JudgesAt : ℕ → ℕ → Type 0
  JudgesAt = Judged w fs ms n root u

  module _ {p : Placed} (D : Decided w n root p) where
    pub loose_found : is_whole p ≡ false → {r : Option ℕ} → r ≡ first_bad (links_at w fs n root) n → JudgesAt 3 (unwrap_or r 0)
    loose_found b is = rw (bad_place (links_at w fs n root) n is) (rule3 (fails D.linked b))

  -- Where all holds, no place is looked for.
  pub holds_found : {filled stored : Bool} → Walked w n root (whole u) filled stored → filled ≡ true → stored ≡ true
      → None ≡ first_bad (settled_at w ms n u) n → JudgesAt 0 0
  unfolding settled_at
  holds_found W f g is =
      sound W.linked (merged_yes w n root P.table W.linked (λ i b. (each i b).0)) (W.placed.0 f) (λ i b. (each i b).1) ((W.last f).0 g)
    where
      each : (i : ℕ) → i < n → (merged_at w n i ≡ true) × (listed_at w ms u i ≡ true)
      each i b = and_true_each (merged_at w n i) (listed_at w ms u i) (lowest_all (settled_at w ms n u) n _ refl (bad_none (settled_at w ms n u) n is) i b)

  module _ {filled stored : Bool} (W : Walked w n root (whole u) filled stored) where
    pub split_found : {k : ℕ} → Some k ≡ first_bad (merged_at w n) n → JudgesAt 4 k
    split_found {k} is =
        let q = bad_some (merged_at w n) n is in
        let e : lowest_bad (merged_at w n) n ≡ k = sym (bad_place (merged_at w n) n is) in
        rw (← e) (rule4 W.linked (λ M. true≢false (sym (merged_no w n root P.table W.linked M k q.0) ∙ lowest_breaks (merged_at w n) n k q.1 q.0)))

    module _ (doneA : None ≡ first_bad (merged_at w n) n) where
      merged_all : Merged (seen w) n
      merged_all = merged_yes w n root P.table W.linked (lowest_all (merged_at w n) n _ refl (bad_none (merged_at w n) n doneA))

      pub unfilled_found : filled ≡ false → {r : Option ℕ} → r ≡ first_bad (filled_at w) n → JudgesAt 5 (unwrap_or r 0)
      unfilled_found q is = rw (bad_place (filled_at w) n is) (rule5 W.linked merged_all (fails W.placed q))

      module _ (doneB : filled ≡ true) where
        pub unlisted_found : {k : ℕ} → Some k ≡ first_bad (listed_at w ms u) n → JudgesAt 6 k
        unlisted_found {k} is =
            let q = bad_some (listed_at w ms u) n is in
            let e : lowest_bad (listed_at w ms u) n ≡ k = sym (bad_place (listed_at w ms u) n is) in
            rw (← e) (rule6 W.linked merged_all (W.placed.0 doneB) (λ M. true≢false (sym (M k q.0) ∙ lowest_breaks (listed_at w ms u) n k q.1 q.0)))

        module _ (doneC : None ≡ first_bad (listed_at w ms u) n) where
          marked_all : AllMarked w ms u n
          marked_all = lowest_all (listed_at w ms u) n _ refl (bad_none (listed_at w ms u) n doneC)

          pub sound_found : stored ≡ true → JudgesAt 0 0
          sound_found e = sound W.linked merged_all (W.placed.0 doneB) marked_all ((W.last doneB).0 e)

          pub last_found : stored ≡ false → {r : Option ℕ} → r ≡ first_bad (not_last_at w n) n → JudgesAt 7 (unwrap_or r 0)
          last_found q is =
              rw (bad_place (not_last_at w n) n is) (rule7 W.linked merged_all (W.placed.0 doneB) marked_all (fails (W.last doneB) q))
