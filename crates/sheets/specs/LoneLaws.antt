-- One Free slot without links, alone below n = 1: rules 2, 3, 4, 5 and 7 hold.
-- Assumes nothing.
use Rattle.std.specs.Prelude.{◌≡◌, refl, Bool, true, false, ℕ, ◌<◌}
use Rattle.std.proofs.Common.{ap, sym, subst, ◌∙◌, true≢false, inr, arith}
use Rattle.std.proofs.lemmas.Bool.{false≢true}
use Rattle.geometry.specs.declared.Orientation.TheVariants.{Vertical}
use Rattle.geometry.specs.declared.Rectangle.{Rectangle}
use Rattle.slots.specs.declared.NodeKind.{NodeKind}
use Rattle.slots.specs.declared.NodeKind.TheVariants.{Container, Alloc, Free, Unused}
use Rattle.sound.specs.View.{Link, none, to, Seen, in_use, Live, Dead}
use Rattle.sound.specs.ViewLaws.{no_link}
use Rattle.sound.specs.Rules.{Ends, arrived, onward, Visits, it, later, FirstChild, NotEmpty, PlaceSlot, own, PlaceChain, last}
use Rattle.sound.specs.Sound.{SpareChain, Linked, Merged, LastTrue}

-- A Free slot with a rectangle and no links.
abbrev pub lone : Rectangle → Seen
lone r = record { parent = none; next = none; prev = none; kind = Free; orientation = Vertical; rect = r }

none_visits : {f : ℕ → Link} {a : ℕ} {l : Link} → Visits f a l → l ≡ none → ⊥
none_visits it e = let z : ◌≡◌ {A = ℕ} 0 1 = cc in omega arith
none_visits (later v) e = let z : ◌≡◌ {A = ℕ} 0 1 = cc in omega arith

not_free : Free ≡ Container → ⊥
not_free p = let z : ◌≡◌ {A = ℕ} 0 1 = cc in omega arith

module _ (get : ℕ → Seen) (r : Rectangle) (is : get 0 ≡ lone r) where
  first : (i : ℕ) → i < 1 → get i ≡ lone r
  first i h = ap get (omega arith) ∙ is

  no_parent : (i j : ℕ) → i < 1 → (get i).parent ≡ to j → ⊥
  no_parent i j h e = no_link (sym (ap (λ (m : Seen). m.parent) (first i h)) ∙ e)

  no_next : (i j : ℕ) → i < 1 → (get i).next ≡ to j → ⊥
  no_next i j h e = no_link (sym (ap (λ (m : Seen). m.next) (first i h)) ∙ e)

  no_prev : (i j : ℕ) → i < 1 → (get i).prev ≡ to j → ⊥
  no_prev i j h e = no_link (sym (ap (λ (m : Seen). m.prev) (first i h)) ∙ e)

  kind_free : (i : ℕ) → i < 1 → (get i).kind ≡ Free
  kind_free i h = ap (λ (m : Seen). m.kind) (first i h)

  no_container : (i : ℕ) → i < 1 → (get i).kind ≡ Container → ⊥
  no_container i h e = not_free (sym (kind_free i h) ∙ e)

  live_one : (i : ℕ) → i < 1 → Live get 1 i
  live_one i h = (h, ap in_use (kind_free i h))

  parents_end : (i : ℕ) → i < 1 → Ends (λ j. (get j).parent) (to i)
  parents_end i h = onward {i = i} (rw (ap (λ (m : Seen). m.parent) (first i h)) arrived)

  nexts_end : (i : ℕ) → i < 1 → Ends (λ j. (get j).next) (to i)
  nexts_end i h = onward {i = i} (rw (ap (λ (m : Seen). m.next) (first i h)) arrived)

  -- RULE 2, with an empty spare chain.
  pub lone_spare : SpareChain get 1 none
  lone_spare =
      record {
        each = λ i d. absurd (true≢false (sym (live_one i d.0).1 ∙ d.1));
        only = λ i v. absurd (none_visits v refl);
        ends = arrived;
      }

  -- RULE 3.
  pub lone_linked : Linked get 1 0
  lone_linked =
      record {
        near = record {
          parent_live = λ i j v e. absurd (no_parent i j v.0 e);
          next_live = λ i j v e. absurd (no_next i j v.0 e);
          prev_live = λ i j v e. absurd (no_prev i j v.0 e);
          next_prev = λ i j v e. absurd (no_next i j v.0 e);
          prev_next = λ i j v e. absurd (no_prev i j v.0 e);
          same_parent = λ i j v e. absurd (no_next i j v.0 e);
          same_orientation_lem = λ i j v e. absurd (no_next i j v.0 e);
          parent_kind = λ i j v e. absurd (no_parent i j v.0 e);
          parent_orientation = λ i j v e. absurd (no_parent i j v.0 e);
          child = λ i v k. absurd (no_container i v.0 k);
          one_child = λ i c d a b. absurd (no_parent c i a.live.0 a.parent);
          root_live = live_one 0 (omega arith);
          root_parent = ap (λ (m : Seen). m.parent) is;
          root_prev = ap (λ (m : Seen). m.prev) is;
          root_only = λ i v p q. let h = v.0 in omega arith;
        };
        parents_end = λ i v. parents_end i v.0;
        nexts_end = λ i v. nexts_end i v.0;
      }

  -- RULE 4.
  pub lone_merged : Merged get 1
  lone_merged =
      record {
        apart = λ i j v e a b. no_next i j v.0 e;
        sibling = λ i j v k e a b. no_parent i j v.0 e;
      }

  -- RULE 5, where the rectangle is not empty.
  pub lone_placed : NotEmpty r → PlaceChain get 1 0 r
  lone_placed e =
      let q : (get 0).rect ≡ r = ap (λ (m : Seen). m.rect) is in
      subst (λ (x : Rectangle). PlaceChain get 1 0 x) q
      (last {r = (get 0).rect} (ap (λ (m : Seen). m.next) is) (own {i = 0} (inr (kind_free 0 (omega arith))) (rw q e)))

  -- RULE 7.
  pub lone_last : LastTrue get 1
  lone_last i v p e k = absurd (no_container i v.0 k)
