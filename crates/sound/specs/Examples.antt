-- NO RULE IS EMPTY: small tables that one rule alone rules out. Each theorem takes its contradiction from that rule.
-- Assumes nothing.
use Rattle.std.specs.Prelude.{◌≡◌, refl, true, false, List, [], ◌∷◌, ℕ, ◌<◌, ◌≤◌, replicate, ℤ, pos}
use Rattle.std.proofs.Common.{ap, sym, ◌∙◌, ⊎_elim, true≢false, arith}
use Rattle.geometry.specs.Sides.{natural, sheet_side, valid_setup, setup_of}
use Rattle.geometry.specs.Buckets.{reaches, bucket_of}
use Rattle.geometry.specs.TestLaws.{same_or_not}
use Rattle.geometry.specs.declared.Rectangle.{Rectangle}
use Rattle.slots.specs.Slots.{slot, none, kind_of, orientation_of}
use Rattle.table.specs.Table.{word, node_at}
use Rattle.slots.specs.declared.NodeKind.TheVariants.{Container, Alloc, Free, Unused}
use Rattle.steps.specs.State.{State, state}
use Rattle.steps.specs.declared.Head.{Head}
use Rattle.sound.specs.View as view
use Rattle.sound.specs.View.{Seen, link_of, seen}
use Rattle.sound.specs.Rules.{it, FirstChild, PlaceSlot, own, children, PlaceChain, last, more}
use Rattle.sound.specs.Sound.{Sound}

-- Eight words of a slot: parent, next, prev, code and corners.
abbrev no : ℕ
no = 4294967295

-- A sheet of 10×10 with alignment 1×1 and thresholds 32 and 256, with a count, a root, a spare head and small entries.
abbrev head_of : ℕ → ℕ → ℕ → ℕ → Head
head_of count root spare entries =
    record {
      sheet = record { width = pos 10; height = pos 10 };
      options = record { alignment = record { width = pos 1; height = pos 1 }; small = pos 32; large = pos 256 };
      root = slot root;
      spare = slot spare;
      count = count;
      lengths = record { small = entries; medium = 0; large = 0 };
    }

abbrev tables : Head → List ℕ → State
tables h w = state h w (0 ∷ 0 ∷ []) (0 ∷ 1 ∷ []) (0 ∷ 0 ∷ []) (0 ∷ 0 ∷ [])

-- The whole sheet Free in slot 0; slot 1 holds nothing of meaning.
abbrev whole_free : List ℕ
whole_free = no ∷ no ∷ no ∷ 2 ∷ 0 ∷ 0 ∷ 10 ∷ 10 ∷ 0 ∷ 0 ∷ 0 ∷ 3 ∷ 0 ∷ 0 ∷ 0 ∷ 0 ∷ []

-- RULE 1: n is above N.
pub too_many_slots_not_sound : Sound (tables (head_of 3 0 no 1) whole_free) → ⊥
too_many_slots_not_sound s = let h = s.rule1.fits in omega arith

-- RULE 2: the spare chain visits a Free slot.
pub spare_visits_free_not_sound : Sound (tables (head_of 1 0 0 1) whole_free) → ⊥
unfolding seen node_at word kind_of link_of
spare_visits_free_not_sound s = true≢false (s.rule2.only 0 it).1

-- RULE 3: the root has a parent.
pub root_with_parent_not_sound : Sound (tables (head_of 1 0 no 1) (0 ∷ no ∷ no ∷ 2 ∷ 0 ∷ 0 ∷ 10 ∷ 10 ∷ 0 ∷ 0 ∷ 0 ∷ 3 ∷ 0 ∷ 0 ∷ 0 ∷ 0 ∷ [])) → ⊥
unfolding seen node_at word link_of
root_with_parent_not_sound s = let e = s.rule3.near.root_parent in let z : ◌≡◌ {A = ℕ} 0 1 = cc in omega arith

-- RULE 4: two Free siblings.
pub free_siblings_not_sound : Sound (tables (head_of 2 0 no 2) (no ∷ 1 ∷ no ∷ 2 ∷ 0 ∷ 0 ∷ 10 ∷ 4 ∷ no ∷ no ∷ 0 ∷ 2 ∷ 0 ∷ 4 ∷ 10 ∷ 10 ∷ [])) → ⊥
unfolding seen node_at word kind_of link_of
free_siblings_not_sound s = s.rule4.apart 0 1 (omega arith, refl) refl refl refl

-- The place of a slot that is no Container, and of a chain of one such slot, is its rectangle.
slot_own : {get : ℕ → Seen} {n i : ℕ} {r : Rectangle} → PlaceSlot get n i r → ((get i).kind ≡ Container → ⊥) → r ≡ (get i).rect
slot_own (own l e) k = refl
slot_own (children c f p) k = absurd (k c)

chain_own : {get : ℕ → Seen} {n i : ℕ} {r : Rectangle} → PlaceChain get n i r → (get i).next ≡ view.none → ((get i).kind ≡ Container → ⊥) → r ≡ (get i).rect
chain_own (last e p) m k = slot_own p k
chain_own (more e p c a) m k = absurd (let z : ◌≡◌ {A = ℕ} 0 1 = cc in omega arith)

free_no_container : Free ≡ Container → ⊥
free_no_container e = let z : ◌≡◌ {A = ℕ} 0 1 = cc in omega arith

alloc_no_container : Alloc ≡ Container → ⊥
alloc_no_container e = let z : ◌≡◌ {A = ℕ} 0 1 = cc in omega arith

-- RULE 5: the top chain ends one row above the sheet's end.
pub short_chain_not_sound : Sound (tables (head_of 1 0 no 1) (no ∷ no ∷ no ∷ 2 ∷ 0 ∷ 0 ∷ 10 ∷ 9 ∷ 0 ∷ 0 ∷ 0 ∷ 3 ∷ 0 ∷ 0 ∷ 0 ∷ 0 ∷ [])) → ⊥
unfolding seen node_at word kind_of link_of natural
short_chain_not_sound s = let e = ap (λ (r : Rectangle). r.y1) (chain_own s.rule5 refl free_no_container) in omega arith

-- RULE 6: a Free slot with no entry.
pub unlisted_not_sound : Sound (tables (head_of 1 0 no 0) whole_free) → ⊥
unfolding seen node_at word kind_of setup_of natural bucket_of reaches
unlisted_not_sound s = let e = s.rule6 0 (omega arith) refl in let h = e.1 in omega arith

-- Slot 0 is a Container whose stored rectangle is one row short of its only child, slot 1.
abbrev stale_last : List ℕ
stale_last = no ∷ no ∷ no ∷ 0 ∷ 0 ∷ 0 ∷ 10 ∷ 9 ∷ 0 ∷ no ∷ no ∷ 5 ∷ 0 ∷ 0 ∷ 10 ∷ 10 ∷ []

only_child : (c : ℕ) → FirstChild (seen stale_last) 2 0 c → c ≡ 1
unfolding seen node_at word link_of
only_child c f =
    ⊎_elim (λ e. e)
    (λ d. absurd (let h : c ≡ 0 = omega (arith, f.live.0) in let p = rw h at f.parent in let z : ◌≡◌ {A = ℕ} 0 1 = cc in omega arith))
    (same_or_not c 1)

child_place : (c : ℕ) (r : Rectangle) → c ≡ 1 → PlaceChain (seen stale_last) 2 c r → r.y1 ≡ 10
unfolding seen node_at word kind_of link_of
child_place c r e p = ap (λ (q : Rectangle). q.y1) (chain_own (rw e at p) refl alloc_no_container)

stale_place : {r : Rectangle} → PlaceSlot (seen stale_last) 2 0 r → r.y1 ≡ 10
unfolding seen node_at word kind_of
stale_place (own l e) =
    absurd (⊎_elim (λ k. let z : ◌≡◌ {A = ℕ} 0 1 = cc in omega arith) (λ k. let z : ◌≡◌ {A = ℕ} 0 1 = cc in omega arith) l)
stale_place (children {c = c} {r = r} k f p) = child_place c r (only_child c f) p

-- RULE 7: the last top slot is a Container whose stored rectangle is not its place.
pub stale_last_not_sound : Sound (tables (head_of 2 0 no 0) stale_last) → ⊥
unfolding seen node_at word kind_of link_of
stale_last_not_sound s = let e = stale_place (s.rule7 0 (omega arith, refl) refl refl refl) in omega arith
