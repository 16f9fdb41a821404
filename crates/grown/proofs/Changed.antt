-- What a step of a grow changes in the slot table keeps the tables sound, but for what the top chain fills.
-- Assumes nothing.
use Rattle.std.specs.Prelude.{ℕ, zero, suc, ◌-◌, ◌≡◌, true, ◌⊎◌, List, [], length}
use Rattle.std.proofs.Common.{sym, ◌∙◌, ap, ⊎_elim, arith}
use Rattle.geometry.specs.declared.Rectangle.{Rectangle}
use Rattle.slots.specs.declared.AllocIndex.{AllocIndex}
use Rattle.slots.specs.declared.NodeKind.{NodeKind}
use Rattle.slots.specs.declared.NodeKind.TheVariants.{Container, Alloc, Free}
use Rattle.buckets.specs.FreeLists.{Lists}
use Rattle.steps.specs.Spares.{unused_below}
use Rattle.steps.specs.State.{State, lists_of}
use Rattle.steps.specs.declared.Head.{Head}
use Rattle.sound.specs.View.{Link, link_of, seen, in_use}
use Rattle.sound.specs.Rules.{Visits, it, later}
use Rattle.sound.specs.Sound.{SpareChain}
use Rattle.forest.specs.Pigeon.{In}
use Rattle.forest.specs.Ends.{EndsIn, ends_unique}
use Rattle.forest.specs.Spare.{spare_steps}
use Rattle.links.proofs.SpareLaws.{unused_count}
use Rattle.lent.specs.Lent.{LentOf}
use Rattle.grants.specs.Grants.{with_lists}
use Rattle.granted.specs.NewSlots.{Taking, spare_again}
use Rattle.granted.specs.Outcomes.{outcome_lent}
use Rattle.granted.specs.SoundFacts.{setup_at}
use Rattle.granted.specs.Stocked.{Stocked, stocked_entry}
use Rattle.grows.specs.Grows.{with_root}
use Rattle.grown.specs.Fills.{Fills, Carries}
use Rattle.grown.specs.Changed.{Change}

-- A chain that two tables agree on ends in both after as many steps.
ends_same : (f f' : ℕ → Link) (l : Link) (k : ℕ) → ((j : ℕ) → Visits f j l → f' j ≡ f j) → EndsIn f l k → EndsIn f' l k
ends_same f f' l zero h e = e
ends_same f f' l (suc k) h e =
    let i = e.0 in
    (i, e.1, rw (h i (rw e.1 it)) (ends_same f f' (f i) k (λ j v. h j (rw e.1 (later {i = i} v))) e.2))

-- An Alloc slot is no Container and not Free.
pub not_alloc : {k : NodeKind} → k ≡ Alloc → (k ≡ Container) ⊎ (k ≡ Free) → ⊥
not_alloc {k} e h = ⊎_elim (λ f. let z : ◌≡◌ {A = ℕ} 0 1 = cc in omega arith) (λ f. let z : ◌≡◌ {A = ℕ} 0 1 = cc in omega arith) h

module _ {s : State} {w' g' new : List ℕ} {h' : Head} {all was : Rectangle} (L : LentOf s) (S : Fills s was)
    (T : Taking s.words s.generations s.head new g' h') (root : AllocIndex) (C : Change s.words w' h'.count root.0 new all) where
  new_used : (j : ℕ) → In j new → in_use (seen w' j).kind ≡ true
  new_used j m = ⊎_elim {C = in_use (seen w' j).kind ≡ true} (λ e. ap in_use e) (λ e. ap in_use e) (C.new_kind j m)

  -- RULE 2, and how many slots are still spare.
  chain_after : SpareChain (seen w') h'.count (link_of h'.spare)
  chain_after =
      spare_again (seen s.words) (seen w') h'.count (link_of h'.spare) new T.spare new_used (λ j m. ap in_use (C.kind j m)) C.next

  unused_after : unused_below w' h'.count ≡ T.left.0
  unused_after =
      let f : ℕ → Link = λ j. (seen s.words j).next in
      let f' : ℕ → Link = λ j. (seen w' j).next in
      ends_unique f' (link_of h'.spare) (unused_below w' h'.count) T.left.0
      (rw unused_count at (spare_steps (seen w') h'.count (link_of h'.spare) chain_after))
      (ends_same f f' (link_of h'.spare) T.left.0 (λ j v. let o = T.spare.only j v in C.next j o.0 o.1) T.left.1)

  -- THE RULES, with lists in which every Free slot has its entry.
  pub change_fills : {l : Lists} → Stocked w' h'.count (setup_at s) (lists_of s) l [] → Fills (with_lists (with_root h' root) w' g' l) all
  change_fills {l} K =
      let sheet : h'.sheet ≡ s.head.sheet = ap (λ (z : Head). z.sheet) T.head in
      let options : h'.options ≡ s.head.options = ap (λ (z : Head). z.options) T.head in
      record {
        rule1 = record {
          some = omega (arith, S.rule1.some, T.taken.grow);
          fits = rw T.bytes T.fits;
          valid = rw (sheet, options) S.rule1.valid;
          within = K.filed.within;
          root = C.grown.links.near.root_live.0;
          entries = K.filed.entries;
        };
        rule2 = chain_after;
        rule3 = C.grown.links;
        rule4 = C.merged;
        rule5 = C.grown.placed;
        rule6 = rw (sheet, options) (stocked_entry K);
        rule7 = C.grown.lasts;
      }

  -- What it keeps.
  pub change_carries : {l : Lists} → Stocked w' h'.count (setup_at s) (lists_of s) l [] → Carries s (with_lists (with_root h' root) w' g' l) (length new)
  change_carries {l} K =
      record {
        lent = outcome_lent s (with_root h' root) w' g' l L C.words T.bytes K.filed.tables;
        sheet = ap (λ (z : Head). z.sheet) T.head;
        options = ap (λ (z : Head). z.options) T.head;
        spares = rw (T.bytes, unused_after) (let e = T.left.2 in omega arith);
        lives = λ j v. (let k = T.taken.grow in let z = v.0 in omega arith, ap in_use (C.kind j (λ m. T.taken.idle j m v)) ∙ v.1);
        generations = λ j v. T.others j (λ m. T.taken.idle j m v);
        allocs = λ j b a. let out : In j new → ⊥ = λ m. T.taken.idle j m (b, ap in_use a) in (C.kind j out ∙ a, C.rect j out a);
        only = λ j b a. let out : In j new → ⊥ = λ m. not_alloc a (C.new_kind j m) in (T.taken.counted j b out, sym (C.kind j out) ∙ a);
        frees = λ j b f. let out : In j new → ⊥ = λ m. T.taken.idle j m (b, ap in_use f) in (C.kind j out ∙ f, C.wider j out f);
      }
