-- What freeing a slot leaves: sound tables, the other Alloc slots as they were, and a tree in which the slot is freed.
-- Assumes nothing.
use Rattle.std.specs.Prelude.{ℕ, ◌<◌, ◌≡◌, true, List, [], ◌∷◌, eqb, length}
use Rattle.std.proofs.Math.Path.{refl}
use Rattle.std.proofs.Common.{sym, ◌∙◌, ap, inl, inr, ⊎_elim, arith}
use Rattle.std.proofs.lemmas.Bool.{false≢true}
use Rattle.std.proofs.Math.Decide.{ℕ_discrete}
use Rattle.slots.specs.Slots.{slot}
use Rattle.table.specs.Table.{node_at}
use Rattle.stores.specs.Stores.{stored, to_kind}
use Rattle.stores.proofs.StoreLaws.{length_stored}
use Rattle.slots.specs.declared.AllocIndex.{AllocIndex}
use Rattle.slots.specs.declared.NodeKind.TheVariants.{Alloc, Free}
use Rattle.lists.specs.Counts.{count}
use Rattle.lists.specs.CountLaws.{count_all, count_more}
use Rattle.buckets.specs.FreeLists.{Lists}
use Rattle.steps.specs.Spares.{with_spare}
use Rattle.steps.specs.State.{State, lists_of}
use Rattle.sound.specs.View.{none, link_of, Seen, seen, in_use, Live}
use Rattle.sound.specs.Sound.{Sound, sheet_of}
use Rattle.forest.specs.Forest.{Forest, Represents}
use Rattle.forest.specs.Tree.{Tree, tree_of}
use Rattle.changes.specs.Merges.{Rekind, rekind_keeps}
use Rattle.changes.specs.Climbs.{rekind_merged}
use Rattle.lent.specs.Lent.{LentOf}
use Rattle.entries.specs.Entries.{entered}
use Rattle.grants.specs.Grants.{with_lists}
use Rattle.frees.specs.Climbs.{Level, level}
use Rattle.frees.specs.Frees.{climb_of, released}
use Rattle.granted.specs.NewSlots.{spare_again}
use Rattle.granted.specs.Writes.{kind_writes}
use Rattle.granted.specs.Carved.{piece}
use Rattle.granted.specs.Stocked.{Stocked, sound_stocked, stocked_entry, push_stocks}
use Rattle.granted.specs.SoundFacts.{setup_at, lent_few, lent_slots, lent_room}
use Rattle.granted.specs.Outcomes.{outcome_lent}
use Rattle.freed.specs.Terms.{SameFrame}
use Rattle.freed.specs.Folds.{freeing, freeing_none}
use Rattle.freed.specs.Settles.{rekind_settles}
use Rattle.freed.specs.Steps.{Standing, other_kind}
use Rattle.freed.specs.Climbing.{Reached, Ended, climb_ends}
use Rattle.freed.specs.TidyLaws.{tree_tidy}

-- What freeing slot i leaves, of tables that were the forest F.
pub record Frees (s : State) (i : ℕ) (F : Forest) (t : State) : Type 0 where
  pub sound : Sound t
  pub lent : LentOf t
  pub same : SameFrame s t
  -- The Alloc slots but i stay, with their rectangles, and no slot becomes one.
  pub allocs : (j : ℕ) → (j ≡ i → ⊥) → (seen s.words j).kind ≡ Alloc → ((seen t.words j).kind ≡ Alloc) × ((seen t.words j).rect ≡ (seen s.words j).rect)
  pub none_new : (j : ℕ) → (seen t.words j).kind ≡ Alloc → (j ≡ i → ⊥) × ((seen s.words j).kind ≡ Alloc)
  -- The tree is that of F with i freed, and the root has not turned.
  pub turned : (seen t.words t.head.root.0).orientation ≡ (seen s.words s.head.root.0).orientation
  pub tree : (G : Forest) × Represents (seen t.words) t.head.count t.head.root.0 G × (tree_of (seen t.words) G ≡ freeing (eqb i) (tree_of (seen s.words) F))

module _ (s : State) (L : LentOf s) (S : Sound s) (i : AllocIndex) (below : i.0 < s.head.count) (alloc : (seen s.words i.0).kind ≡ Alloc)
    (F : Forest) (R : Represents (seen s.words) s.head.count s.head.root.0 F) where
  abbrev get : ℕ → Seen
  get = seen s.words

  abbrev n : ℕ
  n = s.head.count

  abbrev root : ℕ
  root = s.head.root.0

  abbrev marked : List ℕ
  marked = stored s.words i (to_kind Free)

  abbrev was : ℕ → Seen
  was = seen marked

  abbrev T : Tree
  T = freeing (eqb i.0) (tree_of get F)

  op : Rekind get was i.0 Free
  op = kind_writes s.words i Free (omega (arith, below, lent_slots s L, S.rule1.fits))

  live : Live get n i.0
  live = (below, ap in_use alloc)

  -- The slot is marked Free.
  start : Standing was was n root i.0 i.0 (link_of s.head.spare) (sheet_of s.head.sheet) T
  start =
      let K = rekind_keeps get was n root S.rule3 (sheet_of s.head.sheet) S.rule5 i.0 Free op live (inl alloc) (inr refl) in
      let free : (was i.0).kind ≡ Free = ap (λ m. m.kind) op.chosen in
      record {
        live = (below, ap in_use free);
        free = free;
        chain = spare_again get was n (link_of s.head.spare) []
            (record { each = λ j d m. S.rule2.each j d; only = λ j v. (S.rule2.only j v, λ m. m); ends = S.rule2.ends })
            (λ j m. absurd m) (λ j m. same j (ℕ_discrete j i.0))
            (λ j d m. ap (λ x. x.next) (op.other j (⊎_elim (λ e. false≢true (sym d.1 ∙ rw e live.1)) (λ x. x))));
        links = K.links;
        merged = rekind_merged get was n i.0 Free op S.rule4;
        places = K.places (sheet_of s.head.sheet) S.rule5;
        lasts = K.lasts S.rule7;
        since = record { frees = λ j e f. (e, f, refl); allocs = λ j a. (a, refl); none_new = λ j a. a; turned = λ j u. refl };
        tree = rekind_settles get was i.0 op alloc n root (sheet_of s.head.sheet) S.rule5 live F R;
      }
    where
      same : (j : ℕ) → Dec (j ≡ i.0) → in_use (was j).kind ≡ in_use (get j).kind
      same j (yes e) = rw e (ap (λ m. in_use m.kind) op.chosen ∙ sym live.1)
      same j (no e) = ap (λ m. in_use m.kind) (op.other j (⊎_elim e (λ x. x)))

  -- So the climb starts,
  pub start_reached : Reached was (length s.words) n root i.0 (sheet_of s.head.sheet) T n (level marked s.head.spare i)
  start_reached = record {
    words = length_stored s.words i (to_kind Free);
    stands = start;
    left = omega (arith, count_more (λ j. in_use (was j).kind) (λ _. true) n (λ j u. refl), count_all n);
  }

  -- and it ends.
  pub ended : Ended was (length s.words) n root i.0 (sheet_of s.head.sheet) T (climb_of s i)
  unfolding climb_of
  ended =
      climb_ends was (length s.words) n root i.0 (sheet_of s.head.sheet) T (omega (arith, lent_slots s L, S.rule1.fits)) (lent_few s L) n
      (level marked s.head.spare i) start_reached

  module _ (m : Level) (E : Ended was (length s.words) n root i.0 (sheet_of s.head.sheet) T m) where
    now : ℕ → Seen
    now = seen m.words

    other : (j : ℕ) → (j ≡ i.0 → ⊥) → was j ≡ get j
    other j e = op.other j (⊎_elim e (λ x. x))

    -- Every Free slot but where the climb ended has its entry,
    still : Stocked m.words n (setup_at s) (lists_of s) (lists_of s) (m.at.0 ∷ [])
    still =
        let K = sound_stocked S in
        record {
          filed = K.filed;
          listed = λ x h f e.
              let z = E.stands.since.frees x (λ q. e (inl q)) f in
              let o = other x z.0 in
              rw (z.2, ap (λ y. y.rect) o) (K.listed x h (sym (ap (λ y. y.kind) o) ∙ z.1) (λ y. y));
        }

    after : Lists
    after = entered m.words (setup_at s) m.at (node_at m.words m.at).rect (lists_of s)

    -- and after the push that one has too.
    stocked : Stocked m.words n (setup_at s) (lists_of s) after []
    unfolding after seen
    stocked =
        push_stocks m.words n (setup_at s) (lists_of s) (rw E.words (omega (arith, lent_slots s L, S.rule1.fits))) (rw E.words (lent_few s L)) (rw E.words (lent_room s L))
        (piece m.at.0 (node_at m.words m.at).rect) still E.stands.live.0 refl

    freed : Frees s i.0 F (with_lists (with_spare s.head m.spare) m.words s.generations after)
    freed = record {
      sound = record {
        rule1 = record {
          some = S.rule1.some;
          fits = S.rule1.fits;
          valid = S.rule1.valid;
          within = stocked.filed.within;
          root = S.rule1.root;
          entries = stocked.filed.entries;
        };
        rule2 = E.stands.chain;
        rule3 = E.stands.links;
        rule4 = E.merged;
        rule5 = E.stands.places;
        rule6 = stocked_entry stocked;
        rule7 = E.stands.lasts;
      };
      lent = outcome_lent s (with_spare s.head m.spare) m.words s.generations after L E.words refl stocked.filed.tables;
      same = record { sheet = refl; options = refl; root = refl; count = refl; generations = refl };
      allocs = λ j e a.
          let o = other j e in
          let z = E.stands.since.allocs j (ap (λ x. x.kind) o ∙ a) in
          (z.0, z.1 ∙ ap (λ x. x.rect) o);
      none_new = λ j a.
          let k = E.stands.since.none_new j a in
          let e : j ≡ i.0 → ⊥ = λ q. other_kind refl (ap (λ x. x.kind) op.chosen) (rw q at k) in
          (e, sym (ap (λ x. x.kind) (other j e)) ∙ k);
      turned = E.stands.since.turned root E.stands.links.near.root_live.1 ∙ kept (ℕ_discrete root i.0);
      tree = let t = E.stands.tree in
          (t.0, t.1, sym (freeing_none (tree_of (seen m.words) t.0) (tree_tidy (seen m.words) n E.merged none none _ t.0 t.1.along)) ∙ t.2);
    }
      where
        kept : Dec (root ≡ i.0) → (was root).orientation ≡ (get root).orientation
        kept (yes e) = rw e (ap (λ x. x.orientation) op.chosen)
        kept (no e) = ap (λ x. x.orientation) (other root e)

  -- FREEING a live ticket's slot.
  pub release_frees : Frees s i.0 F (released s i)
  unfolding released after
  release_frees = freed (climb_of s i) ended
