-- The laws by which freeing a slot is proved: the climb can start, and where it ends can be entered.
-- Assumes nothing.
use Rattle.std.specs.Prelude.{◌≡◌, List, ℕ, ◌≤◌, eqb, length}
use Rattle.std.proofs.Common.{inr, arith}
use Rattle.geometry.specs.Sides.{setup_of}
use Rattle.geometry.specs.declared.Setup.{Setup}
use Rattle.table.specs.Table.{node_at, HasSlot}
use Rattle.stores.specs.Stores.{stored, to_kind}
use Rattle.slots.specs.declared.AllocIndex.{AllocIndex}
use Rattle.slots.specs.declared.Node.{Node}
use Rattle.slots.specs.declared.NodeKind.TheVariants.{Free}
use Rattle.buckets.specs.FreeLists.{Lists, lists}
use Rattle.steps.specs.Spares.{with_spare}
use Rattle.steps.specs.State.{State, state, lists_of}
use Rattle.steps.specs.declared.Head.{Head}
use Rattle.sound.specs.View.{seen}
use Rattle.sound.specs.Sound.{sheet_of}
use Rattle.forest.specs.Bridge.{forest}
use Rattle.forest.specs.Forest.{Forest, Represents}
use Rattle.forest.specs.Tree.{tree_of}
use Rattle.changes.specs.Pieces.{leaf_filled}
use Rattle.entries.specs.Entries.{entered, Enterable}
use Rattle.entries.specs.EntryLaws.{ready_enterable, ready_words}
use Rattle.grants.specs.Grants.{with_lists}
use Rattle.granted.specs.SoundFacts.{lent_few, lent_slots, lists_ready}
use Rattle.frees.specs.Climbs.{Level, level, climbed}
use Rattle.frees.specs.Frees.{climb_of, released}
use Rattle.freed.specs.Folds.{freeing}
use Rattle.freed.specs.Climbing.{Ended}
use Rattle.freed.proofs.Released.{start_reached, ended}
use Rattle.climbs.specs.Climbable.{Climbing}
use Rattle.releasing.specs.Releasable.{Releasable}

module _ {h : Head} {w a b c : List ℕ} {i : AllocIndex} (r : Releasable h w a b c i) where
  abbrev s : State
  s = state h w r.generations a b c

  grown : (F : Forest) × Represents (seen w) h.count h.root.0 F
  grown = forest (seen w) h.count h.root.0 r.sound.rule3

  -- The slot is in the table,
  pub release_has : HasSlot w i
  release_has = omega (arith, r.below, r.sound.rule1.fits, lent_slots s r.lent)

  -- and once it is Free the climb can start.
  pub release_starts : {u : List ℕ} → u ≡ stored w i (to_kind Free) → Climbing h.count (level u h.spare i)
  release_starts e =
      rw e (record {
        was = seen (stored w i (to_kind Free));
        size = length w;
        count = h.count;
        root = h.root.0;
        start = i.0;
        all = sheet_of h.sheet;
        tree = freeing (eqb i.0) (tree_of (seen w) grown.0);
        slots = omega (arith, lent_slots s r.lent, r.sound.rule1.fits);
        few = lent_few s r.lent;
        reached = start_reached s r.lent r.sound i r.below r.alloc grown.0 grown.1;
      })

  -- Where the climb ended.
  module _ {u : List ℕ} {m : Level} (marks : u ≡ stored w i (to_kind Free)) (climbs : m ≡ climbed h.count (level u h.spare i)) where
    end : Ended (seen (stored w i (to_kind Free))) (length w) h.count h.root.0 i.0 (sheet_of h.sheet) (freeing (eqb i.0) (tree_of (seen w) grown.0)) m
    unfolding climb_of
    end = rw (climbs, marks) (ended s r.lent r.sound i r.below r.alloc grown.0 grown.1)

    -- That slot is in the table,
    pub end_has : HasSlot m.words m.at
    end_has = omega (arith, end.words, end.stands.live.0, r.sound.rule1.fits, lent_slots s r.lent)

    -- and it can be entered: its rectangle is not empty.
    pub end_enters : {n : Node} → n ≡ node_at m.words m.at
        → Enterable m.words m.at.0 (lists_of s) × (n.rect.x0 ≤ n.rect.x1) × (n.rect.y0 ≤ n.rect.y1)
    unfolding seen
    end_enters e =
        let z = end.stands in
        let f = leaf_filled (seen m.words) h.count h.root.0 z.links (sheet_of h.sheet) z.places m.at.0 z.live (inr z.free) in
        (ready_enterable m.words m.at.0 (lists_of s) (ready_words w m.words (lists_of s) end.words (lists_ready s r.lent r.sound.rule1)) end_has, rw e (omega (arith, f.0)), rw e (omega (arith, f.1)))

-- What all of it leaves.
pub release_done : (h : Head) (w a b c : List ℕ) (i : AllocIndex) (u : List ℕ) (m : Level) (n : Node) (t : Setup) (l : Lists)
    → u ≡ stored w i (to_kind Free) → m ≡ climbed h.count (level u h.spare i) → n ≡ node_at m.words m.at → t ≡ setup_of h.sheet h.options
    → l ≡ entered m.words t m.at n.rect (lists h.lengths a b c) → (g : List ℕ) → with_lists (with_spare h m.spare) m.words g l ≡ released (state h w g a b c) i
unfolding released climb_of
release_done h w a b c i u m n t l marks climbs node setup enters g = rw (enters, setup, node, climbs, marks)
