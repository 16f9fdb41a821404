-- What sound tables of lengths in range give a call: lists ready to be searched and pushed onto, room in the tables, and a chosen slot that is
-- live, Free and as large as the request.
-- Assumes nothing.
use Rattle.std.specs.Prelude.{ℕ, ◌*◌, ◌≤◌, ◌<◌, ◌≡◌, false, length, get_or}
use Rattle.std.proofs.Math.Path.{subst}
use Rattle.std.proofs.Common.{inr}
use native.Mathlib.Omega.{arith}
use Rattle.cuts.specs.Cuts.{FitsIn}
use Rattle.geometry.specs.Sides.{setup_of}
use Rattle.geometry.specs.declared.Bucket.{Bucket}
use Rattle.geometry.specs.declared.Bucket.TheVariants.{Small, Medium, Large}
use Rattle.geometry.specs.declared.Extent.{Extent}
use Rattle.geometry.specs.declared.Setup.{Setup}
use Rattle.slots.specs.Slots.{slot, is_none}
use Rattle.table.specs.Table.{node_at, HasSlot}
use Rattle.slots.specs.declared.AllocIndex.{AllocIndex}
use Rattle.slots.specs.declared.NodeKind.TheVariants.{Free}
use Rattle.buckets.specs.FreeLists.{Lists, list_of}
use Rattle.search.proofs.FindLaws.{search_each, search_chosen}
use Rattle.fits.specs.Scans.{Lookable}
use Rattle.choices.specs.Choices.{chosen_at, Searched, Searchable}
use Rattle.search.specs.Search.{find_suitable}
use Rattle.steps.specs.State.{State, lists_of}
use Rattle.sound.specs.View.{seen, Live}
use Rattle.sound.specs.Rules.{NotEmpty}
use Rattle.sound.specs.Sound.{Counted, Sound, sheet_of}
use Rattle.links.specs.LinkLaws.{link_some}
use Rattle.changes.specs.Pieces.{leaf_filled}
use Rattle.lent.specs.Lent.{LentOf}
use Rattle.entries.specs.Entries.{ListsReady}

-- The setup of a state.
abbrev pub setup_at : State → Setup
setup_at s = setup_of s.head.sheet s.head.options

-- The slot that a search chose: it is live and Free, the request fits it, and its entry stands at place k of a bucket's list.
pub record Picked (s : State) (e : Extent) (l : Lists) (i : AllocIndex) (b : Bucket) (k : ℕ) : Type 0 where
  pub live : Live (seen s.words) s.head.count i.0
  pub free : (node_at s.words i).kind ≡ Free
  pub fits : FitsIn (node_at s.words i).rect e.width e.height
  pub place : k < (list_of b l).len
  pub entry : get_or (list_of b l).table k 0 ≡ i.0

module _ (s : State) (L : LentOf s) where
  -- A table of eight words for each of at most 4,096 slots, and of no fewer entries in each list.
  pub lent_few : length s.words ≤ 32768
  lent_few = omega arith

  pub lent_slots : length s.generations * 8 ≤ length s.words
  lent_slots = omega arith

  pub lent_room : (b : Bucket) → length s.words ≤ length (list_of b (lists_of s)).table * 8
  lent_room Small = omega arith
  lent_room Medium = omega arith
  lent_room Large = omega arith

  -- By rule 1 the lists are ready for a push.
  pub lists_ready : Counted s → ListsReady s.words (lists_of s)
  lists_ready C b = record {
    entries = record { within = C.within b; has = λ j q. omega (arith, C.entries b j q, C.fits, lent_slots) };
    few = lent_few;
    room = lent_room b;
  }

  module _ (S : Sound s) where
    -- A Free slot below n is not empty.
    pub free_filled : (x : ℕ) → x < s.head.count → (node_at s.words (slot x)).kind ≡ Free → NotEmpty (node_at s.words (slot x)).rect
    unfolding seen
    free_filled x h f =
        leaf_filled (seen s.words) s.head.count s.head.root.0 S.rule3 (sheet_of s.head.sheet) S.rule5 x (h, rw f) (inr f)

    -- Any slot below n can be looked at, so the lists are ready to be searched.
    pub slot_lookable : (x : ℕ) → x < s.head.count → Lookable s.words x
    slot_lookable x h = record {
      has = omega (arith, S.rule1.fits);
      wide = λ f. let z = free_filled x h f in omega arith;
      tall = λ f. let z = free_filled x h f in omega arith;
    }

    pub sound_searchable : Searchable s.words (lists_of s)
    sound_searchable b = record { within = S.rule1.within b; entries = λ k h. slot_lookable _ (S.rule1.entries b k h) }

    -- So a live slot and its next, if any, are slots of the table.
    pub live_has_slot : (x : ℕ) → Live (seen s.words) s.head.count x → HasSlot s.words (slot x)
    live_has_slot x v = (slot_lookable x v.0).has

    pub next_has_slot : (i : AllocIndex) → Live (seen s.words) s.head.count i.0 → is_none (node_at s.words i).next ≡ false
        → HasSlot s.words (node_at s.words i).next
    unfolding seen
    next_has_slot i v e = live_has_slot (node_at s.words i).next.0 (S.rule3.near.next_live i.0 (node_at s.words i).next.0 v (link_some (node_at s.words i).next e))

    -- What the search chooses.
    pub search_picks : (e : Extent) (f : Searched) → f ≡ find_suitable s.words (setup_at s) e (lists_of s)
        → (i : AllocIndex) (b : Bucket) (k : ℕ) → f.chosen ≡ chosen_at i b k → Picked s e f.lists i b k
    unfolding seen
    search_picks e f q i b k c =
        let z = search_chosen s.words (setup_at s) e (lists_of s) f q sound_searchable i b k c in
        let below : i.0 < s.head.count =
        subst (λ (x : ℕ). x < s.head.count) z.entry
        (search_each s.words (setup_at s) e (lists_of s) f q sound_searchable (λ x. x < s.head.count) b (S.rule1.entries b) k z.place) in
        let some = free_filled i.0 below z.suits.free in
        let wide = z.suits.wide in
        let tall = z.suits.tall in
        record {
          live = (below, rw z.suits.free);
          free = z.suits.free;
          fits = record { wide = omega arith; tall = omega arith };
          place = z.place;
          entry = z.entry;
        }
