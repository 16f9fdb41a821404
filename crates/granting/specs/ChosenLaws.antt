-- On sound tables the chosen slot is ready for its cut.
-- Assumes nothing.
use Rattle.std.specs.Prelude.{◌≡◌, List, None, ℕ, ◌<◌}
use Rattle.std.proofs.Common.{arith}
use Rattle.geometry.specs.declared.Bucket.{Bucket}
use Rattle.geometry.specs.declared.Extent.{Extent}
use Rattle.geometry.specs.declared.Setup.{Setup}
use Rattle.slots.specs.Slots.{slot}
use Rattle.table.specs.Table.{node_at, HasSlot}
use Rattle.slots.specs.declared.AllocIndex.{AllocIndex}
use Rattle.search.proofs.FindLaws.{search_within, search_each}
use Rattle.choices.specs.Choices.{chosen_at, Searched}
use Rattle.search.specs.Search.{find_suitable}
use Rattle.steps.specs.State.{State, state, lists_of}
use Rattle.sound.specs.View.{seen}
use Rattle.sound.specs.Sound.{Sound}
use Rattle.links.specs.LinkLaws.{link_some}
use Rattle.lent.specs.Lent.{LentOf}
use Rattle.entries.specs.Entries.{ListsReady}
use Rattle.grants.specs.Grants.{Grant, refused, with_lists, taken, cut_for, grant_of, granted}
use Rattle.granted.specs.SoundFacts.{setup_at, lent_few, lent_slots, lent_room, sound_searchable, search_picks}
use Rattle.cutting.specs.Ready.{ChosenReady}

-- What the search chose on sound tables.
module _ (s : State) (L : LentOf s) (S : Sound s) (e : Extent) (setup : Setup) (f : Searched) (told : setup ≡ setup_at s)
    (searches : f ≡ find_suitable s.words setup e (lists_of s)) where
  found : f ≡ find_suitable s.words (setup_at s) e (lists_of s)
  found = rw told at searches

  below_has : (x : ℕ) → x < s.head.count → HasSlot s.words (slot x)
  below_has x h = omega (arith, S.rule1.fits, lent_slots s L)

  found_lists : ListsReady s.words f.lists
  found_lists b =
      let z = search_within s.words (setup_at s) e (lists_of s) f found (sound_searchable s L S) b in
      record {
        entries = record {
          within = omega (arith, z.0, z.1, S.rule1.within b);
          has = search_each s.words (setup_at s) e (lists_of s) f found (sound_searchable s L S) (λ x. HasSlot s.words (slot x)) b
              (λ k h. below_has _ (S.rule1.entries b k h));
        };
        few = lent_few s L;
        room = omega (arith, z.0, lent_room s L b);
      }

  pub chosen_ready : (i : AllocIndex) (b : Bucket) (k : ℕ) → f.chosen ≡ chosen_at i b k → ChosenReady s.words s.generations s.head f.lists e i b k
  unfolding seen
  chosen_ready i b k c =
      let p = search_picks s L S e f found i b k c in
      record {
        spare = record { below = S.rule1.fits; few = L.few; slots = lent_slots s L; chain = S.rule2 };
        chosen = omega (arith, p.live.0, S.rule1.fits);
        next = λ n. below_has _ (S.rule3.near.next_live i.0 _ p.live (link_some (node_at s.words i).next n)).0;
        fits = p.fits;
        lists = found_lists;
        place = p.place;
      }

  -- It is cut. (The cut does not look at the lists that it was not given.)
  pub granted_at : (i : AllocIndex) (b : Bucket) (k : ℕ) → f.chosen ≡ chosen_at i b k → (x y z : List ℕ) (t : Grant)
      → t ≡ cut_for (state s.head s.words s.generations x y z) setup f.lists e i b k → t ≡ granted s e
  unfolding granted grant_of cut_for taken
  granted_at i b k c x y z t q = rw (← told, ← searches, c) q

  -- Nothing was chosen: 6.
  pub granted_none : f.chosen ≡ None → refused 6 (with_lists s.head s.words s.generations f.lists) ≡ granted s e
  unfolding granted grant_of
  granted_none c = rw (← told, ← searches, c)
