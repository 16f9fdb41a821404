-- The tables of a new sheet are sound, whatever they held before.
-- Assumes nothing.
use Rattle.std.specs.Prelude.{◌≡◌, refl, true, List, ℕ, ◌+◌, ◌*◌, ◌≤◌, ◌<◌, length, get_or, set}
use Rattle.std.proofs.Common.{ap, sym, subst, ◌∙◌, arith, get_or-set_same}
use Rattle.std.proofs.Math.Nat.{sub-zero}
use Rattle.std.proofs.Math.ListN.{length-set}
use Rattle.geometry.specs.TestLaws.{and_true_each}
use Rattle.geometry.specs.Sides.{natural, sheet_side, valid_setup, setup_of}
use Rattle.geometry.specs.SideLaws.{sheet_side_lem}
use Rattle.geometry.specs.Buckets.{bucket_of}
use Rattle.geometry.specs.Rectangles.{width_of, height_of}
use Rattle.geometry.specs.declared.AllocatorOptions.{AllocatorOptions}
use Rattle.geometry.specs.declared.Bucket.{Bucket}
use Rattle.geometry.specs.declared.Bucket.TheVariants.{Small, Medium, Large}
use Rattle.geometry.specs.declared.Rectangle.{Rectangle}
use Rattle.geometry.specs.declared.Size.{Size}
use Rattle.slots.specs.Slots.{slot, none}
use Rattle.table.specs.Table.{node_at}
use Rattle.stores.proofs.StoreLaws.{node_at_stored_same}
use Rattle.stores.specs.Stores.{stored, to_node}
use Rattle.slots.specs.declared.NodeKind.TheVariants.{Free}
use Rattle.lists.specs.Lists.{Bag, bag, appended, Each}
use Rattle.buckets.specs.FreeLists.{Lists, list_of, with_list}
use Rattle.buckets.specs.FreeListLaws.{with_list_elim, list_of_with_list_same}
use Rattle.steps.specs.State.{lists_of}
use Rattle.sound.specs.View.{link_of, seen, seen_as}
use Rattle.sound.specs.Rules.{NotEmpty}
use Rattle.sound.specs.Sound.{Sound, Counted, HasEntry, sheet_of}
use Rattle.lent.specs.Lent.{Lent}
use Rattle.sheets.specs.LoneLaws.{lone, lone_spare, lone_linked, lone_merged, lone_placed, lone_last}
use Rattle.sheets.specs.Sheets.{whole_sheet, no_entries, one_entry, started}

-- The sides of a valid sheet are above 0.
valid_sides : (sheet : Size) (options : AllocatorOptions) → valid_setup sheet options ≡ true → NotEmpty (sheet_of sheet)
unfolding valid_setup
valid_sides sheet options h =
    let a = and_true_each (sheet_side (natural sheet.width)) _ h in
    let b = and_true_each (sheet_side (natural sheet.height)) _ a.1 in
    (((sheet_side_lem (natural sheet.width)).0 a.0).0, ((sheet_side_lem (natural sheet.height)).0 b.0).0)

module _ (sheet : Size) (options : AllocatorOptions) (w g a b c : List ℕ) (L : Lent (length w) (length g) (length a) (length b) (length c))
    (valid : valid_setup sheet options ≡ true) where
  after : List ℕ
  after = stored w (slot 0) (to_node (whole_sheet (setup_of sheet options)))

  -- Slot 0 is the whole sheet.
  slot_zero : seen after 0 ≡ lone (sheet_of sheet)
  unfolding after seen link_of setup_of
  slot_zero = rw (node_at_stored_same w (slot 0) (to_node (whole_sheet (setup_of sheet options))) (omega (arith, L.some, L.eight)))

  -- Each list has room for an entry.
  room : (k : Bucket) → 0 < length (list_of k (no_entries a b c)).table
  room Small = omega (arith, L.some, L.small.enough)
  room Medium = omega (arith, L.some, L.medium.enough)
  room Large = omega (arith, L.some, L.large.enough)

  -- Each list is within its table, and has no entry but slot 0.
  abbrev Fine : Bag → Type 0
  Fine x = (x.len ≤ length x.table) × Each (λ y. y < 1) x

  none_fine : (k : Bucket) → Fine (list_of k (no_entries a b c))
  none_fine Small = (omega arith, λ j h. absurd (omega arith))
  none_fine Medium = (omega arith, λ j h. absurd (omega arith))
  none_fine Large = (omega arith, λ j h. absurd (omega arith))

  one_fine : (t : List ℕ) → 0 < length t → Fine (appended (bag t 0) 0)
  one_fine t h = (simp length-set (omega arith), λ j l. let z : j ≡ 0 = omega arith in rw (z, get_or-set_same t 0 0 0 h) (omega arith))

  one_fine_in : (k : Bucket) → Fine (appended (list_of k (no_entries a b c)) 0)
  one_fine_in Small = one_fine a (room Small)
  one_fine_in Medium = one_fine b (room Medium)
  one_fine_in Large = one_fine c (room Large)

  own_list : Bucket
  own_list = bucket_of (setup_of sheet options).small (setup_of sheet options).large (setup_of sheet options).sheet.width (setup_of sheet options).sheet.height

  lists_fine : (k : Bucket) → Fine (list_of k (one_entry (setup_of sheet options) a b c))
  unfolding own_list
  lists_fine = with_list_elim (λ _ (x : Bag). Fine x) own_list (appended (list_of own_list (no_entries a b c)) 0) (no_entries a b c) (one_fine_in own_list) none_fine

  -- Slot 0 has an entry in its own bucket's list.
  entered : (k : Bucket) → HasEntry 0 (appended (list_of k (no_entries a b c)) 0)
  entered Small = (0, omega arith, get_or-set_same a 0 0 0 (room Small))
  entered Medium = (0, omega arith, get_or-set_same b 0 0 0 (room Medium))
  entered Large = (0, omega arith, get_or-set_same c 0 0 0 (room Large))

  listed : HasEntry 0 (list_of own_list (one_entry (setup_of sheet options) a b c))
  unfolding own_list
  listed = rw (list_of_with_list_same own_list (appended (list_of own_list (no_entries a b c)) 0) (no_entries a b c)) (entered own_list)

  -- THE THEOREM, of the tables that a start writes.
  pub started_sound : Sound (started sheet options w g a b c)
  unfolding started own_list after setup_of link_of
  started_sound =
      record {
        rule1 =
            record {
              some = omega arith;
              fits = simp length-set L.some;
              valid = valid;
              within = λ k. (lists_fine k).0;
              root = omega arith;
              entries = λ k. (lists_fine k).1;
            };
        rule2 = lone_spare (seen after) (sheet_of sheet) slot_zero;
        rule3 = lone_linked (seen after) (sheet_of sheet) slot_zero;
        rule4 = lone_merged (seen after) (sheet_of sheet) slot_zero;
        rule5 = lone_placed (seen after) (sheet_of sheet) slot_zero (valid_sides sheet options valid);
        rule6 = λ i h k. own_entry i (omega arith);
        rule7 = lone_last (seen after) (sheet_of sheet) slot_zero;
      }
    where
      own_entry : (i : ℕ) → i ≡ 0 → HasEntry i (list_of (bucket_of (setup_of sheet options).small (setup_of sheet options).large (width_of (seen after i).rect) (height_of (seen after i).rect)) (one_entry (setup_of sheet options) a b c))
      own_entry i e = rw (e, slot_zero) (simp sub-zero listed)
