-- An accepted start, clear or reset leaves the tables sound, whatever they held before.
-- Assumes nothing.
use Rattle.std.specs.Prelude.{◌≡◌, refl, Bool, true, false, set}
use Rattle.std.proofs.Common.{arith, length-set}
use Rattle.geometry.specs.Buckets.{bucket_of}
use Rattle.geometry.specs.Sides.{valid_setup, setup_of}
use Rattle.geometry.specs.declared.Bucket.{Bucket}
use Rattle.geometry.specs.declared.Bucket.TheVariants.{Small, Medium, Large}
use Rattle.geometry.specs.declared.Setup.{Setup}
use Rattle.slots.specs.Slots.{slot}
use Rattle.stores.specs.Stores.{stored, to_node}
use Rattle.stores.proofs.StoreLaws.{length_stored}
use Rattle.lists.specs.Lists.{appended}
use Rattle.buckets.specs.FreeLists.{list_of, with_list}
use Rattle.geometry.specs.declared.AllocatorOptions.{AllocatorOptions}
use Rattle.geometry.specs.declared.Size.{Size}
use Rattle.steps.specs.State.{State}
use Rattle.sound.specs.Sound.{Sound}
use Rattle.lent.specs.Lent.{lent, LentOf}
use Rattle.lent.specs.LentLaws.{lent_yes}
use Rattle.sheets.specs.Sheets.{whole_sheet, no_entries, state_with, started}
use Rattle.sheets.specs.SheetSound.{started_sound}
use Rattle.starts.specs.Starts.{start_answer, start_call, clear_call}

-- An accepted start or reset leaves the tables sound.
pub start_leaves_sound : (sheet : Size) (options : AllocatorOptions) (s : State) → (start_call sheet options s).answer ≡ 0 → Sound (start_call sheet options s).after
unfolding start_call
start_leaves_sound sheet options s = go (lent s) (valid_setup sheet options) refl refl
  where
    go : (l v : Bool) → lent s ≡ l → valid_setup sheet options ≡ v
        → (start_answer l v sheet options s).answer ≡ 0 → Sound (start_answer l v sheet options s).after
    go true true el ev e =
        started_sound sheet options s.words s.generations s.small s.medium s.large (lent_yes _ _ _ _ _ el) ev
    go true false el ev e = absurd (omega arith)
    go false v el ev e = absurd (omega arith)

-- Start and reset keep the lengths in range.
module _ (sheet : Size) (options : AllocatorOptions) (s : State) (L : LentOf s) where
  abbrev setup : Setup
  setup = setup_of sheet options

  entered_lent : (k : Bucket)
      → LentOf (state_with sheet options (stored s.words (slot 0) (to_node (whole_sheet setup))) (set s.generations 0 0)
      (with_list k (appended (list_of k (no_entries s.small s.medium s.large)) 0) (no_entries s.small s.medium s.large)))
  entered_lent Small = rw (length_stored s.words (slot 0) (to_node (whole_sheet setup)), length-set s.generations 0 0, length-set s.small 0 0) L
  entered_lent Medium = rw (length_stored s.words (slot 0) (to_node (whole_sheet setup)), length-set s.generations 0 0, length-set s.medium 0 0) L
  entered_lent Large = rw (length_stored s.words (slot 0) (to_node (whole_sheet setup)), length-set s.generations 0 0, length-set s.large 0 0) L

  started_lent : LentOf (started sheet options s.words s.generations s.small s.medium s.large)
  unfolding started
  started_lent = entered_lent (bucket_of setup.small setup.large setup.sheet.width setup.sheet.height)

pub start_keeps_lent : (sheet : Size) (options : AllocatorOptions) (s : State) → LentOf s → LentOf (start_call sheet options s).after
unfolding start_call
start_keeps_lent sheet options s L = go (lent s) (valid_setup sheet options)
  where
    go : (l v : Bool) → LentOf (start_answer l v sheet options s).after
    go true true = started_lent sheet options s L
    go true false = L
    go false v = L

-- An accepted clear leaves them sound.
pub clear_leaves_sound : (s : State) → (clear_call s).answer ≡ 0 → Sound (clear_call s).after
unfolding clear_call
clear_leaves_sound s = start_leaves_sound s.head.sheet s.head.options s
