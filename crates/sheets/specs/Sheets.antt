-- A new sheet: slot 0 Free, Vertical, whole sheet, no links; generation 0 is 0; the head has the sheet and options, root 0,
-- an empty spare chain and n = 1; only its bucket has an entry. Other places stay as they were.
-- Assumes nothing.
use Rattle.std.specs.Prelude.{List, ℕ, set}
use Rattle.geometry.specs.Sides.{setup_of}
use Rattle.geometry.specs.Buckets.{bucket_of}
use Rattle.geometry.specs.declared.AllocatorOptions.{AllocatorOptions}
use Rattle.geometry.specs.declared.Orientation.TheVariants.{Vertical}
use Rattle.geometry.specs.declared.Setup.{Setup}
use Rattle.geometry.specs.declared.Size.{Size}
use Rattle.slots.specs.Slots.{slot, none}
use Rattle.stores.specs.Stores.{stored, to_node}
use Rattle.slots.specs.declared.Node.{Node}
use Rattle.slots.specs.declared.NodeKind.TheVariants.{Free}
use Rattle.lists.specs.Lists.{bag, appended}
use Rattle.buckets.specs.FreeLists.{Lists, list_of, with_list}
use Rattle.steps.specs.State.{State, state}
use Rattle.steps.specs.declared.Head.{Head}

-- The slot of a whole sheet.
abbrev pub whole_sheet : Setup → Node
whole_sheet s =
    record { parent = none; next = none; prev = none; kind = Free; orientation = Vertical; rect = record { x0 = 0; y0 = 0; x1 = s.sheet.width; y1 = s.sheet.height } }

-- Three lists without an entry, and slot 0 entered in a bucket's.
abbrev pub no_entries : List ℕ → List ℕ → List ℕ → Lists
no_entries a b c = record { small = bag a 0; medium = bag b 0; large = bag c 0 }

abbrev pub one_entry : Setup → List ℕ → List ℕ → List ℕ → Lists
one_entry s a b c =
    let bucket = bucket_of s.small s.large s.sheet.width s.sheet.height in
    with_list bucket (appended (list_of bucket (no_entries a b c)) 0) (no_entries a b c)

-- A state with the lists given.
abbrev pub state_with : Size → AllocatorOptions → List ℕ → List ℕ → Lists → State
state_with sheet options w g l =
    state
    (record {
      sheet = sheet;
      options = options;
      root = slot 0;
      spare = none;
      count = 1;
      lengths = record { small = l.small.len; medium = l.medium.len; large = l.large.len };
    })
    w g l.small.table l.medium.table l.large.table

-- The tables of a new sheet, from whatever they held.
unfoldable pub started : Size → AllocatorOptions → List ℕ → List ℕ → List ℕ → List ℕ → List ℕ → State
started sheet options w g a b c =
    state_with sheet options (stored w (slot 0) (to_node (whole_sheet (setup_of sheet options)))) (set g 0 0) (one_entry (setup_of sheet options) a b c)
