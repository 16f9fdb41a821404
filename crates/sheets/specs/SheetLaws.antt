-- The laws by which the tables of a new sheet are those that its steps leave.
-- Assumes nothing.
use Rattle.std.specs.Prelude.{◌≡◌, refl, ℕ, ◌+◌, ◌*◌, ◌≤◌, ◌<◌, length, set}
use Rattle.std.proofs.Math.Path.{ap}
use Rattle.std.proofs.Common.{sym, ◌∙◌, arith}
use mathlib.Core.List.{List}
use Rattle.geometry.specs.Sides.{setup_of}
use Rattle.geometry.specs.Buckets.{bucket_of}
use Rattle.geometry.specs.declared.AllocatorOptions.{AllocatorOptions}
use Rattle.geometry.specs.declared.Bucket.{Bucket}
use Rattle.geometry.specs.declared.Bucket.TheVariants.{Small, Medium, Large}
use Rattle.geometry.specs.declared.Setup.{Setup}
use Rattle.geometry.specs.declared.Size.{Size}
use Rattle.slots.specs.Slots.{slot, none}
use Rattle.table.specs.Table.{HasSlot}
use Rattle.stores.proofs.StoreLaws.{length_stored}
use Rattle.stores.specs.Stores.{stored, to_node}
use Rattle.slots.specs.declared.Node.{Node}
use Rattle.lists.specs.Lists.{Bag, bag, appended, Entries}
use Rattle.pushes.specs.Pushes.{Pushable}
use Rattle.pushes.proofs.PushLaws.{room_given, push_appends}
use Rattle.buckets.specs.FreeLists.{Lists, lists, list_of, with_list, pushed_to}
use Rattle.buckets.specs.declared.Lengths.{Lengths}
use Rattle.steps.specs.State.{state}
use Rattle.steps.specs.declared.Head.{Head}
use Rattle.lent.specs.Lent.{Lent}
use Rattle.sheets.specs.Sheets.{whole_sheet, no_entries, one_entry, state_with, started}

module _ (w g a b c : List ℕ) (L : Lent (length w) (length g) (length a) (length b) (length c)) where
  -- Every list table has as many places as there are slots, and no entry yet.
  list_empty : (k : Bucket) → ((list_of k (no_entries a b c)).len ≡ 0) × (length g ≤ length (list_of k (no_entries a b c)).table)
  list_empty Small = (refl, L.small.enough)
  list_empty Medium = (refl, L.medium.enough)
  list_empty Large = (refl, L.large.enough)

  -- Slot 0 can be entered, in whichever bucket.
  pub first_pushable : (u : List ℕ) (n : Node) (k : Bucket) → u ≡ stored w (slot 0) (to_node n) → Pushable u 0 (list_of k (no_entries a b c))
  first_pushable u n k h =
      let e : length u ≡ length w = ap length h ∙ length_stored w (slot 0) (to_node n) in
      let q = list_empty k in
      record {
        entries = record { within = omega (arith, q.0); has = λ j h. absurd (omega (arith, q.0)) };
        few = omega (arith, L.few, L.eight);
        room = omega (arith, q.1, L.eight);
        slots = omega (arith, L.some, L.eight);
      }

  -- The first push appends.
  pub first_push : (u : List ℕ) (k : Bucket) → pushed_to u 0 k (no_entries a b c) ≡ with_list k (appended (list_of k (no_entries a b c)) 0) (no_entries a b c)
  first_push u k =
      let q = list_empty k in
      let room = room_given (list_of k (no_entries a b c)).len (list_of k (no_entries a b c)).table (omega (arith, q.0, q.1, L.some)) in
      ap (λ (x : Bag). with_list k x (no_entries a b c)) (sym (push_appends u 0 (list_of k (no_entries a b c)) room))

  -- The whole, from what its calls ensure.
  pub begun_started : (sheet : Size) (options : AllocatorOptions) (t : Setup) (k : Bucket) (n : Node) (u : List ℕ) (l : Lengths) (a' b' c' : List ℕ)
      → t ≡ setup_of sheet options → k ≡ bucket_of t.small t.large t.sheet.width t.sheet.height → n ≡ whole_sheet t
      → u ≡ stored w (slot 0) (to_node n) → lists l a' b' c' ≡ pushed_to u 0 k (no_entries a b c)
      → state_with sheet options u (set g 0 0) (lists l a' b' c') ≡ started sheet options w g a b c
  unfolding started
  begun_started sheet options t k n u l a' b' c' et ek en eu el =
      ap (λ (x : Lists). state_with sheet options u (set g 0 0) x) (el ∙ first_push u k)
      ∙ (ap (λ (x : Bucket). state_with sheet options u (set g 0 0) (with_list x (appended (list_of x (no_entries a b c)) 0) (no_entries a b c))) ek
      ∙ (ap (λ (x : List ℕ). state_with sheet options x (set g 0 0) (one_entry t a b c)) (eu ∙ ap (λ (x : Node). stored w (slot 0) (to_node x)) en)
      ∙ ap (λ (x : Setup). state_with sheet options (stored w (slot 0) (to_node (whole_sheet x))) (set g 0 0) (one_entry x a b c)) et))
