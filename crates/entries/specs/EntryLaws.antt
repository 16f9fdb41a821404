-- Lists that are ready for a push stay so.
-- Assumes nothing.
use Rattle.std.specs.Prelude.{◌≡◌, List, ℕ, ◌<◌, length}
use Rattle.std.proofs.Common.{arith}
use Rattle.geometry.specs.Buckets.{bucket_of}
use Rattle.geometry.specs.Rectangles.{width_of, height_of}
use Rattle.geometry.specs.declared.Bucket.{Bucket}
use Rattle.geometry.specs.declared.Rectangle.{Rectangle}
use Rattle.geometry.specs.declared.Setup.{Setup}
use Rattle.slots.specs.Slots.{slot}
use Rattle.table.specs.Table.{HasSlot}
use Rattle.slots.specs.declared.AllocIndex.{AllocIndex}
use Rattle.lists.specs.Lists.{removed}
use Rattle.pushes.specs.Pushes.{pushed}
use Rattle.buckets.specs.FreeLists.{Lists, list_of, removed_from}
use Rattle.buckets.specs.FreeListLaws.{with_list_elim}
use Rattle.lists.specs.ListLaws.{length_removed, entries_removed, entries_words}
use Rattle.pushes.proofs.PushLaws.{length_pushed, entries_pushed}
use Rattle.entries.specs.Entries.{entered, ListReady, ListsReady, Enterable}

-- Any slot of the table can be pushed.
pub ready_enterable : (w : List ℕ) (v : ℕ) (l : Lists) → ListsReady w l → HasSlot w (slot v) → Enterable w v l
ready_enterable w v l r h b = let z = r b in record { entries = z.entries; few = z.few; room = z.room; slots = h }

-- Lists are ready beside another slot table of the same length,
pub ready_words : (w u : List ℕ) (l : Lists) → length u ≡ length w → ListsReady w l → ListsReady u l
ready_words w u l e r b =
    let z = r b in
    record { entries = entries_words w (list_of b l) z.entries u e; few = omega (arith, z.few); room = omega (arith, z.room) }

-- after an entry was taken out,
pub ready_removed : (w : List ℕ) (b : Bucket) (k : ℕ) (l : Lists) → k < (list_of b l).len → ListsReady w l → ListsReady w (removed_from b k l)
ready_removed w b k l h r =
    let z = r b in
    with_list_elim (λ _ x. ListReady w x) b (removed (list_of b l) k) l
    (record { entries = entries_removed w (list_of b l) z.entries k h; few = z.few; room = rw (length_removed (list_of b l) k) z.room }) r

-- and after a push.
pub ready_entered : (w : List ℕ) (s : Setup) (i : AllocIndex) (r : Rectangle) (l m : Lists) → m ≡ entered w s i r l → HasSlot w i → ListsReady w l → ListsReady w m
ready_entered w s i r l m e h z =
    let b = bucket_of s.small s.large (width_of r) (height_of r) in
    let p = ready_enterable w i.0 l z h b in
    rw e
    (with_list_elim (λ _ x. ListReady w x) b (pushed w i.0 (list_of b l)) l
    (record { entries = entries_pushed w i.0 (list_of b l) p; few = p.few; room = rw (length_pushed w i.0 (list_of b l) p) p.room }) z)
