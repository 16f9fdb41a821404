-- Lists that are ready for a push are so where an entry was taken out.
-- Assumes nothing.
use Rattle.std.specs.Prelude.{◌≡◌, List, ℕ}
use Rattle.slots.specs.declared.AllocIndex.{AllocIndex}
use Rattle.table.specs.Table.{HasSlot}
use Rattle.buckets.specs.FreeLists.{Lists, Within, forgotten}
use Rattle.buckets.specs.ForgetLaws.{forgotten_elim}
use Rattle.entries.specs.Entries.{ListsReady, Enterable}
use Rattle.entries.specs.EntryLaws.{ready_enterable, ready_removed}

pub ready_within : (w : List ℕ) (l : Lists) → ListsReady w l → Within l
ready_within w l r b = (r b).entries.within

pub ready_forgotten : (w : List ℕ) (v : ℕ) (l m : Lists) → m ≡ forgotten v l → ListsReady w l → ListsReady w m
ready_forgotten w v l m e r = rw e (forgotten_elim (ListsReady w) v l (λ _. r) (λ b k h _. ready_removed w b k l h r))

pub forgotten_enterable : (w : List ℕ) (i : AllocIndex) (l m : Lists) → m ≡ forgotten i.0 l → ListsReady w l → HasSlot w i → Enterable w i.0 m
forgotten_enterable w i l m e r h = ready_enterable w i.0 m (ready_forgotten w i.0 l m e r) h
