-- The laws by which the tables that the check makes are handed on: the first children and the marks.
-- Assumes nothing.
use Rattle.std.specs.Prelude.{◌≡◌, List, ℕ, ◌≤◌, length, take, replicate}
use Rattle.std.proofs.Common.{length-take-le}
use Rattle.geometry.specs.Sides.{setup_of}
use Rattle.geometry.specs.declared.AllocatorOptions.{AllocatorOptions}
use Rattle.geometry.specs.declared.Setup.{Setup}
use Rattle.geometry.specs.declared.Size.{Size}
use Rattle.buckets.specs.FreeLists.{Lists}
use Rattle.links.specs.Links.{firsts_to}
use Rattle.links.specs.FirstLaws.{Firsts}
use Rattle.links.proofs.FirstLaws.{firsts_of_none_links, firsts_front}
use Rattle.marks.specs.Marks.{marks_from, marks_of}
use Rattle.walked.specs.Trees.{firsts_of, TreeReady}
use Rattle.judged.specs.Judged.{Prepared, Judged}

-- The front of the table of first children has n entries.
pub front_length : (n : ℕ) (fs : List ℕ) → n ≤ length fs → length (take n fs) ≡ n
front_length n fs h = length-take-le n fs h

pub tree_prepared : {w : List ℕ} {l : Lists} {n root live : ℕ} → TreeReady w l n root live → {fs : List ℕ} → fs ≡ firsts_to w n n (replicate 4096 4294967295)
    → (ms : List ℕ) → 12288 ≤ length ms → Prepared w (take n fs) ms n root
tree_prepared {w} {l} {n} R {fs} is ms h =
    let f : Firsts w fs n = rw is (firsts_of_none_links w n R.table 4096 R.table.few) in
    record { table = R.table; top = R.top; firsts = firsts_front f; front = front_length n fs f.room; marks = h }

pub tree_judged : (w : List ℕ) (l : Lists) (n root : ℕ) (sheet : Size) (options : AllocatorOptions) {u : Setup} {fs ms : List ℕ} {r k : ℕ}
    → u ≡ setup_of sheet options
    → fs ≡ firsts_to w n n (replicate 4096 4294967295)
    → ms ≡ marks_from l (replicate 12288 0)
    → Judged w (take n fs) ms n root u r k
    → Judged w (firsts_of w n) (marks_of l) n root (setup_of sheet options) r k
unfolding firsts_of marks_of
tree_judged w l n root sheet options eu ef em j = rw (em, ef, eu) at j
