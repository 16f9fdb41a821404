-- What the cut of the chosen slot asks of the tables.
-- Assumes nothing.
use Rattle.std.specs.Prelude.{List, ℕ, ◌<◌, length}
use Rattle.cuts.specs.Cuts.{FitsIn}
use Rattle.geometry.specs.declared.Bucket.{Bucket}
use Rattle.geometry.specs.declared.Extent.{Extent}
use Rattle.table.specs.Table.{node_at}
use Rattle.slots.specs.declared.AllocIndex.{AllocIndex}
use Rattle.buckets.specs.FreeLists.{Lists, list_of}
use Rattle.steps.specs.declared.Head.{Head}
use Rattle.entries.specs.Entries.{ListsReady}
use Rattle.pairs.specs.Pairs.{LinkHas}
use Rattle.spares.specs.Chains.{SpareReady}

-- The chosen slot is in the table, the request fits it, and its entry is in a list; the spare chain is in order.
pub record ChosenReady (w g : List ℕ) (h : Head) (l : Lists) (e : Extent) (i : AllocIndex) (b : Bucket) (k : ℕ) : Type 0 where
  pub spare : SpareReady w (length g) h.spare h.count
  pub chosen : i.0 < length g
  pub next : LinkHas w (node_at w i).next
  pub fits : FitsIn (node_at w i).rect e.width e.height
  pub lists : ListsReady w l
  pub place : k < (list_of b l).len
