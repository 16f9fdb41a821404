-- What freeing a slot asks of the tables.
-- Assumes nothing.
use Rattle.std.specs.Prelude.{◌≡◌, List, ℕ, ◌<◌}
use Rattle.slots.specs.declared.AllocIndex.{AllocIndex}
use Rattle.slots.specs.declared.NodeKind.TheVariants.{Alloc}
use Rattle.steps.specs.State.{state}
use Rattle.steps.specs.declared.Head.{Head}
use Rattle.sound.specs.View.{seen}
use Rattle.sound.specs.Sound.{Sound}
use Rattle.lent.specs.Lent.{LentOf}

-- With some generations the lengths are in range and the tables sound, and slot i is Alloc.
pub record Releasable (h : Head) (w a b c : List ℕ) (i : AllocIndex) : Type 0 where
  pub generations : List ℕ
  pub lent : LentOf (state h w generations a b c)
  pub sound : Sound (state h w generations a b c)
  pub below : i.0 < h.count
  pub alloc : (seen w i.0).kind ≡ Alloc
