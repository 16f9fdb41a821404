-- What the questions before a grow ask of the tables, and the first of them.
-- Assumes nothing.
use Rattle.std.specs.Prelude.{◌≡◌, Bool, false, ◌&&◌, not, List, ℕ, length}
use Rattle.geometry.specs.Choice.{pick}
use Rattle.slots.specs.Slots.{is_none}
use Rattle.table.specs.Table.{HasSlot}
use Rattle.lists.specs.Lists.{free_entry}
use Rattle.steps.specs.declared.Head.{Head}
use Rattle.spares.specs.Chains.{SpareReady}
use Rattle.grows.specs.Grows.{last_from}
use Rattle.stretches.specs.Chains.{ChainHas}

-- The table holds the top chain as far as it is followed, with its root and its last slot.
pub record TopReady (w : List ℕ) (h : Head) : Type 0 where
  pub some : is_none h.root ≡ false
  pub first : HasSlot w h.root
  pub chain : ChainHas h.count w h.root
  pub last : HasSlot w (last_from h.count w h.root)

-- And its spare slots can be counted.
pub record Growable (w g : List ℕ) (h : Head) : Type 0 where
  pub top : TopReady w h
  pub spare : SpareReady w (length g) h.spare h.count

-- The new slots along, if the sheet grows so: 1 to append to the last slot of the top chain, none where that is Free.
unfoldable pub slots_along : List ℕ → Head → Bool → ℕ
slots_along w h grows = pick (grows && not (free_entry w (last_from h.count w h.root).0)) 1 0
