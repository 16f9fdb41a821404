-- The words in which the promises of deallocate are said.
-- Assumes nothing.
use Rattle.std.specs.Prelude.{ℕ, ◌≡◌, List, [], ◌∷◌, ◌⊎◌, ◌↔◌}
use Rattle.tickets.specs.Tickets.{slot_of}
use Rattle.tickets.specs.declared.AllocId.{AllocId}
use Rattle.slots.specs.declared.NodeKind.TheVariants.{Free}
use Rattle.steps.specs.State.{State}
use Rattle.sound.specs.View.{seen, Live}
use Rattle.sound.specs.Sound.{sheet_of}
use Rattle.cover.specs.Sums.{rect_at}
use Rattle.frees.specs.Frees.{released}
use Rattle.sound.specs.LiveTickets.{LiveTicket}

-- The sheet, the options, the root, the slot count and the generations are the same.
pub record SameFrame (s t : State) : Type 0 where
  pub sheet : t.head.sheet ≡ s.head.sheet
  pub options : t.head.options ≡ s.head.options
  pub root : t.head.root ≡ s.head.root
  pub count : t.head.count ≡ s.head.count
  pub generations : t.generations ≡ s.generations

-- One ticket is freed.
pub record FreesOne (s : State) (t : AllocId) (after : State) : Type 0 where
  -- It is not live now; every other live ticket stays live with its rectangle, and none becomes live.
  pub gone : LiveTicket after t → ⊥
  pub others : (u : AllocId) → LiveTicket s u → (u ≡ t → ⊥) → LiveTicket after u × (rect_at after (slot_of u).0 ≡ rect_at s (slot_of u).0)
  pub only : (u : AllocId) → LiveTicket after u → LiveTicket s u
  pub same : SameFrame s after

-- A ticket is among some, and no two of some are the same.
abbrev pub Among : AllocId → List AllocId → Type 0
Among t [] = ⊥
Among t (u ∷ us) = (t ≡ u) ⊎ Among t us

abbrev pub Different : List AllocId → Type 0
Different [] = Unit {0}
Different (t ∷ ts) = (Among t ts → ⊥) × Different ts

-- All are live.
abbrev pub AllLive : State → List AllocId → Type 0
AllLive s ts = (t : AllocId) → Among t ts → LiveTicket s t

-- Different live tickets.
pub record Tickets (s : State) (ts : List AllocId) : Type 0 where
  pub different : Different ts
  pub live : AllLive s ts

-- They are freed one after another.
unfoldable pub released_each : State → List AllocId → State
released_each s [] = s
released_each s (t ∷ ts) = released_each (released s (slot_of t)) ts

-- The slots of a state, and that one of them is live.
abbrev pub LiveSlot : State → ℕ → Type 0
LiveSlot s j = Live (seen s.words) s.head.count j

-- The same slots are live, each with the same contents and generation: links, kind, orientation and rectangle, a Container's stored one too.
pub record SameSlots (s t : State) : Type 0 where
  pub same : SameFrame s t
  pub lives : (j : ℕ) → LiveSlot s j ↔ LiveSlot t j
  pub contents : (j : ℕ) → LiveSlot s j → seen t.words j ≡ seen s.words j

-- The root is the only live slot: Free, with the whole sheet.
pub record OneFree (s : State) : Type 0 where
  pub live : LiveSlot s s.head.root.0
  pub only : (j : ℕ) → LiveSlot s j → j ≡ s.head.root.0
  pub free : (seen s.words s.head.root.0).kind ≡ Free
  pub whole : rect_at s s.head.root.0 ≡ sheet_of s.head.sheet
