-- The laws of a push: by its two branches, and what it keeps.
-- Assumes nothing.
use Rattle.std.specs.Prelude.{◌≡◌, true, false, List, ℕ, ◌≤◌, ◌<◌, length}
use Rattle.std.proofs.Math.Path.{refl}
use Rattle.std.proofs.Common.{arith, lt-ltb, le-ltb, ltb-true, ltb-false}
use Rattle.geometry.specs.Choice.{pick_elim}
use Rattle.slots.specs.Slots.{slot}
use Rattle.table.specs.Table.{HasSlot}
use Rattle.lists.specs.Lists.{Bag, bag, appended, Each, Entries}
use Rattle.pushes.specs.Pushes.{swept, has_room, pushed, Pushable}
use Rattle.pushes.proofs.RoomLaws.{room_after_sweep}
use Rattle.lists.specs.ListLaws.{length_appended, each_appended, entries_appended}
use Rattle.pushes.proofs.SweptLaws.{length_swept, each_swept, entries_swept}
use Rattle.pushes.specs.PushLaws.{ready}

module _ (w : List ℕ) (v : ℕ) (b : Bag) where
  pub pushed_ready : pushed w v b ≡ appended (ready w v b) v
  unfolding pushed ready
  pushed_ready = refl

  -- What holds of the list with room, and of the full list once swept, holds of the one appended to.
  pub ready_elim : (P : Bag → Type 0) → (b.len < length b.table → P b) → (length b.table ≤ b.len → P (swept w v b)) → P (ready w v b)
  unfolding ready has_room
  ready_elim P f g = pick_elim P (has_room b) b (swept w v b) (λ e. f (ltb-true _ _ e)) (λ e. g (ltb-false _ _ e))

-- A list has room if its length is below its table's.
pub room_given : (n : ℕ) (t : List ℕ) → n < length t → has_room (bag t n) ≡ true
unfolding has_room
room_given n t h = lt-ltb _ _ h

pub room_gone : (n : ℕ) (t : List ℕ) → length t ≤ n → has_room (bag t n) ≡ false
unfolding has_room
room_gone n t h = le-ltb _ _ h

-- With room, a push appends; without, it sweeps and then appends.
pub push_appends : (w : List ℕ) (v : ℕ) (b : Bag) → has_room b ≡ true → appended b v ≡ pushed w v b
unfolding pushed
push_appends w v b e = rw e

pub push_sweeps : (w : List ℕ) (v : ℕ) (b : Bag) → has_room b ≡ false → appended (swept w v b) v ≡ pushed w v b
unfolding pushed
push_sweeps w v b e = rw e

module _ (w : List ℕ) (v : ℕ) (b : Bag) (p : Pushable w v b) where
  -- A swept list has room, and so has the one appended to.
  pub room_swept : (s : Bag) → s ≡ swept w v b → s.len < length s.table
  room_swept s e = rw e (omega (arith, room_after_sweep w v b p, length_swept w v b p.entries.within))

  pub room_ready : (ready w v b).len < length (ready w v b).table
  room_ready = ready_elim w v b (λ (x : Bag). x.len < length x.table) (λ h. h) (λ _. room_swept (swept w v b) refl)

  -- A push keeps the table's length.
  pub length_pushed : length (pushed w v b).table ≡ length b.table
  length_pushed =
      rw (pushed_ready w v b, length_appended)
      (ready_elim w v b (λ (x : Bag). length x.table ≡ length b.table) (λ _. refl) (λ _. length_swept w v b p.entries.within))

  -- After a push the length is within the table, and the entries name slots.
  pub entries_pushed : Entries w (pushed w v b)
  entries_pushed =
      rw (pushed_ready w v b)
      (entries_appended w (ready w v b) (ready_elim w v b (Entries w) (λ _. p.entries) (λ _. entries_swept w b p.entries v)) v room_ready p.slots)

  pub pushed_within : (pushed w v b).len ≤ length (pushed w v b).table
  pushed_within = entries_pushed.within

  -- What holds of every entry, and of the pushed one, holds of every entry after a push.
  pub each_pushed : (P : ℕ → Type 0) → Each P b → P v → Each P (pushed w v b)
  each_pushed P e q =
      rw (pushed_ready w v b)
      (each_appended P (ready w v b) v room_ready (ready_elim w v b (Each P) (λ _. e) (λ _. each_swept P w v b e)) q)

  -- The list can be pushed to again.
  pub pushable_pushed : (u : ℕ) → HasSlot w (slot u) → Pushable w u (pushed w v b)
  pushable_pushed u h = record { entries = entries_pushed; few = p.few; room = rw length_pushed p.room; slots = h }
