-- WHEN DEALLOCATE ANSWERS WHAT, and what holds after it: of any outcome o that its contract allows.
-- Assumes nothing.
use Rattle.std.specs.Prelude.{◌≡◌, Bool, true, false, ◌↔◌, List, [], ◌∷◌, ℕ, ◌≤◌, ◌<◌, get_or, eqb}
use Rattle.std.proofs.Math.Path.{refl}
use Rattle.geometry.specs.Choice.{pick}
use Rattle.geometry.specs.Rectangles.{no_rect}
use Rattle.geometry.specs.declared.Rectangle.{Rectangle}
use Rattle.table.specs.Table.{node_at}
use Rattle.tickets.specs.Tickets.{slot_of, generation_of}
use Rattle.tickets.specs.declared.AllocId.{AllocId}
use Rattle.slots.specs.declared.NodeKind.TheVariants.{Alloc}
use Rattle.steps.specs.State.{State}
use Rattle.sound.specs.Sound.{Sound}
use Rattle.sound.specs.LiveTickets.{LiveTicket}
use Rattle.lent.specs.Lent.{LentOf}
use Rattle.outcomes.specs.Given.{Given, nothing, given}
use Rattle.audit.specs.Answers.{after_check}
use Rattle.audit.proofs.AnswerLaws.{answers_once, own_answer, refused_changes_nothing, done_leaves, stays_sound}
use Rattle.live.specs.Live.{ticket_answer}
use Rattle.lookup.specs.Lookup.{lookup, IndexCall}
use Rattle.lookup.specs.LookupWhen.{index_gives_1, index_gives_2, index_gives_8, index_gives_9, index_gives_10, index_gives_0}
use Rattle.frees.specs.Frees.{released}
use Rattle.freed.specs.Terms.{FreesOne, Among, Tickets, released_each, SameSlots, OneFree}
use Rattle.freed.proofs.Promises.{release_keeps_sound, release_frees_one, order_is_free, all_freed_leaves_one}
use Rattle.deallocate.specs.Deallocate.{deallocated, DeallocateCall}
use Rattle.deallocate.specs.DeallocateLaws.{answered_live}

-- No other outcome meets the contract.
pub deallocate_once : (s : State) (t : AllocId) {o p : Given (Unit {0})} → DeallocateCall s t o → DeallocateCall s t p → o ≡ p
deallocate_once s t = answers_once

-- The answer after a check is the check's or the call's own.
same_answer : {A B : Type 0} (x : A) (y : B) (s : State) (f : Given A) (g : Given B) (k : ℕ) → f.answer ≡ g.answer → (after_check x s f k).answer ≡ (after_check y s g k).answer
unfolding after_check
same_answer {A} {B} x y s f g k e = go (eqb k 0)
  where
    go : (b : Bool) → (pick b f (given k x s)).answer ≡ (pick b g (given k y s)).answer
    go true = e
    go false = refl

module _ (s : State) (t : AllocId) where
  abbrev told : ℕ
  told = ticket_answer s.words s.generations s.head.count t

  module _ {o : Given (Unit {0})} (call : DeallocateCall s t o) where
    -- A ticket gets the number that it would get of the lookup.
    pub as_lookup : (p : Given Rectangle) × IndexCall s t p × (o.answer ≡ p.answer)
    unfolding after_check
    as_lookup = (
      after_check no_rect s (lookup s t) call.code,
      record { code = call.code; checked = call.checked; is = refl },
      rw call.is (same_answer nothing no_rect s (deallocated s t) (lookup s t) call.code (own_answer s (released s (slot_of t)) told)),
    )

    -- 1: a table length is outside its range.
    pub deallocate_gives_1 : (o.answer ≡ 1) ↔ (LentOf s → ⊥)
    deallocate_gives_1 = rw as_lookup.2 (index_gives_1 s t as_lookup.1)

    -- 2: the lengths are in range and the tables are not sound.
    pub deallocate_gives_2 : (o.answer ≡ 2) ↔ (LentOf s × (Sound s → ⊥))
    deallocate_gives_2 = rw as_lookup.2 (index_gives_2 s t as_lookup.1)

    -- 8: the tables are sound, of lengths in range, and the ticket's slot is not below n.
    pub deallocate_gives_8 : (o.answer ≡ 8) ↔ (LentOf s × Sound s × (s.head.count ≤ (slot_of t).0))
    deallocate_gives_8 = rw as_lookup.2 (index_gives_8 s t as_lookup.1)

    -- 9: its slot is below n, and its generation differs.
    pub deallocate_gives_9 : (o.answer ≡ 9) ↔ (LentOf s × Sound s × (((slot_of t).0 < s.head.count) × (get_or s.generations (slot_of t).0 0 ≡ generation_of t → ⊥)))
    deallocate_gives_9 = rw as_lookup.2 (index_gives_9 s t as_lookup.1)

    -- 10: its slot is below n, its generation is the present one, and its slot is not Alloc.
    pub deallocate_gives_10 : (o.answer ≡ 10)
        ↔ (LentOf s × Sound s × (((slot_of t).0 < s.head.count) × (get_or s.generations (slot_of t).0 0 ≡ generation_of t) × ((node_at s.words (slot_of t)).kind ≡ Alloc → ⊥)))
    deallocate_gives_10 = rw as_lookup.2 (index_gives_10 s t as_lookup.1)

    -- 0: the ticket is live.
    pub deallocate_gives_0 : (o.answer ≡ 0) ↔ (LentOf s × Sound s × LiveTicket s t)
    deallocate_gives_0 = rw as_lookup.2 (index_gives_0 s t as_lookup.1)

    -- A refusal changes nothing: head and every table stay as they were.
    pub deallocate_refused : (o.answer ≡ 0 → ⊥) → o ≡ given o.answer nothing s
    deallocate_refused = refused_changes_nothing s (released s (slot_of t)) told call

    -- A live ticket's slot is freed.
    pub deallocate_frees : o.answer ≡ 0 → o ≡ given 0 nothing (released s (slot_of t))
    deallocate_frees = done_leaves s (released s (slot_of t)) told call

    -- SOUND tables stay sound, and lengths in range, on every answer.
    pub deallocate_keeps_sound : LentOf s → Sound s → Sound o.after × LentOf o.after
    deallocate_keeps_sound L S = stays_sound s (released s (slot_of t)) told call (λ e. release_keeps_sound s L S t (answered_live s t e)) L S

    -- ONE IS FREED. On 0 the ticket is not live any more; every other live ticket stays live with its rectangle, and none becomes live; sheet,
    -- options, root, slot count and generations stay.
    pub deallocate_frees_one : o.answer ≡ 0 → FreesOne s t o.after
    deallocate_frees_one z = let h = deallocate_gives_0.0 z in rw (deallocate_frees z) (release_frees_one s h.0 h.1 t h.2)

-- MANY TICKETS, one after another, each answered 0, leave u.
abbrev pub DeallocateEach : State → List AllocId → State → Type 0
DeallocateEach s [] u = u ≡ s
DeallocateEach s (t ∷ ts) u = (o : Given (Unit {0})) × DeallocateCall s t o × (o.answer ≡ 0) × DeallocateEach o.after ts u

each_released : (ts : List AllocId) (s u : State) → DeallocateEach s ts u → u ≡ released_each s ts
unfolding released_each
each_released [] s u e = e
each_released (t ∷ ts) s u (o, call, z, rest) = each_released ts (released s (slot_of t)) u (rw (deallocate_frees s t call z) at rest)

module _ (s : State) (L : LentOf s) (S : Sound s) where
  -- ORDER IS FREE. The same live tickets, freed in two orders, leave the same slots live with the same contents and generations, and the
  -- same sheet, options, root and slot count.
  pub deallocate_order_is_free : (ts us : List AllocId) {u v : State} → Tickets s ts → Tickets s us → ((t : AllocId) → Among t ts ↔ Among t us)
      → DeallocateEach s ts u → DeallocateEach s us v → SameSlots u v
  deallocate_order_is_free ts us K J m f g = rw (each_released ts s _ f, each_released us s _ g) (order_is_free s L S ts us K J m)

  -- ALL FREED. Once every live ticket is freed, in any order, one live slot is left: the root, Free, with the whole sheet.
  pub deallocate_all_leaves_one : (ts : List AllocId) {u : State} → Tickets s ts → ((t : AllocId) → LiveTicket s t → Among t ts)
      → DeallocateEach s ts u → OneFree u
  deallocate_all_leaves_one ts K all f = rw (each_released ts s _ f) (all_freed_leaves_one s L S ts K all)
