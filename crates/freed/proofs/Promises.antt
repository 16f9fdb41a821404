-- THE PROMISES of deallocate, for live tickets on sound tables whose lengths are in range.
-- Assumes nothing but that.
use Rattle.std.specs.Prelude.{refl, ◌↔◌, List}
use Rattle.tickets.specs.Tickets.{slot_of}
use Rattle.tickets.specs.declared.AllocId.{AllocId}
use Rattle.steps.specs.State.{State}
use Rattle.sound.specs.View.{seen}
use Rattle.sound.specs.Sound.{Sound}
use Rattle.forest.specs.Bridge.{forest}
use Rattle.forest.specs.Forest.{Forest, Represents}
use Rattle.lent.specs.Lent.{LentOf}
use Rattle.frees.specs.Frees.{released}
use Rattle.sound.specs.LiveTickets.{LiveTicket}
use Rattle.freed.specs.Terms.{FreesOne, Among, Tickets, released_each, SameSlots, OneFree}
use Rattle.freed.proofs.Released.{Frees, release_frees}
use Rattle.freed.proofs.Many.{FreesEach, one_ticket, ticket_at, ticket_at_lem, alloc_seen, others_live, live_other, each_frees}
use Rattle.freed.proofs.Lone.{quiet_one_free}
use Rattle.freed.proofs.Orders.{any_order}

module _ (s : State) (L : LentOf s) (S : Sound s) where
  grown : (F : Forest) × Represents (seen s.words) s.head.count s.head.root.0 F
  grown = forest (seen s.words) s.head.count s.head.root.0 S.rule3

  frees : (t : AllocId) → LiveTicket s t → Frees s (slot_of t).0 grown.0 (released s (slot_of t))
  frees t v = release_frees s L S (slot_of t) v.below (alloc_seen v) grown.0 grown.1

  frees_each : (ts : List AllocId) → Tickets s ts → FreesEach s ts grown.0 (released_each s ts)
  frees_each ts K = each_frees ts s L S K grown.0 grown.1

  -- SOUND. After a live ticket is freed the tables are sound, and their lengths in range.
  pub release_keeps_sound : (t : AllocId) → LiveTicket s t → Sound (released s (slot_of t)) × LentOf (released s (slot_of t))
  release_keeps_sound t v = ((frees t v).sound, (frees t v).lent)

  -- ONE IS FREED. That ticket is not live now; every other live ticket stays live with its rectangle, and none becomes live; sheet,
  -- options, root, slot count and generations stay.
  pub release_frees_one : (t : AllocId) → LiveTicket s t → FreesOne s t (released s (slot_of t))
  release_frees_one t v =
      let h = frees t v in
      record {
        gone = λ x. (live_other h t x).0 refl;
        others = λ u x e. others_live h u x (λ q. e (one_ticket x v q));
        only = λ u x. (live_other h u x).1;
        same = h.same;
      }

  -- SOUND, however many are freed.
  pub each_keeps_sound : (ts : List AllocId) → Tickets s ts → Sound (released_each s ts) × LentOf (released_each s ts)
  each_keeps_sound ts K = ((frees_each ts K).sound, (frees_each ts K).lent)

  -- ORDER IS FREE. The same live tickets, freed in two orders, leave the same slots live with the same contents and generations, and the
  -- same sheet, options, root and slot count.
  pub order_is_free : (ts us : List AllocId) → Tickets s ts → Tickets s us → ((t : AllocId) → Among t ts ↔ Among t us)
      → SameSlots (released_each s ts) (released_each s us)
  order_is_free ts us K J m = any_order m (frees_each ts K) (frees_each us J)

  -- ALL FREED. Once every live ticket is freed, in any order, one live slot is left: the root, Free, with the whole sheet.
  pub all_freed_leaves_one : (ts : List AllocId) → Tickets s ts → ((t : AllocId) → LiveTicket s t → Among t ts) → OneFree (released_each s ts)
  all_freed_leaves_one ts K all =
      let h = frees_each ts K in
      let u = released_each s ts in
      quiet_one_free u h.sound (λ j l a. let x = h.only (ticket_at u j) (ticket_at_lem h.lent h.sound j l a) in x.1 (all (ticket_at u j) x.0))
