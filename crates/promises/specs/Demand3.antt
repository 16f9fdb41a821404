-- DEMAND 3. On sound tables, allocated and free rectangles cover the sheet once, without overlap. Past 4 and 5, "no space" is said exactly when no free
-- rectangle is as wide and as tall as the rounded request. No call, refused or not, makes them unsound, and an accepted start, clear or reset
-- leaves them sound whatever they held before. Free any set of different live tickets in any two orders: the same slots stay live, with the
-- same rectangles, kinds, links and generations. Free all of them, and one sheet-sized free rectangle is left, at the root.
-- Assumes nothing.
use Rattle.std.specs.Prelude.{◌≡◌, refl, List, Result, Ok, ◌↔◌, ℕ, ◌+◌, ◌*◌, ◌^◌, ◌<◌}
use Rattle.std.proofs.Common.{ap, sym, ◌∙◌, inl, inr, mul-le-mul, arith}
use Rattle.std.proofs.Math.Decide.{ℕ_discrete}
use Rattle.geometry.specs.Measures.{area_of}
use Rattle.geometry.specs.Sides.{natural, valid_setup}
use Rattle.geometry.specs.SideLaws.{sheet_side_lem}
use Rattle.geometry.specs.TestLaws.{and_true_each}
use Rattle.geometry.specs.declared.AllocatorOptions.{AllocatorOptions}
use Rattle.geometry.specs.declared.Extent.{Extent}
use Rattle.geometry.specs.declared.Size.{Size}
use Rattle.refusals.specs.declared.Refusal.{Refusal}
use Rattle.tickets.specs.Tickets.{slot_of}
use Rattle.tickets.specs.declared.AllocId.{AllocId}
use Rattle.steps.specs.State.{State}
use Rattle.steps.specs.declared.Head.{Head}
use Rattle.sound.specs.Sound.{Sound}
use Rattle.sound.specs.LiveTickets.{LiveTicket}
use Rattle.lent.specs.Lent.{LentOf}
use Rattle.cover.proofs.Covered.{sheet_area, leaves_apart}
use Rattle.cover.proofs.Points.{point_has_one_slot}
use Rattle.cover.specs.Sums.{alloc_measure, free_measure, sum_slots, LeafAt, rect_at, InRect}
use Rattle.starts.specs.Starts.{clear_call}
use Rattle.starts.specs.StartSound.{start_leaves_sound, start_keeps_lent, clear_leaves_sound}
use Rattle.starts.specs.StartWhen.{start_refusal_changes_nothing}
use Rattle.empty.proofs.EmptyWhen.{empty_changes_nothing}
use Rattle.outcomes.specs.Given.{Given}
use Rattle.grants.specs.Grants.{Grant}
use Rattle.granted.specs.Terms.{Roomy, Refuses, GivesOut}
use Rattle.allocate.specs.Allocate.{Crop, AllocateCall}
use Rattle.allocate.specs.AllocateWhen.{asks, Taken, as_grant, allocate_gives_6, allocate_keeps_sound, allocate_refusal_changes_nothing, allocate_refusal_changes_lists_alone, allocate_gives_out}
use Rattle.freed.specs.Terms.{Among, Tickets, SameSlots, OneFree}
use Rattle.deallocate.specs.DeallocateWhen.{deallocate_refused, deallocate_keeps_sound, deallocate_frees_one, DeallocateEach, deallocate_order_is_free, deallocate_all_leaves_one}
use Rattle.grow.specs.GrowWhen.{grow_refused, grow_keeps_sound, grow_keeps_tickets}
use Rattle.promises.specs.Calls.{Call, Start, Reset, Clear, Allocate, Deallocate, Grow, Index, Listing, IsEmpty, Leaves, Run, Done, Then, Spares}
use Rattle.promises.specs.Demand1.{after_of}
use Rattle.promises.specs.Demand2.{lookup_is_its_model, listing_is_its_model}

-- COVERED ONCE. Each point of the sheet lies in the rectangle of an Alloc or Free slot, and of no other one.
pub sheet_is_covered_once : (s : State) → Sound s → (x y : ℕ) → x < natural s.head.sheet.width → y < natural s.head.sheet.height
    → (i : ℕ) × LeafAt s i × InRect x y (rect_at s i) × ((j : ℕ) → LeafAt s j → InRect x y (rect_at s j) → j ≡ i)
sheet_is_covered_once s S = point_has_one_slot S

-- WITHOUT OVERLAP. The rectangles of two different Alloc or Free slots share no point.
pub rectangles_are_apart : (s : State) → Sound s → (i j : ℕ) → LeafAt s i → LeafAt s j → (i ≡ j → ⊥)
    → (x y : ℕ) → InRect x y (rect_at s i) → InRect x y (rect_at s j) → ⊥
rectangles_are_apart s S = leaves_apart S

-- AREA. The areas of the Alloc slots and those of the Free slots make up the sheet's.
pub areas_make_the_sheet : (s : State) → Sound s
    → sum_slots (alloc_measure area_of) s + sum_slots (free_measure area_of) s ≡ natural s.head.sheet.width * natural s.head.sheet.height
areas_make_the_sheet s S = sheet_area S

-- THE TOTAL is below 2^62, whatever the sheet.
pub areas_fit : (s : State) → Sound s → sum_slots (alloc_measure area_of) s + sum_slots (free_measure area_of) s < 2 ^ 62
unfolding valid_setup
areas_fit s S =
    let a = and_true_each _ _ S.rule1.valid in
    let b = and_true_each _ _ a.1 in
    let w = ((sheet_side_lem (natural s.head.sheet.width)).0 a.0).1 in
    let t = ((sheet_side_lem (natural s.head.sheet.height)).0 b.0).1 in
    rw (areas_make_the_sheet s S) (omega (arith, mul-le-mul w t))

-- NO SPACE. On sound tables, past 4 and 5, where the rounded request is e, 6 is given exactly when no Free rectangle is as wide and as tall as e.
pub no_space_is_exact : (z : Size) (s : State) (k : ℕ) (t : State) (e : Extent) → LentOf s → Sound s → asks s z ≡ Ok e → Leaves (Allocate z) s k t
    → (k ≡ 6) ↔ ((x : ℕ) → Roomy s e x → ⊥)
no_space_is_exact z s k t e L S q (_, call) =
    let h = allocate_gives_6 s z call in
    (λ n. let f = (h.0 n).2 in rw (same_request (sym f.1 ∙ q)) at f.2, λ none. h.1 (L, S, (e, q, none)))
  where
    same_request : {d g : Extent} → ◌≡◌ {A = Result Extent Refusal} (Ok d) (Ok g) → d ≡ g
    same_request p = cc

started : (z : Size) (o : AllocatorOptions) (s : State) (k : ℕ) (t : State) → Leaves (Start z o) s k t → LentOf s → Sound s → Sound t × LentOf t
started z o s k t e L S = let f = after_of e in (by (ℕ_discrete k 0), rw f.1 (start_keeps_lent z o s L))
  where
    by : Dec (k ≡ 0) → Sound t
    by (yes q) = let f = after_of e in rw f.1 (start_leaves_sound z o s (sym f.0 ∙ q))
    by (no n) = let f = after_of e in rw (f.1 ∙ start_refusal_changes_nothing z o s (rw f.0 at n)) S

-- NO CALL MAKES THEM UNSOUND, whatever it answers.
pub no_call_makes_unsound : (c : Call) (s : State) (k : ℕ) (t : State) → Leaves c s k t → LentOf s → Sound s → Sound t × LentOf t
unfolding clear_call
no_call_makes_unsound (Start z o) s k t e L S = started z o s k t e L S
no_call_makes_unsound (Reset z o) s k t e L S = started z o s k t e L S
no_call_makes_unsound Clear s k t e L S = started s.head.sheet s.head.options s k t e L S
no_call_makes_unsound (Allocate z) s k t (_, call) L S = allocate_keeps_sound s z call L S
no_call_makes_unsound (Deallocate i) s k t call L S = deallocate_keeps_sound s i call L S
no_call_makes_unsound (Grow z) s k t call L S = grow_keeps_sound s z call L S
no_call_makes_unsound (Index i) s k t (r, call) L S = let e = ap (λ g. g.after) (lookup_is_its_model s L S i _ call) in rw e (S, L)
no_call_makes_unsound (Listing kind out) s k t (f, call) L S = let e = ap (λ g. g.after) (listing_is_its_model s L S kind out _ call) in rw e (S, L)
no_call_makes_unsound IsEmpty s k t (b, call) L S = let e = empty_changes_nothing call in rw e (S, L)

-- So no run of calls does.
pub no_run_makes_unsound : {s u : State} → Run s u → LentOf s → Sound s → Sound u × LentOf u
no_run_makes_unsound Done L S = (S, L)
no_run_makes_unsound (Then c k l r) L S = let h = no_call_makes_unsound c _ k _ l L S in no_run_makes_unsound r h.1 h.0

-- A TICKET KEEPS ITS RECTANGLE. A live ticket stays live with its rectangle through any call, whatever that answers, but start, reset and clear, and its own deallocate.
abbrev pub Stays : State → State → AllocId → Type 0
Stays s t i = LiveTicket t i × (rect_at t (slot_of i).0 ≡ rect_at s (slot_of i).0)

stays_same : {s t : State} {i : AllocId} → t ≡ s → LiveTicket s i → Stays s t i
stays_same e v = rw e (v, refl)

-- Where the slots, the generations and the slot count are as they were.
stays_searched : {s : State} {i : AllocId} {e : Extent} (g : Grant) → Refuses s e g → LiveTicket s i → Stays s g.after i
stays_searched g r v =
    let n = ap (λ (h : Head). h.count) r.head in
    (record { below = rw n v.below; present = rw r.generations v.present; alloc = rw r.words v.alloc }, rw r.words refl)

pub ticket_keeps_its_rectangle : (c : Call) (s : State) (k : ℕ) (t : State) → Leaves c s k t → LentOf s → Sound s → (i : AllocId) → Spares c i → LiveTicket s i → Stays s t i
ticket_keeps_its_rectangle (Start z o) s k t l L S i no_call v = absurd no_call
ticket_keeps_its_rectangle (Reset z o) s k t l L S i no_call v = absurd no_call
ticket_keeps_its_rectangle Clear s k t l L S i no_call v = absurd no_call
ticket_keeps_its_rectangle (Allocate z) s k t (c, call) L S i _ v = by (ℕ_discrete k 0) (ℕ_discrete k 6) (ℕ_discrete k 7)
  where
    by : Dec (k ≡ 0) → Dec (k ≡ 6) → Dec (k ≡ 7) → Stays s t i
    by (yes q) _ _ = let (e, _, out) = allocate_gives_out s z call q in out.others i v
    by (no _) (yes q) _ = let (e, _, r) = allocate_refusal_changes_lists_alone s z call (inl q) in stays_searched _ r v
    by (no _) (no _) (yes q) = let (e, _, r) = allocate_refusal_changes_lists_alone s z call (inr q) in stays_searched _ r v
    by (no a) (no b) (no d) = stays_same (after_of (allocate_refusal_changes_nothing s z call a b d)).1 v
ticket_keeps_its_rectangle (Deallocate j) s k t call L S i d v = by (ℕ_discrete k 0)
  where
    by : Dec (k ≡ 0) → Stays s t i
    by (yes q) = (deallocate_frees_one s j call q).others i v d
    by (no n) = stays_same (after_of (deallocate_refused s j call n)).1 v
ticket_keeps_its_rectangle (Grow z) s k t call L S i _ v = by (ℕ_discrete k 0)
  where
    by : Dec (k ≡ 0) → Stays s t i
    by (yes q) = (grow_keeps_tickets s z call q).stays i v
    by (no n) = stays_same (after_of (grow_refused s z call n)).1 v
ticket_keeps_its_rectangle (Index j) s k t (r, call) L S i _ v = stays_same (ap (λ g. g.after) (lookup_is_its_model s L S j _ call)) v
ticket_keeps_its_rectangle (Listing kind out) s k t (f, call) L S i _ v = stays_same (ap (λ g. g.after) (listing_is_its_model s L S kind out _ call)) v
ticket_keeps_its_rectangle IsEmpty s k t (b, call) L S i _ v = stays_same (empty_changes_nothing call) v

-- A NEW TICKET gets a rectangle of the rounded size, inside a Free one and apart from every Alloc one; no other ticket becomes live.
pub new_ticket_has_its_own : (z : Size) (s : State) (o : Given Crop) → AllocateCall z s o → o.answer ≡ 0 → Taken s z (λ e. GivesOut s e (as_grant o))
new_ticket_has_its_own z s o call = allocate_gives_out s z call

-- SOUND FROM THE START. An accepted start, reset or clear leaves sound tables, whatever they held before,
pub accepted_start_leaves_sound : (z : Size) (o : AllocatorOptions) (s : State) (t : State) → Leaves (Start z o) s 0 t → Sound t
accepted_start_leaves_sound z o s t e = let f = after_of e in rw f.1 (start_leaves_sound z o s (sym f.0))

pub accepted_reset_leaves_sound : (z : Size) (o : AllocatorOptions) (s : State) (t : State) → Leaves (Reset z o) s 0 t → Sound t
accepted_reset_leaves_sound z o s t e = let f = after_of e in rw f.1 (start_leaves_sound z o s (sym f.0))

pub accepted_clear_leaves_sound : (s : State) (t : State) → Leaves Clear s 0 t → Sound t
accepted_clear_leaves_sound s t e = let f = after_of e in rw f.1 (clear_leaves_sound s (sym f.0))

-- ORDER IS FREE. Different live tickets freed in two orders, each answered 0: the same slots stay live with the same links, kinds, orientations,
-- rectangles and generations.
pub order_is_free : (s : State) → LentOf s → Sound s → (ts us : List AllocId) {u v : State} → Tickets s ts → Tickets s us → ((t : AllocId) → Among t ts ↔ Among t us)
    → DeallocateEach s ts u → DeallocateEach s us v → SameSlots u v
order_is_free s L S ts us = deallocate_order_is_free s L S ts us

-- ALL FREED. Once every live ticket is freed, in any order, one live slot is left: the root, Free, with the whole sheet.
pub all_freed_leaves_one : (s : State) → LentOf s → Sound s → (ts : List AllocId) {u : State} → Tickets s ts → ((t : AllocId) → LiveTicket s t → Among t ts)
    → DeallocateEach s ts u → OneFree u
all_freed_leaves_one s L S ts = deallocate_all_leaves_one s L S ts
