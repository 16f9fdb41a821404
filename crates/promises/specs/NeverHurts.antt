-- FREEING NEVER HURTS (request P13). On sound tables, if allocate of some size would not answer 4, 5 or 6, then after any accepted deallocate or
-- grow, and after any run of them, refused or not, the same size still doesn't. It may answer 7, since the cut may differ.
-- Assumes nothing.
use Rattle.std.specs.Prelude.{◌≡◌, refl, ℕ}
use Rattle.std.proofs.Common.{sym, ◌∙◌, ap}
use Rattle.std.proofs.Math.Decide.{ℕ_discrete}
use Rattle.geometry.specs.Sides.{setup_of}
use Rattle.geometry.specs.declared.Extent.{Extent}
use Rattle.geometry.specs.declared.Size.{Size}
use Rattle.rounding.specs.Rounding.{request_of}
use Rattle.steps.specs.State.{State}
use Rattle.lent.specs.Lent.{LentOf}
use Rattle.sound.specs.Sound.{Sound}
use Rattle.granted.specs.Terms.{Roomy}
use Rattle.rooms.proofs.Roomy.{release_roomy}
use Rattle.grown.proofs.Promises.{grown_roomy}
use Rattle.allocate.specs.AllocateWhen.{asks, TooLargeSide, allocate_gives_4, allocate_gives_5, allocate_gives_6}
use Rattle.deallocate.specs.DeallocateWhen.{deallocate_gives_0, deallocate_frees, deallocate_frees_one, deallocate_refused}
use Rattle.grow.specs.GrowWhen.{grow_gives_0, grow_grows, grow_keeps_tickets, grow_refused}
use Rattle.promises.specs.Calls.{Call, Start, Reset, Clear, Allocate, Deallocate, Grow, Index, Listing, IsEmpty, Leaves}
use Rattle.promises.specs.Demand1.{after_of}
use Rattle.promises.specs.Demand3.{no_call_makes_unsound}

-- An answer of allocate other than 4, 5 and 6: there is room.
abbrev pub HasRoom : ℕ → Type 0
HasRoom k = (k ≡ 4 → ⊥) × (k ≡ 5 → ⊥) × (k ≡ 6 → ⊥)

-- A deallocate or a grow.
abbrev pub FreesOrGrows : Call → Type 0
FreesOrGrows (Start z o) = ⊥
FreesOrGrows (Reset z o) = ⊥
FreesOrGrows Clear = ⊥
FreesOrGrows (Allocate z) = ⊥
FreesOrGrows (Deallocate i) = Unit {0}
FreesOrGrows (Grow z) = Unit {0}
FreesOrGrows (Index i) = ⊥
FreesOrGrows (Listing kind out) = ⊥
FreesOrGrows IsEmpty = ⊥

-- Calls of deallocate and grow alone, one after another, whatever each answers.
pub data Easing : State → State → Type 0 where
  Over : {s : State} → Easing s s
  Next : {s t u : State} (c : Call) (k : ℕ) → FreesOrGrows c → Leaves c s k t → Easing t u → Easing s u

-- One state is no worse than another: the options are the same, and where a Free slot took a request, one does.
pub record NoWorse (s u : State) : Type 0 where
  pub options : u.head.options ≡ s.head.options
  pub rooms : (e : Extent) (x : ℕ) → Roomy s e x → (y : ℕ) × Roomy u e y

no_worse_same : {s u : State} → u ≡ s → NoWorse s u
no_worse_same e = rw e (record { options = refl; rooms = λ e x r. (x, r) })

-- A deallocate or a grow leaves no worse.
eases : (c : Call) (s : State) (k : ℕ) (t : State) → FreesOrGrows c → Leaves c s k t → LentOf s → Sound s → NoWorse s t
eases (Start z o) s k t no_call l L S = absurd no_call
eases (Reset z o) s k t no_call l L S = absurd no_call
eases Clear s k t no_call l L S = absurd no_call
eases (Allocate z) s k t no_call l L S = absurd no_call
eases (Deallocate i) s k t _ call L S = by (ℕ_discrete k 0)
  where
    by : Dec (k ≡ 0) → NoWorse s t
    by (yes q) =
        let v = ((deallocate_gives_0 s i call).0 q).2 in
        let e = ap (λ g. g.after) (deallocate_frees s i call q) in
        record { options = (deallocate_frees_one s i call q).same.options; rooms = λ d x r. rw e (release_roomy s L S i v d x r) }
    by (no n) = no_worse_same (after_of (deallocate_refused s i call n)).1
eases (Grow z) s k t _ call L S = by (ℕ_discrete k 0)
  where
    by : Dec (k ≡ 0) → NoWorse s t
    by (yes q) =
        let d = ((grow_gives_0 s z call).0 q).2 in
        let e = ap (λ g. g.after) (grow_grows s z call q) in
        record { options = (grow_keeps_tickets s z call q).options; rooms = λ f x r. (x, rw e (grown_roomy s z L S d f x r)) }
    by (no n) = no_worse_same (after_of (grow_refused s z call n)).1
eases (Index i) s k t no_call l L S = absurd no_call
eases (Listing kind out) s k t no_call l L S = absurd no_call
eases IsEmpty s k t no_call l L S = absurd no_call

-- So does a run of them, and it leaves sound tables.
eased : {s u : State} → Easing s u → LentOf s → Sound s → NoWorse s u × LentOf u × Sound u
eased Over L S = (no_worse_same refl, L, S)
eased (Next c k f l r) L S =
    let a = eases c _ k _ f l L S in
    let (T, M) = no_call_makes_unsound c _ k _ l L S in
    let (b, N, U) = eased r M T in
    (record { options = b.options ∙ a.options; rooms = λ e x z. let (y, q) = a.rooms e x z in b.rooms e y q }, N, U)

-- The same options make the same of a requested size, whatever the sheet.
same_request : (s u : State) (z : Size) → u.head.options ≡ s.head.options → asks u z ≡ asks s z
unfolding request_of setup_of
same_request s u z e = rw e refl

same_limit : (s u : State) (z : Size) → u.head.options ≡ s.head.options → TooLargeSide u z → TooLargeSide s z
unfolding setup_of
same_limit s u z e h = rw e at h

-- FREEING NEVER HURTS.
pub freeing_never_hurts : {s u : State} → LentOf s → Sound s → Easing s u
    → (z : Size) {k m : ℕ} {v w : State} → Leaves (Allocate z) s k v → HasRoom k → Leaves (Allocate z) u m w → HasRoom m
freeing_never_hurts {s} {u} L S r z (_, before) (four, five, six) (_, after) =
    let (b, _, _) = eased r L S in (
      λ q. four ((allocate_gives_4 s z before).1 (L, S, ((allocate_gives_4 u z after).0 q).2)),
      λ q. five ((allocate_gives_5 s z before).1 (L, S, same_limit s u z b.options ((allocate_gives_5 u z after).0 q).2)),
      λ q.
          let (e, asked, none) = ((allocate_gives_6 u z after).0 q).2 in
          six ((allocate_gives_6 s z before).1 (L, S, (e, sym (same_request s u z b.options) ∙ asked, λ x y. let (j, f) = b.rooms e x y in none j f))),
    )
