-- WHEN ALLOCATE ANSWERS WHAT, and what holds after it: of any outcome o that its contract allows.
-- Assumes nothing.
use Rattle.std.specs.Prelude.{◌≡◌, refl, ◌↔◌, ◌⊎◌, Result, Ok, Err, ℕ, ◌<◌}
use Rattle.std.proofs.Common.{sym, ap, ◌∙◌, inl, inr, arith}
use Rattle.geometry.specs.Sides.{setup_of}
use Rattle.geometry.specs.declared.Extent.{Extent}
use Rattle.geometry.specs.declared.Size.{Size}
use Rattle.rounding.specs.Rounding.{request_of}
use Rattle.rounding.specs.RequestLaws.{wide, tall, wide_up, tall_up, Outcome, not_positive, too_large, accepted}
use Rattle.rounding.proofs.RequestLaws.{request_outcome, request_not_positive, request_too_large, request_sides}
use Rattle.refusals.specs.declared.Refusal.{Refusal}
use Rattle.refusals.specs.declared.Refusal.TheVariants.{NotPositive, TooLarge}
use Rattle.slots.specs.declared.AllocIndex.{AllocIndex}
use Rattle.steps.specs.State.{State}
use Rattle.sound.specs.Sound.{Sound}
use Rattle.lent.specs.Lent.{LentOf}
use Rattle.outcomes.specs.Given.{Given, given}
use Rattle.audit.proofs.AnswerLaws.{answers_once, answers_cases, answers_1, answers_2, answers_other, on_sound}
use Rattle.grants.specs.Grants.{Grant, grant, refused, taken, granted}
use Rattle.granted.proofs.Cases.{grant_cases}
use Rattle.granted.specs.Terms.{Roomy, Chooses, TooFew, Enough, Refuses, GivesOut}
use Rattle.granted.proofs.Promises.{grant_keeps_sound, grant_gives_6, grant_gives_7, grant_gives_0, refusal_changes_lists_alone, grant_gives_out}
use Rattle.allocate.specs.Allocate.{Crop, no_crop, allocated_for, allocated, leaves, AllocateCall}

-- The request that allocate takes: a requested size with both sides above 0, rounded up.
abbrev pub asks : State → Size → Result Extent Refusal
asks s size = request_of (setup_of s.head.sheet s.head.options) size

-- A requested side is 0 or less; neither is, and a side rounded up exceeds 2,147,483,647.
abbrev pub NotPositiveSide : Size → Type 0
NotPositiveSide size = (wide size ≡ 0) ⊎ (tall size ≡ 0)

abbrev pub TooLargeSide : State → Size → Type 0
TooLargeSide s size =
    let t = setup_of s.head.sheet s.head.options in
    (0 < wide size) × (0 < tall size) × ((2147483647 < wide_up t size) ⊎ (2147483647 < tall_up t size))

-- An outcome, as the model of the call on sound tables has it.
abbrev pub as_grant : Given Crop → Grant
as_grant o = grant o.answer o.value.ticket o.value.rect o.after

-- No other outcome meets the contract.
pub allocate_once : (size : Size) (s : State) {o p : Given Crop} → AllocateCall size s o → AllocateCall size s p → o ≡ p
allocate_once size s = answers_once

-- What holds of the two refusals of a request and of a request that is taken, holds on sound tables.
on_request : (s : State) (size : Size) (P : Grant → Type 0) → (asks s size ≡ Err NotPositive → P (refused 4 s)) → (asks s size ≡ Err TooLarge → P (refused 5 s))
    → ((e : Extent) → asks s size ≡ Ok e → P (granted s e)) → P (allocated s size)
unfolding allocated allocated_for
on_request s size P four five rest = go (request_outcome (setup_of s.head.sheet s.head.options) size) refl
  where
    go : {r : Result Extent Refusal} → Outcome (setup_of s.head.sheet s.head.options) size r → asks s size ≡ r → P (allocated_for s r)
    go (not_positive h) q = four q
    go (too_large x y h) q = five q
    go (accepted x y h k) q = rest _ q

-- A request that is taken gets 0, 6 or 7.
taken_answers : (s : State) (e : Extent) (k : ℕ) → (k ≡ 0 → ⊥) → (k ≡ 6 → ⊥) → (k ≡ 7 → ⊥) → (granted s e).answer ≡ k → ⊥
unfolding taken
taken_answers s e k zero six seven =
    grant_cases s e (λ g. g.answer ≡ k → ⊥) (λ c q. six (sym q)) (λ i b j c n q. seven (sym q)) (λ i b j c n q. zero (sym q))

-- Two requests that were told apart.
same_extent : {d e : Extent} → ◌≡◌ {A = Result Extent Refusal} (Ok d) (Ok e) → d ≡ e
same_extent q = cc

-- A request that is refused is not taken, and is refused in one way.
not_taken : {r : Result Extent Refusal} {e : Extent} → (r ≡ Err NotPositive) ⊎ (r ≡ Err TooLarge) → r ≡ Ok e → ⊥
not_taken (inl p) q = let z : ◌≡◌ {A = ℕ} 0 1 = cc in omega arith
not_taken (inr p) q = let z : ◌≡◌ {A = ℕ} 0 1 = cc in omega arith

one_refusal : {r : Result Extent Refusal} → r ≡ Err NotPositive → r ≡ Err TooLarge → ⊥
one_refusal p q = let z : ◌≡◌ {A = ℕ} 0 1 = cc in omega arith

-- Neither 6 nor 7, and not 0.
no_six : {k : ℕ} → (k ≡ 6) ⊎ (k ≡ 7) → (k ≡ 6 → ⊥) → (k ≡ 7 → ⊥) → ⊥
no_six (inl e) a b = a e
no_six (inr e) a b = b e

not_zero : {k : ℕ} → (k ≡ 6) ⊎ (k ≡ 7) → k ≡ 0 → ⊥
not_zero (inl e) z = omega arith
not_zero (inr e) z = omega arith

module _ (s : State) (size : Size) where
  -- The request is taken as e, and P holds of e.
  abbrev pub Taken : (Extent → Type 0) → Type 0
  Taken P = (e : Extent) × (asks s size ≡ Ok e) × P e

  -- What a taken request gives, where P says when.
  by_request : (k : ℕ) (P : Extent → Type 0) → (k ≡ 4 → ⊥) → (k ≡ 5 → ⊥) → ((e : Extent) → asks s size ≡ Ok e → ((granted s e).answer ≡ k) ↔ P e)
      → ((allocated s size).answer ≡ k) ↔ Taken P
  by_request k P four five rest =
      on_request s size (λ g. (g.answer ≡ k) ↔ Taken P) (λ q. (λ z. absurd (four (sym z)), λ t. absurd (not_taken (inl q) t.1)))
      (λ q. (λ z. absurd (five (sym z)), λ t. absurd (not_taken (inr q) t.1)))
      (λ e q. (λ z. (e, q, (rest e q).0 z), λ t. (rest e q).1 (rw (same_extent (sym t.1 ∙ q)) at t.2)))

  module _ {o : Given Crop} (call : AllocateCall size s o) where
    -- 1: a table length is outside its range.
    pub allocate_gives_1 : (o.answer ≡ 1) ↔ (LentOf s → ⊥)
    allocate_gives_1 =
        answers_1 call
        (on_request s size (λ g. g.answer ≡ 1 → ⊥) (λ _ z. omega arith) (λ _ z. omega arith)
        (λ e _. taken_answers s e 1 (λ z. omega arith) (λ z. omega arith) (λ z. omega arith)))

    -- 2: the lengths are in range and the tables are not sound.
    pub allocate_gives_2 : (o.answer ≡ 2) ↔ (LentOf s × (Sound s → ⊥))
    allocate_gives_2 =
        answers_2 call
        (on_request s size (λ g. g.answer ≡ 2 → ⊥) (λ _ z. omega arith) (λ _ z. omega arith)
        (λ e _. taken_answers s e 2 (λ z. omega arith) (λ z. omega arith) (λ z. omega arith)))

    -- 4: on sound tables, a requested side is 0 or less.
    pub allocate_gives_4 : (o.answer ≡ 4) ↔ (LentOf s × Sound s × NotPositiveSide size)
    allocate_gives_4 =
        on_sound (answers_other call 4 (λ z. omega arith) (λ z. omega arith)) (λ L S.
        let w = request_not_positive (setup_of s.head.sheet s.head.options) size in
        on_request s size (λ g. (g.answer ≡ 4) ↔ NotPositiveSide size) (λ q. (λ _. w.0 q, λ _. refl))
        (λ q. (λ z. absurd (omega arith), λ h. absurd (one_refusal (w.1 h) q)))
        (λ e q. (λ z. absurd (taken_answers s e 4 (λ z. omega arith) (λ z. omega arith) (λ z. omega arith) z), λ h. absurd (not_taken (inl (w.1 h)) q))))

    -- 5: on sound tables, both sides are above 0 and one rounded up exceeds 2,147,483,647.
    pub allocate_gives_5 : (o.answer ≡ 5) ↔ (LentOf s × Sound s × TooLargeSide s size)
    allocate_gives_5 =
        on_sound (answers_other call 5 (λ z. omega arith) (λ z. omega arith)) (λ L S.
        let w = request_too_large (setup_of s.head.sheet s.head.options) size in
        on_request s size (λ g. (g.answer ≡ 5) ↔ TooLargeSide s size) (λ q. (λ z. absurd (omega arith), λ h. absurd (one_refusal q (w.1 h))))
        (λ q. (λ _. w.0 q, λ _. refl))
        (λ e q. (λ z. absurd (taken_answers s e 5 (λ z. omega arith) (λ z. omega arith) (λ z. omega arith) z), λ h. absurd (not_taken (inr (w.1 h)) q))))

    -- The sides of a request that is taken are above 0.
    above : (e : Extent) → asks s size ≡ Ok e → (0 < e.width) × (0 < e.height)
    above e q = let h = request_sides (setup_of s.head.sheet s.head.options) size q in (h.0, h.2)

    -- 6: past 4 and 5, no Free rectangle is as wide and as tall as the rounded request.
    pub allocate_gives_6 : (o.answer ≡ 6) ↔ (LentOf s × Sound s × Taken (λ e. (x : ℕ) → Roomy s e x → ⊥))
    allocate_gives_6 =
        on_sound (answers_other call 6 (λ z. omega arith) (λ z. omega arith)) (λ L S.
        by_request 6 (λ e. (x : ℕ) → Roomy s e x → ⊥) (λ z. omega arith) (λ z. omega arith)
        (λ e q. let h = above e q in grant_gives_6 s e L S h.0 h.1))

    -- 7: past 4 and 5, a slot is chosen and fewer slots are spare than its cut needs.
    pub allocate_gives_7 : (o.answer ≡ 7) ↔ (LentOf s × Sound s × Taken (λ e. (i : AllocIndex) × Chooses s e i × TooFew s e i))
    allocate_gives_7 =
        on_sound (answers_other call 7 (λ z. omega arith) (λ z. omega arith)) (λ L S.
        by_request 7 (λ e. (i : AllocIndex) × Chooses s e i × TooFew s e i) (λ z. omega arith) (λ z. omega arith)
        (λ e q. let h = above e q in grant_gives_7 s e L S h.0 h.1))

    -- 0: past 4 and 5, a slot is chosen and enough slots are spare.
    pub allocate_gives_0 : (o.answer ≡ 0) ↔ (LentOf s × Sound s × Taken (λ e. (i : AllocIndex) × Chooses s e i × Enough s e i))
    allocate_gives_0 =
        on_sound (answers_other call 0 (λ z. omega arith) (λ z. omega arith)) (λ L S.
        by_request 0 (λ e. (i : AllocIndex) × Chooses s e i × Enough s e i) (λ z. omega arith) (λ z. omega arith)
        (λ e q. let h = above e q in grant_gives_0 s e L S h.0 h.1))

    -- SOUND tables stay sound, and lengths in range, on every answer.
    pub allocate_keeps_sound : LentOf s → Sound s → Sound o.after × LentOf o.after
    allocate_keeps_sound =
        answers_cases call (λ g. LentOf s → Sound s → Sound g.after × LentOf g.after) (λ n L _. absurd (n L)) (λ L n _ S. absurd (n S))
        (λ _ _ L S. on_request s size (λ g. Sound g.after × LentOf g.after) (λ _. (S, L)) (λ _. (S, L))
        (λ e q. let h = above e q in grant_keeps_sound s e L S h.0 h.1))

    -- 1, 2, 4 and 5 hand over nothing and change nothing.
    pub allocate_refusal_changes_nothing : (o.answer ≡ 0 → ⊥) → (o.answer ≡ 6 → ⊥) → (o.answer ≡ 7 → ⊥) → o ≡ given o.answer no_crop s
    allocate_refusal_changes_nothing =
        answers_cases call (λ g. (g.answer ≡ 0 → ⊥) → (g.answer ≡ 6 → ⊥) → (g.answer ≡ 7 → ⊥) → g ≡ given g.answer no_crop s) (λ _ _ _ _. refl)
        (λ _ _ _ _ _. refl)
        (λ _ _. on_request s size (λ g. (g.answer ≡ 0 → ⊥) → (g.answer ≡ 6 → ⊥) → (g.answer ≡ 7 → ⊥) → leaves g ≡ given g.answer no_crop s)
        (λ _ _ _ _. refl) (λ _ _ _ _. refl)
        (λ e q a b c. absurd (taken_answers s e (granted s e).answer a b c refl)))

    -- 6 and 7 hand over nothing, and leave all as it was but for the lists, which are as the search left them.
    pub allocate_refusal_changes_lists_alone : (o.answer ≡ 6) ⊎ (o.answer ≡ 7) → Taken (λ e. Refuses s e (as_grant o))
    allocate_refusal_changes_lists_alone =
        answers_cases call (λ g. (g.answer ≡ 6) ⊎ (g.answer ≡ 7) → Taken (λ e. Refuses s e (as_grant g))) (λ _ h. absurd (no_six h (λ z. omega arith) (λ z. omega arith))) (λ _ _ h. absurd (no_six h (λ z. omega arith) (λ z. omega arith)))
        (λ L S. on_request s size (λ g. (g.answer ≡ 6) ⊎ (g.answer ≡ 7) → Taken (λ e. Refuses s e g)) (λ _ h. absurd (no_six h (λ z. omega arith) (λ z. omega arith))) (λ _ h. absurd (no_six h (λ z. omega arith) (λ z. omega arith)))
        (λ e q h. let z = above e q in (e, q, refusal_changes_lists_alone s e L S z.0 z.1 (not_zero h))))

    -- 0 gives out a ticket for a rectangle of the rounded size, inside a Free one and apart from every Alloc one; every other live ticket
    -- keeps its rectangle, and no other becomes live.
    pub allocate_gives_out : o.answer ≡ 0 → Taken (λ e. GivesOut s e (as_grant o))
    allocate_gives_out =
        answers_cases call (λ g. g.answer ≡ 0 → Taken (λ e. GivesOut s e (as_grant g))) (λ _ h. absurd (omega arith)) (λ _ _ h. absurd (omega arith))
        (λ L S. on_request s size (λ g. g.answer ≡ 0 → Taken (λ e. GivesOut s e g)) (λ _ h. absurd (omega arith)) (λ _ h. absurd (omega arith))
        (λ e q h. let z = above e q in (e, q, grant_gives_out s e L S z.0 z.1 h)))
