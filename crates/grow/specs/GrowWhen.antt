-- WHEN GROW ANSWERS WHAT, and what holds after it: of any outcome o that its contract allows.
-- Assumes nothing.
use Rattle.std.specs.Prelude.{◌≡◌, refl, true, false, ◌↔◌, ◌⊎◌, ℕ, ◌<◌, ℤ, pos, negsuc}
use Rattle.std.proofs.Common.{sym, ◌∙◌, true≢false, inl, inr, ⊎_elim, arith, leb-false}
use Rattle.std.specs.Int.Signed.{le_z}
use Rattle.std.proofs.lemmas.Bool.{lt-leb}
use Rattle.geometry.specs.Sides.{natural, valid_setup}
use Rattle.geometry.specs.SideLaws.{sheet_side_lem}
use Rattle.geometry.specs.TestLaws.{and_true_each}
use Rattle.geometry.specs.declared.Size.{Size}
use Rattle.steps.specs.State.{State}
use Rattle.sound.specs.Sound.{Sound}
use Rattle.lent.specs.Lent.{LentOf}
use Rattle.cover.specs.Sums.{LeafAt, rect_at, InRect}
use Rattle.outcomes.specs.Given.{Given, nothing, given}
use Rattle.audit.proofs.AnswerLaws.{answers_once, answers_1, answers_2, own_answer, answers_told, on_sound, refused_changes_nothing, done_leaves, stays_sound}
use Rattle.granted.specs.Terms.{spare_at}
use Rattle.grows.specs.Grows.{grown, grow_slots}
use Rattle.grows.specs.Refusals.{grow_answer}
use Rattle.grown.proofs.Promises.{grown_keeps_sound, grown_keeps_tickets, grown_covers_once}
use Rattle.grown.specs.Terms.{GrowDue, Grows}
use Rattle.grow.specs.Grow.{grown_to, GrowCall, Smaller}
use Rattle.grow.specs.GrowLaws.{grow_cases, due_large, answered_due}

-- No other outcome meets the contract.
pub grow_once : (s : State) (new : Size) {o p : Given (Unit {0})} → GrowCall s new o → GrowCall s new p → o ≡ p
grow_once s new = answers_once

-- Beside a side above 0, another is smaller as it is counted exactly where it is as it arrived.
less_as_given : (a b : ℤ) → 0 < natural a → (natural b < natural a) ↔ (le_z a b ≡ false)
unfolding natural
less_as_given (pos n) (pos m) h = (lt-leb n m, leb-false n m)
less_as_given (pos n) (negsuc m) h = (λ _. refl, λ _. h)
less_as_given (negsuc n) b h = absurd (omega arith)

-- So on sound tables either side is smaller than now exactly where it is as it arrived.
abbrev pub SmallerAsGiven : State → Size → Type 0
SmallerAsGiven s new = (le_z s.head.sheet.width new.width ≡ false) ⊎ (le_z s.head.sheet.height new.height ≡ false)

pub smaller_as_given : (s : State) (new : Size) → Sound s → Smaller s new ↔ SmallerAsGiven s new
unfolding valid_setup
smaller_as_given s new S =
    let a = and_true_each _ _ S.rule1.valid in
    let b = and_true_each _ _ a.1 in
    let w = less_as_given s.head.sheet.width new.width ((sheet_side_lem _).0 a.0).0 in
    let t = less_as_given s.head.sheet.height new.height ((sheet_side_lem _).0 b.0).0 in (
      λ h. ⊎_elim {C = SmallerAsGiven s new} (λ q. inl (w.0 q)) (λ q. inr (t.0 q)) h,
      λ h. ⊎_elim {C = Smaller s new} (λ q. inl (w.1 q)) (λ q. inr (t.1 q)) h,
    )

module _ (s : State) (new : Size) where
  -- A grow is answered 11, 3, 7 or 0.
  told_of : (k : ℕ) → (k ≡ 11 → ⊥) → (k ≡ 3 → ⊥) → (k ≡ 7 → ⊥) → (k ≡ 0 → ⊥) → (grown_to s new).answer ≡ k → ⊥
  told_of k a b c d =
      rw (own_answer s (grown s new) (grow_answer s new))
      (grow_cases s new (λ j. j ≡ k → ⊥) (λ _ e. a (sym e)) (λ _ _ e. b (sym e)) (λ _ _ _ e. c (sym e)) (λ _ e. d (sym e)))

  module _ {o : Given (Unit {0})} (call : GrowCall s new o) where
    when : (k : ℕ) → (k ≡ 1 → ⊥) → (k ≡ 2 → ⊥) → {P : Type 0} → (grow_answer s new ≡ k) ↔ P → (o.answer ≡ k) ↔ (LentOf s × Sound s × P)
    when k a b f = on_sound (answers_told s (grown s new) (grow_answer s new) call k a b) (λ _ _. f)

    -- 1: a table length is outside its range.
    pub grow_gives_1 : (o.answer ≡ 1) ↔ (LentOf s → ⊥)
    grow_gives_1 = answers_1 call (told_of 1 (λ e. omega arith) (λ e. omega arith) (λ e. omega arith) (λ e. omega arith))

    -- 2: the lengths are in range and the tables are not sound.
    pub grow_gives_2 : (o.answer ≡ 2) ↔ (LentOf s × (Sound s → ⊥))
    grow_gives_2 = answers_2 call (told_of 2 (λ e. omega arith) (λ e. omega arith) (λ e. omega arith) (λ e. omega arith))

    -- 11: the tables are sound, of lengths in range, and either side is smaller than now.
    pub grow_gives_11 : (o.answer ≡ 11) ↔ (LentOf s × Sound s × Smaller s new)
    grow_gives_11 =
        when 11 (λ e. omega arith) (λ e. omega arith)
        (grow_cases s new (λ k. (k ≡ 11) ↔ Smaller s new) (λ h. (λ _. h, λ _. refl)) (λ n _. (λ e. absurd (omega arith), λ h. absurd (n h)))
        (λ n _ _. (λ e. absurd (omega arith), λ h. absurd (n h))) (λ d. (λ e. absurd (omega arith), λ h. absurd (due_large s new d h))))

    -- 3: no side is smaller, and the setup with the new size is not valid.
    pub grow_gives_3 : (o.answer ≡ 3) ↔ (LentOf s × Sound s × ((Smaller s new → ⊥) × (valid_setup new s.head.options ≡ false)))
    grow_gives_3 =
        when 3 (λ e. omega arith) (λ e. omega arith)
        (grow_cases s new (λ k. (k ≡ 3) ↔ ((Smaller s new → ⊥) × (valid_setup new s.head.options ≡ false))) (λ h. (λ e. absurd (omega arith), λ z. absurd (z.0 h)))
        (λ n v. (λ _. (n, v), λ _. refl)) (λ n v _. (λ e. absurd (omega arith), λ z. absurd (true≢false (sym v ∙ z.1))))
        (λ d. (λ e. absurd (omega arith), λ z. absurd (true≢false (sym d.valid ∙ z.1)))))

    -- 7: no side is smaller, the setup with the new size is valid, and fewer slots are spare than the grow needs.
    pub grow_gives_7 : (o.answer ≡ 7) ↔ (LentOf s × Sound s × ((Smaller s new → ⊥) × (valid_setup new s.head.options ≡ true) × (spare_at s < grow_slots s new)))
    grow_gives_7 =
        when 7 (λ e. omega arith) (λ e. omega arith)
        (grow_cases s new (λ k. (k ≡ 7) ↔ ((Smaller s new → ⊥) × (valid_setup new s.head.options ≡ true) × (spare_at s < grow_slots s new)))
        (λ h. (λ e. absurd (omega arith), λ z. absurd (z.0 h))) (λ n v. (λ e. absurd (omega arith), λ z. absurd (true≢false (sym z.1 ∙ v))))
        (λ n v f. (λ _. (n, v, f), λ _. refl)) (λ d. (λ e. absurd (omega arith), λ z. absurd (omega (arith, d.enough, z.2)))))

    -- 0: no side is smaller, the setup with the new size is valid, and enough slots are spare.
    pub grow_gives_0 : (o.answer ≡ 0) ↔ (LentOf s × Sound s × GrowDue s new)
    grow_gives_0 =
        when 0 (λ e. omega arith) (λ e. omega arith)
        (grow_cases s new (λ k. (k ≡ 0) ↔ GrowDue s new) (λ h. (λ e. absurd (omega arith), λ d. absurd (due_large s new d h)))
        (λ n v. (λ e. absurd (omega arith), λ d. absurd (true≢false (sym d.valid ∙ v)))) (λ n v f. (λ e. absurd (omega arith), λ d. absurd (omega (arith, d.enough))))
        (λ d. (λ _. d, λ _. refl)))

    -- A refusal changes nothing: head and every table stay as they were.
    pub grow_refused : (o.answer ≡ 0 → ⊥) → o ≡ given o.answer nothing s
    grow_refused = refused_changes_nothing s (grown s new) (grow_answer s new) call

    -- On 0 the sheet grows as the model says.
    pub grow_grows : o.answer ≡ 0 → o ≡ given 0 nothing (grown s new)
    grow_grows = done_leaves s (grown s new) (grow_answer s new) call

    -- SOUND tables stay sound, and lengths in range, on every answer.
    pub grow_keeps_sound : LentOf s → Sound s → Sound o.after × LentOf o.after
    grow_keeps_sound L S = stays_sound s (grown s new) (grow_answer s new) call (λ e. grown_keeps_sound s new L S (answered_due s new e)) L S

    -- TICKETS. On 0 the sheet has the new size and the options stay; every live ticket stays live with its rectangle, and none becomes live;
    -- every live slot keeps its generation, and as many fewer slots are spare as were asked for.
    pub grow_keeps_tickets : o.answer ≡ 0 → Grows s new o.after
    grow_keeps_tickets z = let h = grow_gives_0.0 z in rw (grow_grows z) (grown_keeps_tickets s new h.0 h.1 h.2)

    -- COVERED ONCE. On 0 each point of the new sheet lies in the rectangle of an Alloc or Free slot, and of no other one.
    pub grow_covers_once : o.answer ≡ 0 → (x y : ℕ) → x < natural new.width → y < natural new.height
        → (i : ℕ) × LeafAt o.after i × InRect x y (rect_at o.after i) × ((j : ℕ) → LeafAt o.after j → InRect x y (rect_at o.after j) → j ≡ i)
    grow_covers_once z = let h = grow_gives_0.0 z in rw (grow_grows z) (grown_covers_once s new h.0 h.1 h.2)
