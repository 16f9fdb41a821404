-- Of a call that checks first: no other outcome meets its contract; when it gives 1 and 2; and that what it does on sound tables, it does there alone.
-- Assumes nothing.
use Rattle.std.specs.Prelude.{◌≡◌, refl, ◌↔◌, eqb}
use Rattle.std.proofs.Common.{ap, sym, ◌∙◌, ⊎_elim, arith, eqb-true, eq-eqb, ne_eqb}
use Prim.Native.Nat.{ℕ}
use Rattle.std.proofs.lemmas.Bool.{eqb-false}
use Rattle.geometry.specs.Choice.{pick_elim}
use Rattle.steps.specs.State.{State}
use Rattle.sound.specs.Sound.{Sound}
use Rattle.lent.specs.Lent.{LentOf}
use Rattle.audit.specs.Audited.{Checked}
use Rattle.audit.proofs.Exact.{check_is_exact}
use Rattle.outcomes.specs.Given.{Given, nothing, given}
use Rattle.audit.specs.Answers.{after_check, Answers}

module _ {A : Type 0} {nothing : A} {s : State} {core : Given A} where
  -- NO OTHER OUTCOME. Two outcomes that meet the contract are the same: answer, what is handed over, head and tables.
  pub answers_once : {o p : Given A} → Answers nothing s core o → Answers nothing s core p → o ≡ p
  answers_once a b = a.is ∙ (ap (after_check nothing s core) (check_is_exact b.checked a.checked).1 ∙ sym b.is)

  -- The three ways that a call can go.
  pub answers_cases : {o : Given A} → Answers nothing s core o → (P : Given A → Type 0)
      → ((LentOf s → ⊥) → P (given 1 nothing s)) → (LentOf s → (Sound s → ⊥) → P (given 2 nothing s)) → (LentOf s → Sound s → P core) → P o
  unfolding after_check
  answers_cases a P one two done =
      rw a.is (⊎_elim {C = Goal a.code} (λ e. let h = a.checked.gives_0.0 e in rw e (done h.0 h.1))
      (⊎_elim {C = Goal a.code} (λ e. rw e (one (a.checked.gives_1.0 e)))
      (λ e. let h = a.checked.gives_2.0 e in rw e (two h.0 h.1))) (check_is_exact a.checked a.checked).0)
    where
      Goal : ℕ → Type 0
      Goal k = P (after_check nothing s core k)

  module _ {o : Given A} (a : Answers nothing s core o) where
    -- 1: a table length is out of range.
    pub answers_1 : (core.answer ≡ 1 → ⊥) → (o.answer ≡ 1) ↔ (LentOf s → ⊥)
    answers_1 f =
        answers_cases a (λ (g : Given A). (g.answer ≡ 1) ↔ (LentOf s → ⊥)) (λ l. (λ _. l, λ _. refl))
        (λ L _. (λ e. absurd (omega arith), λ n. absurd (n L))) (λ L _. (λ e. absurd (f e), λ n. absurd (n L)))

    -- 2: the lengths are in range and the tables are not sound.
    pub answers_2 : (core.answer ≡ 2 → ⊥) → (o.answer ≡ 2) ↔ (LentOf s × (Sound s → ⊥))
    answers_2 f =
        answers_cases a (λ (g : Given A). (g.answer ≡ 2) ↔ (LentOf s × (Sound s → ⊥)))
        (λ l. (λ e. absurd (omega arith), λ h. absurd (l h.0))) (λ L u. (λ _. (L, u), λ _. refl))
        (λ L S. (λ e. absurd (f e), λ h. absurd (h.1 S)))

    -- Another number: the lengths are in range, the tables are sound, and the call on sound tables gives it.
    pub answers_other : (k : ℕ) → (k ≡ 1 → ⊥) → (k ≡ 2 → ⊥) → (o.answer ≡ k) ↔ (LentOf s × Sound s × (core.answer ≡ k))
    answers_other k x y =
        answers_cases a (λ (g : Given A). (g.answer ≡ k) ↔ (LentOf s × Sound s × (core.answer ≡ k)))
        (λ l. (λ e. absurd (x (sym e)), λ h. absurd (l h.0))) (λ L u. (λ e. absurd (y (sym e)), λ h. absurd (u h.1)))
        (λ L S. (λ e. (L, S, e), λ h. h.2))

    -- On sound tables with lengths in range it is what the call does there.
    pub answers_sound : LentOf s → Sound s → o ≡ core
    answers_sound =
        answers_cases a (λ (g : Given A). LentOf s → Sound s → g ≡ core) (λ l L _. absurd (l L)) (λ _ u _ S. absurd (u S)) (λ _ _ _ _. refl)

    -- A refusal hands over nothing and changes nothing, where one on sound tables doesn't.
    pub answers_refused : ((core.answer ≡ 0 → ⊥) → core ≡ given core.answer nothing s) → (o.answer ≡ 0 → ⊥) → o ≡ given o.answer nothing s
    answers_refused f =
        answers_cases a (λ (g : Given A). (g.answer ≡ 0 → ⊥) → g ≡ given g.answer nothing s) (λ _ _. refl) (λ _ _ _. refl) (λ _ _. f)

-- A number given on sound tables exactly when P holds there.
pub on_sound : {s : State} {X Y P : Type 0} → X ↔ (LentOf s × Sound s × Y) → (LentOf s → Sound s → Y ↔ P) → X ↔ (LentOf s × Sound s × P)
on_sound f g = (λ x. let h = f.0 x in (h.0, h.1, (g h.0 h.1).0 h.2), λ h. f.1 (h.0, h.1, (g h.0 h.1).1 h.2))

-- The outcome where the check said no, and where it said 0.
module _ {A : Type 0} {nothing : A} {s : State} {k : ℕ} (c : Checked s k) where
  pub answers_checked : {core : Given A} → (k ≡ 0 → ⊥) → {v : A} → v ≡ nothing → Answers nothing s core (given k v s)
  unfolding after_check
  answers_checked d e = record { code = k; checked = c; is = rw (ne_eqb k 0 d, e) }

  pub answers_core : k ≡ 0 → {a b : ℕ} {v u : A} → a ≡ b → v ≡ u → Answers nothing s (given b u s) (given a v s)
  unfolding after_check
  answers_core z e f = record { code = k; checked = c; is = rw (eq-eqb k 0 z, e, f) }

  pub answers_done : k ≡ 0 → {core o : Given A} → o ≡ core → Answers nothing s core o
  unfolding after_check
  answers_done z e = record { code = k; checked = c; is = rw (eq-eqb k 0 z, e) }

-- Of a call that hands over nothing and that the tables' check lets pass: where it is answered j, it is refused with j, changing nothing, or
-- leaves u for 0. That is how it goes,
module _ {s : State} (u : State) {k j a : ℕ} (c : Checked s k) (z : k ≡ 0) (told : a ≡ j) where
  pub leaves_refused : (a ≡ 0 → ⊥) → Answers nothing s (after_check nothing s (given 0 nothing u) j) (given a nothing s)
  unfolding after_check
  leaves_refused d = answers_done c z (rw (ne_eqb j 0 (rw told at d), told))

  pub leaves_done : a ≡ 0 → {v : State} → v ≡ u → Answers nothing s (after_check nothing s (given 0 nothing u) j) (given 0 nothing v)
  unfolding after_check
  leaves_done e f = answers_done c z (rw (eq-eqb j 0 (sym told ∙ e), f))

-- and what is known of it.
module _ (s u : State) (j : ℕ) where
  by_answer : (P : Given (Unit {0}) → Type 0) → (j ≡ 0 → P (given 0 nothing u)) → ((j ≡ 0 → ⊥) → P (given j nothing s)) → P (after_check nothing s (given 0 nothing u) j)
  unfolding after_check
  by_answer P done refused = pick_elim P (eqb j 0) _ _ (λ e. done (eqb-true j 0 e)) (λ e. refused (eqb-false j 0 e))

  -- The number is its answer,
  pub own_answer : (after_check nothing s (given 0 nothing u) j).answer ≡ j
  own_answer = by_answer (λ (g : Given (Unit {0})). g.answer ≡ j) (λ e. sym e) (λ _. refl)

  module _ {o : Given (Unit {0})} (a : Answers nothing s (after_check nothing s (given 0 nothing u) j) o) where
    -- where the lengths are in range and the tables sound.
    pub answers_told : (i : ℕ) → (i ≡ 1 → ⊥) → (i ≡ 2 → ⊥) → (o.answer ≡ i) ↔ (LentOf s × Sound s × (j ≡ i))
    answers_told i x y = rw own_answer at (answers_other a i x y)

    -- A refusal changes nothing: head and every table stay as they were.
    pub refused_changes_nothing : (o.answer ≡ 0 → ⊥) → o ≡ given o.answer nothing s
    refused_changes_nothing =
        answers_refused a (by_answer (λ (g : Given (Unit {0})). (g.answer ≡ 0 → ⊥) → g ≡ given g.answer nothing s) (λ _ d. absurd (d refl)) (λ _ _. refl))

    -- On 0 it leaves u.
    pub done_leaves : o.answer ≡ 0 → o ≡ given 0 nothing u
    done_leaves z =
        let h = (answers_other a 0 (λ e. omega arith) (λ e. omega arith)).0 z in
        answers_sound a h.0 h.1 ∙ by_answer (λ (g : Given (Unit {0})). g.answer ≡ 0 → g ≡ given 0 nothing u) (λ _ _. refl) (λ d e. absurd (d e)) h.2

    -- Sound tables stay sound, and lengths in range, where u has them so.
    pub stays_sound : (j ≡ 0 → Sound u × LentOf u) → LentOf s → Sound s → Sound o.after × LentOf o.after
    stays_sound f L S = rw (answers_sound a L S) (by_answer (λ (g : Given (Unit {0})). Sound g.after × LentOf g.after) f (λ _. (S, L)))
