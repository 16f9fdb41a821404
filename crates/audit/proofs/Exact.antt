-- THE CHECK IS EXACT. The audit says 0 exactly where the tables are sound, and has only one verdict on any tables; the check answers 0, 1 or 2
-- exactly when its contract says, and has only one answer.
-- Assumes nothing.
use Rattle.std.specs.Prelude.{◌≡◌, refl, false, ◌↔◌, ◌⊎◌, ℕ, eqb}
use Rattle.std.proofs.Common.{ap, sym, ◌∙◌, true≢false, inl, inr, arith}
use Rattle.geometry.specs.Choice.{pick}
use Rattle.geometry.specs.TestLaws.{same_or_not}
use Rattle.steps.specs.State.{State}
use Rattle.sound.specs.Sound.{Counted, Listed, Sound}
use Rattle.links.specs.Links.{links_at, merged_at}
use Rattle.lent.specs.Lent.{lent, LentOf}
use Rattle.lent.specs.LentLaws.{yes_lent}
use Rattle.scans.specs.Tests.{filled_at, not_last_at}
use Rattle.audit.specs.Audited.{Rule2, Rule3, Rule4, Rule5, Rule7, entry_place, has_entry, Audited, sound, rule1, rule2, rule3, rule4, rule5, rule6, rule7, Checked}
use Rattle.judged.specs.Verdicts.{lowest_bad}
use Rattle.walked.specs.Trees.{firsts_of}

-- Rule i fails and the verdict is i, or it holds and the verdict is as the rules after it say.
data Step (P : Type 0) (i r : ℕ) (A : Type 0) : Type 0 where
  fails : (P → ⊥) → r ≡ i → Step P i r A
  holds : P → A → Step P i r A

step_once : {P A B : Type 0} {i r q : ℕ} → Step P i r A → Step P i q B → (A → B → r ≡ q) → r ≡ q
step_once (fails f e) (fails g d) h = e ∙ sym d
step_once (fails f e) (holds p b) h = absurd (f p)
step_once (holds p a) (fails g d) h = absurd (g p)
step_once (holds p a) (holds q b) h = h a b

abbrev Steps : State → ℕ → Type 0
Steps s r = Step (Counted s) 1 r (Step (Rule2 s) 2 r (Step (Rule3 s) 3 r (Step (Rule4 s) 4 r (Step (Rule5 s) 5 r (Step (Listed s) 6 r (Step (Rule7 s) 7 r (r ≡ 0)))))))

steps : {s : State} {r k : ℕ} → Audited s r k → Steps s r
steps (sound S) =
    holds S.rule1 (holds S.rule2 (holds S.rule3 (holds S.rule4 (holds S.rule5 (holds S.rule6 (holds S.rule7 refl))))))
steps (rule1 f) = fails f refl
steps (rule2 a f) = holds a (fails f refl)
steps (rule3 a b f) = holds a (holds b (fails f refl))
steps (rule4 a b c f) = holds a (holds b (holds c (fails f refl)))
steps (rule5 a b c d f) = holds a (holds b (holds c (holds d (fails f refl))))
steps (rule6 a b c d e f) = holds a (holds b (holds c (holds d (holds e (fails f refl)))))
steps (rule7 a b c d e g f) = holds a (holds b (holds c (holds d (holds e (holds g (fails f refl))))))

-- The place is the rule's.
abbrev place_of : State → ℕ → ℕ
place_of s r =
    pick (eqb r 1) (entry_place s)
    (pick (eqb r 3) (lowest_bad (links_at s.words (firsts_of s.words s.head.count) s.head.count s.head.root.0) s.head.count)
    (pick (eqb r 4) (lowest_bad (merged_at s.words s.head.count) s.head.count)
    (pick (eqb r 5) (lowest_bad (filled_at s.words) s.head.count)
    (pick (eqb r 6) (lowest_bad (has_entry s) s.head.count) (pick (eqb r 7) (lowest_bad (not_last_at s.words s.head.count) s.head.count) 0)))))

place : {s : State} {r k : ℕ} → Audited s r k → k ≡ place_of s r
place (sound S) = refl
place (rule1 f) = refl
place (rule2 a f) = refl
place (rule3 a b f) = refl
place (rule4 a b c f) = refl
place (rule5 a b c d f) = refl
place (rule6 a b c d e f) = refl
place (rule7 a b c d e g f) = refl

-- The audit has only one verdict: the rule and the place.
pub audited_once : {s : State} {r k q j : ℕ} → Audited s r k → Audited s q j → (r ≡ q) × (k ≡ j)
audited_once {s} {r} {k} {q} {j} a b = (same, place a ∙ (ap (place_of s) same ∙ sym (place b)))
  where
    same : r ≡ q
    same =
        step_once (steps a) (steps b)
        (λ a b. step_once a b (λ a b. step_once a b (λ a b. step_once a b (λ a b. step_once a b (λ a b. step_once a b (λ a b. step_once a b (λ a b. a ∙ sym b)))))))

zero_sound : {s : State} {r k : ℕ} → Audited s r k → r ≡ 0 → Sound s
zero_sound (sound S) e = S
zero_sound (rule1 f) e = absurd (omega arith)
zero_sound (rule2 a f) e = absurd (omega arith)
zero_sound (rule3 a b f) e = absurd (omega arith)
zero_sound (rule4 a b c f) e = absurd (omega arith)
zero_sound (rule5 a b c d f) e = absurd (omega arith)
zero_sound (rule6 a b c d e f) h = absurd (omega arith)
zero_sound (rule7 a b c d e g f) h = absurd (omega arith)

-- It says 0 exactly where the tables are sound.
pub audited_exact : {s : State} {r k : ℕ} → Audited s r k → (r ≡ 0) ↔ Sound s
audited_exact a = (zero_sound a, λ S. (audited_once a (sound S)).0)

-- The check's three answers.
pub checked_1 : (s : State) → lent s ≡ false → Checked s 1
checked_1 s e =
    record {
      gives_1 = (λ _. no_lent, λ _. refl);
      gives_2 = (λ h. absurd (omega arith), λ h. absurd (no_lent h.0));
      gives_0 = (λ h. absurd (omega arith), λ h. absurd (no_lent h.0));
    }
  where
    no_lent : LentOf s → ⊥
    no_lent L = true≢false (sym (yes_lent _ _ _ _ _ L) ∙ e)

module _ (s : State) (L : LentOf s) {r k : ℕ} (a : Audited s r k) where
  pub checked_2 : (r ≡ 0 → ⊥) → Checked s 2
  checked_2 f =
      record {
        gives_1 = (λ h. absurd (omega arith), λ h. absurd (h L));
        gives_2 = (λ _. (L, λ S. f ((audited_exact a).1 S)), λ _. refl);
        gives_0 = (λ h. absurd (omega arith), λ h. absurd (f ((audited_exact a).1 h.1)));
      }

  pub checked_0 : r ≡ 0 → Checked s 0
  checked_0 e =
      record {
        gives_1 = (λ h. absurd (omega arith), λ h. absurd (h L));
        gives_2 = (λ h. absurd (omega arith), λ h. absurd (h.1 ((audited_exact a).0 e)));
        gives_0 = (λ _. (L, (audited_exact a).0 e), λ _. refl);
      }

-- The check is exact: what it answers is 0, 1 or 2, each just when the paper says, and no other answer meets its contract.
pub check_is_exact : {s : State} {r q : ℕ} → Checked s r → Checked s q → ((r ≡ 0) ⊎ ((r ≡ 1) ⊎ (r ≡ 2))) × (q ≡ r)
check_is_exact {s} {r} {q} c d = go (same_or_not r 0) (same_or_not r 1) (same_or_not r 2)
  where
    Goal : Type 0
    Goal = ((r ≡ 0) ⊎ ((r ≡ 1) ⊎ (r ≡ 2))) × (q ≡ r)

    go : (r ≡ 0) ⊎ (r ≡ 0 → ⊥) → (r ≡ 1) ⊎ (r ≡ 1 → ⊥) → (r ≡ 2) ⊎ (r ≡ 2 → ⊥) → Goal
    go (inl e) y z = (inl e, d.gives_0.1 (c.gives_0.0 e) ∙ sym e)
    go (inr x) (inl e) z = (inr (inl e), d.gives_1.1 (c.gives_1.0 e) ∙ sym e)
    go (inr x) (inr y) (inl e) = (inr (inr e), d.gives_2.1 (c.gives_2.0 e) ∙ sym e)
    go (inr x) (inr y) (inr z) = absurd (y (c.gives_1.1 (λ L. z (c.gives_2.1 (L, λ S. x (c.gives_0.1 (L, S)))))))
