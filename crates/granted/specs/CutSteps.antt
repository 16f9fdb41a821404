-- The cut of a Free slot, shape by shape: the writes, one after another, make the steps of which the rules are known.
-- Assumes nothing.
use Rattle.std.specs.Prelude.{ℕ, ◌≡◌, refl, [], ◌∷◌}
use Rattle.std.proofs.Common.{sym, ◌∙◌, inl, inr}
use Rattle.geometry.specs.Rectangles.{flip}
use Rattle.geometry.specs.declared.Rectangle.{Rectangle}
use Rattle.slots.specs.declared.NodeKind.TheVariants.{Container, Alloc}
use Rattle.sound.specs.View.{to, Seen}
use Rattle.forest.specs.Flips.{flip_flip}
use Rattle.forest.specs.Pigeon.{In, Distinct}
use Rattle.changes.specs.Joins.{Parts}
use Rattle.changes.specs.Merges.{Rekind}
use Rattle.changes.specs.Grants.{Along, AlongLeft, Across, AcrossLeft}
use Rattle.granted.specs.Members.{all_of, none_of}
use Rattle.granted.specs.CutShapes.{InThree}
use Rattle.granted.specs.Writes.{Turned, Beside, Pair}

module _ {get get' : ℕ → Seen} {i : ℕ} {q : Rectangle} where
  pub turned_rekind : Turned get get' i q → q ≡ (get i).rect → Rekind get get' i Alloc
  turned_rekind T e = record { chosen = rw e at T.chosen; other = T.other }

  pub along_step : {g1 : ℕ → Seen} {s : ℕ} {t : Rectangle} → Beside get g1 i s t → Turned g1 get' i q
      → (s ≡ i → ⊥) → ((j : ℕ) → (get i).next ≡ to j → j ≡ i → ⊥) → Parts (get i).orientation (get i).rect q t → Along get get' i s q t
  along_step {s = s} B T s≢i next cut = record {
    chosen = rw B.chosen at T.chosen;
    split = T.other s (none_of s (i ∷ []) (s≢i, tt)) ∙ B.split;
    rest = record {
      moved = λ j e. T.other j (none_of j (i ∷ []) (next j e, tt)) ∙ B.rest.moved j e;
      other = λ j m e. T.other j (λ x. m (all_of (λ y. In y (i ∷ s ∷ [])) (i ∷ []) (inl refl, tt) j x)) ∙ B.rest.other j m e;
    };
    cut = cut;
  }

  pub along_left_step : {g1 g2 : ℕ → Seen} {s a l : ℕ} {t u : Rectangle} → Beside get g1 i s t → Rekind g1 g2 i Container
      → Pair g2 get' (to i) (flip (get i).orientation) a Alloc q l u → (In i (l ∷ a ∷ s ∷ []) → ⊥) → Distinct (l ∷ a ∷ s ∷ [])
      → ((j : ℕ) → (get i).next ≡ to j → In j (i ∷ l ∷ a ∷ s ∷ []) → ⊥) → InThree (get i).orientation (get i).rect q u t → AlongLeft get get' i s a l q u t
  along_left_step {s = s} {a} {l} B R P N D next cut = record {
    chosen = P.other i (none_of i (a ∷ l ∷ []) (λ e. N (inr (inl e)), (λ e. N (inl e), tt))) ∙ (rw B.chosen at R.chosen);
    split = P.other s (none_of s (a ∷ l ∷ []) (λ e. D.1.0 (inl (sym e)), (λ e. D.0 (inr (inl (sym e))), tt)))
        ∙ (R.other s (none_of s (i ∷ []) (λ e. N (inr (inr (inl (sym e)))), tt)) ∙ B.split);
    alloc = P.first;
    left = P.last;
    rest = record {
      moved = λ j e. P.other j (λ m. next j e (pair_in j m)) ∙ (R.other j (λ m. next j e (one_in j m)) ∙ B.rest.moved j e);
      other = λ j m e. P.other j (λ x. m (pair_on j x)) ∙ (R.other j (λ x. m (one_on j x)) ∙ B.rest.other j (λ x. m (two_on j x)) e);
    };
    cut = cut.parts;
    inner = cut.inner;
  }
    where
      pair_in : (j : ℕ) → In j (a ∷ l ∷ []) → In j (i ∷ l ∷ a ∷ s ∷ [])
      pair_in = all_of (λ y. In y (i ∷ l ∷ a ∷ s ∷ [])) (a ∷ l ∷ []) (inr (inr (inl refl)), (inr (inl refl), tt))

      one_in : (j : ℕ) → In j (i ∷ []) → In j (i ∷ l ∷ a ∷ s ∷ [])
      one_in = all_of (λ y. In y (i ∷ l ∷ a ∷ s ∷ [])) (i ∷ []) (inl refl, tt)

      pair_on : (j : ℕ) → In j (a ∷ l ∷ []) → In j (i ∷ s ∷ a ∷ l ∷ [])
      pair_on = all_of (λ y. In y (i ∷ s ∷ a ∷ l ∷ [])) (a ∷ l ∷ []) (inr (inr (inl refl)), (inr (inr (inr (inl refl))), tt))

      one_on : (j : ℕ) → In j (i ∷ []) → In j (i ∷ s ∷ a ∷ l ∷ [])
      one_on = all_of (λ y. In y (i ∷ s ∷ a ∷ l ∷ [])) (i ∷ []) (inl refl, tt)

      two_on : (j : ℕ) → In j (i ∷ s ∷ []) → In j (i ∷ s ∷ a ∷ l ∷ [])
      two_on = all_of (λ y. In y (i ∷ s ∷ a ∷ l ∷ [])) (i ∷ s ∷ []) (inl refl, (inr (inl refl), tt))

  pub across_step : {g1 : ℕ → Seen} {s a : ℕ} {t : Rectangle} → Rekind get g1 i Container → Pair g1 get' (to i) (flip (get i).orientation) a Alloc q s t
      → (In i (a ∷ s ∷ []) → ⊥) → Parts (flip (get i).orientation) (get i).rect q t → Across get get' i s a q t
  across_step {s = s} {a} R P N cut = record {
    chosen = P.other i N ∙ R.chosen;
    split = P.last;
    alloc = P.first;
    other = λ j m. P.other j (λ x. m (inr x)) ∙ R.other j (λ x. m (all_of (λ y. In y (i ∷ a ∷ s ∷ [])) (i ∷ []) (inl refl, tt) j x));
    cut = cut;
  }

  pub across_left_step : {g1 g2 : ℕ → Seen} {s c a l : ℕ} {z t u : Rectangle} → Rekind get g1 i Container
      → Pair g1 g2 (to i) (flip (get i).orientation) c Container z s t → Pair g2 get' (to c) (get i).orientation a Alloc q l u
      → (In i (l ∷ a ∷ c ∷ s ∷ []) → ⊥) → Distinct (l ∷ a ∷ c ∷ s ∷ [])
      → InThree (flip (get i).orientation) (get i).rect q u t → AcrossLeft get get' i s c a l z q u t
  across_left_step {s = s} {c} {a} {l} R P1 P2 N D cut = record {
    chosen = P2.other i (none_of i (a ∷ l ∷ []) (λ e. N (inr (inl e)), (λ e. N (inl e), tt)))
        ∙ (P1.other i (none_of i (c ∷ s ∷ []) (λ e. N (inr (inr (inl e))), (λ e. N (inr (inr (inr (inl e)))), tt))) ∙ R.chosen);
    split = P2.other s (none_of s (a ∷ l ∷ []) (λ e. D.1.0 (inr (inl (sym e))), (λ e. D.0 (inr (inr (inl (sym e)))), tt))) ∙ P1.last;
    box = P2.other c (none_of c (a ∷ l ∷ []) (λ e. D.1.0 (inl (sym e)), (λ e. D.0 (inr (inl (sym e))), tt))) ∙ P1.first;
    alloc = P2.first;
    left = P2.last;
    other = λ j m.
        P2.other j (λ x. m (all_of (λ y. In y (i ∷ c ∷ a ∷ l ∷ s ∷ [])) (a ∷ l ∷ []) (inr (inr (inl refl)), (inr (inr (inr (inl refl))), tt)) j x))
        ∙ (P1.other j (λ x. m (all_of (λ y. In y (i ∷ c ∷ a ∷ l ∷ s ∷ [])) (c ∷ s ∷ []) (inr (inl refl), (inr (inr (inr (inr (inl refl)))), tt)) j x))
        ∙ R.other j (λ x. m (all_of (λ y. In y (i ∷ c ∷ a ∷ l ∷ s ∷ [])) (i ∷ []) (inl refl, tt) j x)));
    cut = cut.parts;
    inner = rw flip_flip at cut.inner;
  }
