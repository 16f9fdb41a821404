-- Rule 4 and allocate: a chosen Free slot is cut up, and the new Free slots stand between slots that are not Free.
-- Assumes nothing.
use Rattle.std.specs.Prelude.{ℕ, ◌≡◌, refl, ◌⊎◌, List, [], ◌∷◌}
use Rattle.std.proofs.Common.{sym, ◌∙◌, ap, inl, inr, ⊎_elim, arith}
use Rattle.std.proofs.Math.Decide.{ℕ_discrete}
use Rattle.geometry.specs.declared.Rectangle.{Rectangle}
use Rattle.slots.specs.declared.NodeKind.{NodeKind}
use Rattle.slots.specs.declared.NodeKind.TheVariants.{Container, Alloc, Free}
use Rattle.sound.specs.View.{Link, none, to, Seen, Live, in_use}
use Rattle.sound.specs.Sound.{Linked, Merged}
use Rattle.sound.specs.ViewLaws.{to_inj, no_link}
use Rattle.forest.specs.Pigeon.{In, In-dec}
use Rattle.changes.specs.Swaps.{Elsewhere, Taken, none_taken}
use Rattle.changes.specs.Merges.{Rekind}
use Rattle.changes.specs.Grants.{Along, AlongLeft, Across, AcrossLeft}

-- What rule 4 reads of a slot: its kind, its parent and its next are as they were, and it lacks a prev only if it did.
pub record Alike (m m' : Seen) : Type 0 where
  pub kind : m'.kind ≡ m.kind
  pub parent : m'.parent ≡ m.parent
  pub next : m'.next ≡ m.next
  pub prev : m'.prev ≡ none → m.prev ≡ none

-- So is a slot that did not change,
pub same_alike : {m m' : Seen} → m' ≡ m → Alike m m'
same_alike e = rw e (record { kind = refl; parent = refl; next = refl; prev = λ x. x })

-- and one that a step did not write, but perhaps for its prev.
pub elsewhere_alike : {get get' : ℕ → Seen} {written : List ℕ} {after : Link} {s : ℕ} → Elsewhere get get' written after (to s)
    → (j : ℕ) → (In j written → ⊥) → Alike (get j) (get' j)
elsewhere_alike {get} {get'} {written} {after} E j m = go after refl
  where
    go : (l : Link) → after ≡ l → Alike (get j) (get' j)
    go none e = same_alike (E.other j m (λ x. no_link (sym e ∙ x)))
    go (to k) e = at (ℕ_discrete j k)
      where
        at : Dec (j ≡ k) → Alike (get j) (get' j)
        at (yes q) = rw (E.moved j (e ∙ ap to (sym q))) (record { kind = refl; parent = refl; next = refl; prev = λ x. absurd (no_link (sym x)) })
        at (no q) = same_alike (E.other j m (λ x. q (to_inj (sym x ∙ e))))

-- A new slot in i's place: it is not Free, or it has a prev, and no next but i's.
abbrev pub Fine : (ℕ → Seen) → (ℕ → Seen) → ℕ → ℕ → Type 0
Fine get get' i s = ((get' s).kind ≡ Free → ⊥) ⊎ (((k : ℕ) → (get' s).next ≡ to k → (get i).next ≡ to k) × ((get' s).prev ≡ none → ⊥))

-- Slot i is cut up: it is not Free now, and new slots stand in its place.
pub record CutUp (get get' : ℕ → Seen) (i : ℕ) (new : List ℕ) : Type 0 where
  pub chosen : (get' i).kind ≡ Free → ⊥
  pub taken : (s : ℕ) → In s new → Fine get get' i s
  pub other : (j : ℕ) → (In j (i ∷ new) → ⊥) → Alike (get j) (get' j)

-- Cutting up a slot whose next is not Free keeps rule 4.
pub cut_merged : (get get' : ℕ → Seen) (n n' root i : ℕ) (new : List ℕ) → Linked get n root → Merged get n → Live get n i
    → ((v : ℕ) → (get i).next ≡ to v → (get v).kind ≡ Free → ⊥)
    → Taken get n n' new → CutUp get get' i new → Merged get' n'
cut_merged get get' n n' root i new L M lv calm W c = record { apart = apart; sibling = sibling }
  where
    -- A Free slot that follows a live one is not new, and was Free.
    followed : (u v : ℕ) → Live get n u → (get u).next ≡ to v → (get' v).kind ≡ Free → (get v).kind ≡ Free
    followed u v l x f = go (In-dec v (i ∷ new))
      where
        go : Dec (In v (i ∷ new)) → (get v).kind ≡ Free
        go (yes m) = absurd (⊎_elim (λ e. c.chosen (rw e at f)) (λ s. W.idle v s (L.near.next_live u v l x)) m)
        go (no m) = sym (c.other v m).kind ∙ f

    was_live : (u : ℕ) → (In u (i ∷ new) → ⊥) → Live get' n' u → Live get n u
    was_live u m l = (W.counted u l.0 (λ s. m (inr s)), ap in_use (sym (c.other u m).kind) ∙ l.1)

    apart : (u v : ℕ) → Live get' n' u → (get' u).next ≡ to v → (get' u).kind ≡ Free → (get' v).kind ≡ Free → ⊥
    apart u v l x f g = go (In-dec u (i ∷ new))
      where
        go : Dec (In u (i ∷ new)) → ⊥
        go (yes m) =
            ⊎_elim (λ e. c.chosen (rw e at f))
            (λ s. ⊎_elim (λ w. w f) (λ w. let y = w.0 v x in calm v y (followed i v lv y g)) (c.taken u s)) m
        go (no m) =
            let a = c.other u m in
            let y = sym a.next ∙ x in
            M.apart u v (was_live u m l) y (sym a.kind ∙ f) (followed u v (was_live u m l) y g)

    sibling : (u p : ℕ) → Live get' n' u → (get' u).kind ≡ Free → (get' u).parent ≡ to p → (get' u).next ≡ none → (get' u).prev ≡ none → ⊥
    sibling u p l f q x v = go (In-dec u (i ∷ new))
      where
        go : Dec (In u (i ∷ new)) → ⊥
        go (yes m) = ⊎_elim (λ e. c.chosen (rw e at f)) (λ s. ⊎_elim (λ w. w f) (λ w. w.1 v) (c.taken u s)) m
        go (no m) =
            let a = c.other u m in
            M.sibling u p (was_live u m l) (sym a.kind ∙ f) (sym a.parent ∙ q) (sym a.next ∙ x) (a.prev v)

-- THE SHAPES

-- A slot of another kind is not Free.
not_free : {j k : NodeKind} → j ≡ k → (k ≡ Alloc) ⊎ (k ≡ Container) → j ≡ Free → ⊥
not_free e (inl a) f = let z : ◌≡◌ {A = ℕ} 0 1 = cc in omega arith
not_free e (inr a) f = let z : ◌≡◌ {A = ℕ} 0 1 = cc in omega arith

module _ (get get' : ℕ → Seen) (n n' root i : ℕ) (L : Linked get n root) (M : Merged get n) (lv : Live get n i) (free : (get i).kind ≡ Free) where
  -- The next of a Free slot is not Free.
  calm : (v : ℕ) → (get i).next ≡ to v → (get v).kind ≡ Free → ⊥
  calm v e f = M.apart i v lv e free f

  -- A new Alloc or Container,
  solid : (s : ℕ) {m : Seen} → get' s ≡ m → (m.kind ≡ Alloc) ⊎ (m.kind ≡ Container) → Fine get get' i s
  solid s {m} e k = inl (not_free (ap (λ x. x.kind) e) k)

  -- and a new Free slot that has a prev, and i's next or none.
  spare : (s v : ℕ) {m : Seen} → get' s ≡ m → m.prev ≡ to v → (m.next ≡ (get i).next) ⊎ (m.next ≡ none) → Fine get get' i s
  spare s v {m} e p x = inr (
    λ k h. ⊎_elim {C = (get i).next ≡ to k} (λ y. sym y ∙ (sym (ap (λ w. w.next) e) ∙ h)) (λ y. absurd (no_link (sym y ∙ (sym (ap (λ w. w.next) e) ∙ h)))) x,
    λ h. no_link (sym h ∙ (ap (λ w. w.prev) e ∙ p)),
  )

  -- The request fills the slot.
  pub exact_merged : Rekind get get' i Alloc → Merged get' n
  exact_merged op = cut_merged get get' n n root i [] L M lv calm (none_taken get n) (record {
    chosen = not_free (ap (λ x. x.kind) op.chosen) (inl refl);
    taken = λ s m. absurd m;
    other = λ j m. same_alike (op.other j m);
  })

  -- Cut along, no leftover.
  pub along_merged : (s : ℕ) (q t : Rectangle) → Taken get n n' (s ∷ []) → Along get get' i s q t → Merged get' n'
  along_merged s q t W op = cut_merged get get' n n' root i (s ∷ []) L M lv calm W (record {
    chosen = not_free (ap (λ x. x.kind) op.chosen) (inl refl);
    taken = λ x. ⊎_elim {C = Fine get get' i x} (λ e. rw e (spare s i op.split refl (inl refl))) (λ m. absurd m);
    other = elsewhere_alike op.rest;
  })

  -- Cut along, with a leftover.
  pub along_left_merged : (s a l : ℕ) (q u t : Rectangle) → Taken get n n' (s ∷ a ∷ l ∷ []) → AlongLeft get get' i s a l q u t → Merged get' n'
  along_left_merged s a l q u t W op = cut_merged get get' n n' root i (s ∷ a ∷ l ∷ []) L M lv calm W (record {
    chosen = not_free (ap (λ x. x.kind) op.chosen) (inr refl);
    taken = λ x. ⊎_elim {C = Fine get get' i x} (λ e. rw e (spare s i op.split refl (inl refl)))
        (⊎_elim {C = Fine get get' i x} (λ e. rw e (solid a op.alloc (inl refl)))
        (⊎_elim {C = Fine get get' i x} (λ e. rw e (spare l a op.left refl (inr refl))) (λ m. absurd m)));
    other = elsewhere_alike op.rest;
  })

  -- Cut across, no leftover.
  pub across_merged : (s a : ℕ) (q t : Rectangle) → Taken get n n' (a ∷ s ∷ []) → Across get get' i s a q t → Merged get' n'
  across_merged s a q t W op = cut_merged get get' n n' root i (a ∷ s ∷ []) L M lv calm W (record {
    chosen = not_free (ap (λ x. x.kind) op.chosen) (inr refl);
    taken = λ x. ⊎_elim {C = Fine get get' i x} (λ e. rw e (solid a op.alloc (inl refl)))
        (⊎_elim {C = Fine get get' i x} (λ e. rw e (spare s a op.split refl (inr refl))) (λ m. absurd m));
    other = λ j m. same_alike (op.other j m);
  })

  -- Cut across, with a leftover.
  pub across_left_merged : (s c a l : ℕ) (z q u t : Rectangle) → Taken get n n' (c ∷ a ∷ l ∷ s ∷ []) → AcrossLeft get get' i s c a l z q u t → Merged get' n'
  across_left_merged s c a l z q u t W op = cut_merged get get' n n' root i (c ∷ a ∷ l ∷ s ∷ []) L M lv calm W (record {
    chosen = not_free (ap (λ x. x.kind) op.chosen) (inr refl);
    taken = λ x. ⊎_elim {C = Fine get get' i x} (λ e. rw e (solid c op.box (inr refl)))
        (⊎_elim {C = Fine get get' i x} (λ e. rw e (solid a op.alloc (inl refl)))
        (⊎_elim {C = Fine get get' i x} (λ e. rw e (spare l a op.left refl (inr refl)))
        (⊎_elim {C = Fine get get' i x} (λ e. rw e (spare s c op.split refl (inr refl))) (λ m. absurd m))));
    other = λ j m. same_alike (op.other j m);
  })
