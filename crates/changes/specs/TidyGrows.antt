-- Rule 4 and grow.
-- Assumes nothing.
use Rattle.std.specs.Prelude.{ℕ, ◌≡◌, refl, ◌⊎◌, [], ◌∷◌}
use Rattle.std.proofs.Common.{sym, ◌∙◌, ap, inl, inr, ⊎_elim}
use Rattle.std.proofs.Math.Decide.{ℕ_discrete}
use Rattle.geometry.specs.declared.Orientation.{Orientation}
use Rattle.geometry.specs.declared.Rectangle.{Rectangle}
use Rattle.slots.specs.declared.NodeKind.TheVariants.{Free}
use Rattle.sound.specs.View.{none, to, Seen, Live, in_use}
use Rattle.sound.specs.Sound.{Linked, Merged}
use Rattle.sound.specs.ViewLaws.{no_link}
use Rattle.forest.specs.Pigeon.{In, In-dec}
use Rattle.changes.specs.Swaps.{Taken}
use Rattle.changes.specs.Stretches.{free_box}
use Rattle.changes.specs.Grows.{Stretch, Append}
use Rattle.changes.specs.Roots.{NewRoot, root_moves, root_live}
use Rattle.changes.specs.Tidy.{Alike, same_alike, Fine, cut_merged}

-- Stretching a Free slot keeps rule 4: nothing changes that it reads.
pub stretch_merged : (get get' : ℕ → Seen) (n i : ℕ) (q : Rectangle) → Stretch get get' i q → (get i).kind ≡ Free → Merged get n → Merged get' n
stretch_merged get get' n i q op free M = record {
  apart = λ u v l e f g. M.apart u v (was u l) (sym (alike u).next ∙ e) (sym (alike u).kind ∙ f) (sym (alike v).kind ∙ g);
  sibling = λ u p l f e x v. M.sibling u p (was u l) (sym (alike u).kind ∙ f) (sym (alike u).parent ∙ e) (sym (alike u).next ∙ x) ((alike u).prev v);
}
  where
    alike : (j : ℕ) → Alike (get j) (get' j)
    alike j = go (ℕ_discrete j i)
      where
        go : Dec (j ≡ i) → Alike (get j) (get' j)
        go (yes e) = rw (e, op.chosen) (record { kind = sym free; parent = refl; next = refl; prev = λ x. x })
        go (no e) = same_alike (op.other j (⊎_elim e (λ m. m)))

    was : (j : ℕ) → Live get' n j → Live get n j
    was j l = (l.0, ap in_use (sym (alike j).kind) ∙ l.1)

-- Appending after a last slot that is not Free does,
pub append_merged : (get get' : ℕ → Seen) (n n' root i s : ℕ) (t : Rectangle) → Linked get n root → Taken get n n' (s ∷ []) → Append get get' i s t
    → Live get n i → (get i).next ≡ none → ((get i).kind ≡ Free → ⊥) → Merged get n → Merged get' n'
append_merged get get' n n' root i s t L W op lv x solid M =
    cut_merged get get' n n' root i (s ∷ []) L M lv (λ v e. absurd (no_link (sym x ∙ e))) W
    (record {
      chosen = λ f. solid (sym (ap (λ m. m.kind) op.chosen) ∙ f);
      taken = λ u. ⊎_elim {C = Fine get get' i u} (λ e. rw e
          (inr (λ k h. absurd (no_link (sym (ap (λ m. m.next) op.new) ∙ h)), λ h. no_link (sym h ∙ ap (λ m. m.prev) op.new)))) (λ m. absurd m);
      other = λ j m. same_alike (op.other j m);
    })

-- What a new root changes of a live slot: its parent, if it had none.
record Moved (m m' : Seen) : Type 0 where
  pub kind : m'.kind ≡ m.kind
  pub next : m'.next ≡ m.next
  pub prev : m'.prev ≡ m.prev
  pub parent : (m'.parent ≡ m.parent) ⊎ (m.parent ≡ none)

-- A new root keeps rule 4 too, over a top chain that is not one Free slot.
pub root_merged : (get get' : ℕ → Seen) (n n' root a b : ℕ) (o : Orientation) (z t : Rectangle) → Linked get n root → Taken get n n' (a ∷ b ∷ [])
    → NewRoot get get' n a b o z t → ((get root).kind ≡ Free → (get root).next ≡ none → ⊥) → Merged get n → Merged get' n'
root_merged get get' n n' root a b o z t L W op some M = record { apart = apart; sibling = sibling }
  where
    moved : (u : ℕ) → Live get n u → Moved (get u) (get' u)
    moved u l =
        ⊎_elim {C = Moved (get u) (get' u)} (λ h. rw h.1 (record { kind = refl; next = refl; prev = refl; parent = inr h.0 }))
        (λ h. rw h (record { kind = refl; next = refl; prev = refl; parent = inl refl })) (root_moves get get' n n' a b o z t W op u l)

    -- Neither new slot is Free with a next or a parent.
    new : (u k : ℕ) → In u (a ∷ b ∷ []) → (get' u).kind ≡ Free → ((get' u).next ≡ to k) ⊎ ((get' u).parent ≡ to k) → ⊥
    new u k m f h =
        ⊎_elim (λ e. free_box f (ap (λ x. (get' x).kind) e ∙ ap (λ x. x.kind) op.root))
        (⊎_elim
        (λ e. ⊎_elim (λ x. no_link (sym (ap (λ x. (get' x).next) e ∙ ap (λ x. x.next) op.free) ∙ x))
        (λ x. no_link (sym (ap (λ x. (get' x).parent) e ∙ ap (λ x. x.parent) op.free) ∙ x)) h) (λ x. x)) m

    -- Each slot live now is new, or was live.
    split : (u : ℕ) → Live get' n' u → In u (a ∷ b ∷ []) ⊎ (Live get n u × Moved (get u) (get' u))
    split u l = go (In-dec u (a ∷ b ∷ []))
      where
        go : Dec (In u (a ∷ b ∷ [])) → In u (a ∷ b ∷ []) ⊎ (Live get n u × Moved (get u) (get' u))
        go (yes m) = inl m
        go (no m) = let lu = root_live get get' n n' a b o z t W op u m l in inr (lu, moved u lu)

    apart : (u v : ℕ) → Live get' n' u → (get' u).next ≡ to v → (get' u).kind ≡ Free → (get' v).kind ≡ Free → ⊥
    apart u v l e f g =
        ⊎_elim (λ m. new u v m f (inl e))
        (λ w. let x = sym w.1.next ∙ e in M.apart u v w.0 x (sym w.1.kind ∙ f) (sym (moved v (L.near.next_live u v w.0 x)).kind ∙ g)) (split u l)

    sibling : (u p : ℕ) → Live get' n' u → (get' u).kind ≡ Free → (get' u).parent ≡ to p → (get' u).next ≡ none → (get' u).prev ≡ none → ⊥
    sibling u p l f q e v =
        ⊎_elim (λ m. new u p m f (inr q))
        (λ w. let k = sym w.1.kind ∙ f in
        let x = sym w.1.next ∙ e in
        let y = sym w.1.prev ∙ v in
        ⊎_elim (λ s. M.sibling u p w.0 k (sym s ∙ q) x y) (λ s. let r = L.near.root_only u w.0 s y in some (rw r at k) (rw r at x)) w.1.parent) (split u l)
