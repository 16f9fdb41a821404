-- A forest with a gap, and what fills it: how one part of a forest is singled out.
-- Assumes nothing.
use Rattle.std.specs.Prelude.{ℕ, ◌≡◌, refl, ◌⊎◌, List, [], ◌∷◌, ◌++◌}
use Rattle.std.proofs.Common.{sym, ap, inl, inr, ⊎_elim}
use Rattle.geometry.specs.Rectangles.{flip}
use Rattle.geometry.specs.declared.Orientation.{Orientation}
use Rattle.sound.specs.View.{Link, none, to, Seen}
use Rattle.sound.specs.ViewLaws.{to_inj, no_link}
use Rattle.forest.specs.Pigeon.{In, Distinct}
use Rattle.forest.specs.Forest.{Forest, empty, slot, head, slots, Rep, in_left, in_right, in_cases, in_children, in_after}
use Rattle.forest.specs.Back.{by_place, distinct_left, distinct_right, distinct_apart}

-- A forest with a gap: the gap is all of it, or among a slot's children, or after a slot.
pub data Gap : Type 0 where
  here : Gap
  under : ℕ → Gap → Forest → Gap
  past : ℕ → Forest → Gap → Gap

-- The forest with the gap filled.
abbrev pub plug : Gap → Forest → Forest
plug here T = T
plug (under i K S) T = slot i (plug K T) S
plug (past i C K) T = slot i C (plug K T)

-- The slots round the gap.
abbrev pub rim : Gap → List ℕ
rim here = []
rim (under i K S) = i ∷ rim K ++ slots S
rim (past i C K) = i ∷ slots C ++ rim K

-- The parent of a chain that fills the gap, where p is the whole's,
abbrev pub parent_at : Gap → Link → Link
parent_at here p = p
parent_at (under i K S) p = parent_at K (to i)
parent_at (past i C K) p = parent_at K p

-- the prev of its first slot, where v is the whole's,
abbrev pub prev_at : Gap → Link → Link
prev_at here v = v
prev_at (under i K S) v = prev_at K none
prev_at (past i C K) v = prev_at K (to i)

-- and its orientation, where o is the whole's.
abbrev pub orientation_at : Gap → Orientation → Orientation
orientation_at here o = o
orientation_at (under i K S) o = orientation_at K (flip o)
orientation_at (past i C K) o = orientation_at K o

-- Every slot of a forest stands first in what fills some gap.
pub locate : (F : Forest) (i : ℕ) → In i (slots F) → (K : Gap) × (C : Forest) × (S : Forest) × (F ≡ plug K (slot i C S))
locate empty i h = absurd h
locate (slot a C S) i h =
    by_place {G = (K : Gap) × (C' : Forest) × (S' : Forest) × (slot a C S ≡ plug K (slot i C' S'))} i a C S
    (λ e. (here, C, S, rw e refl))
    (λ m. let r = locate C i m in (under a r.0 S, r.1, r.2, ap (λ (x : Forest). slot a x S) r.3))
    (λ m. let r = locate S i m in (past a C r.0, r.1, r.2, ap (λ (x : Forest). slot a C x) r.3)) h

-- A slot of the whole stands round the gap or in what fills it.
pub in_plug : (K : Gap) (T : Forest) (j : ℕ) → In j (slots (plug K T)) → In j (rim K) ⊎ In j (slots T)
in_plug here T j h = inr h
in_plug (under a K S) T j h =
    by_place {G = In j (rim (under a K S)) ⊎ In j (slots T)} j a (plug K T) S (λ e. inl (inl e))
    (λ m. ⊎_elim {C = In j (rim (under a K S)) ⊎ In j (slots T)} (λ x. inl (inr (in_left (rim K) (slots S) j x))) inr (in_plug K T j m))
    (λ m. inl (inr (in_right (rim K) (slots S) j m))) h
in_plug (past a C K) T j h =
    by_place {G = In j (rim (past a C K)) ⊎ In j (slots T)} j a C (plug K T) (λ e. inl (inl e))
    (λ m. inl (inr (in_left (slots C) (rim K) j m)))
    (λ m. ⊎_elim {C = In j (rim (past a C K)) ⊎ In j (slots T)} (λ x. inl (inr (in_right (slots C) (rim K) j x))) inr (in_plug K T j m)) h

-- What fills the gap is in the whole,
pub fill_in : (K : Gap) (T : Forest) (j : ℕ) → In j (slots T) → In j (slots (plug K T))
fill_in here T j h = h
fill_in (under a K S) T j h = in_children j a (plug K T) S (fill_in K T j h)
fill_in (past a C K) T j h = in_after j a C (plug K T) (fill_in K T j h)

-- and so is what stands round it.
pub rim_in : (K : Gap) (T : Forest) (j : ℕ) → In j (rim K) → In j (slots (plug K T))
rim_in here T j h = absurd h
rim_in (under a K S) T j h =
    ⊎_elim {C = In j (slots (slot a (plug K T) S))} inl
    (λ m. ⊎_elim {C = In j (slots (slot a (plug K T) S))} (λ x. in_children j a (plug K T) S (rim_in K T j x)) (in_after j a (plug K T) S)
    (in_cases (rim K) (slots S) j m)) h
rim_in (past a C K) T j h =
    ⊎_elim {C = In j (slots (slot a C (plug K T)))} inl
    (λ m. ⊎_elim {C = In j (slots (slot a C (plug K T)))} (in_children j a C (plug K T)) (λ x. in_after j a C (plug K T) (rim_in K T j x))
    (in_cases (slots C) (rim K) j m)) h

-- No slot stands on both sides.
pub rim_apart : (K : Gap) (T : Forest) → Distinct (slots (plug K T)) → (j : ℕ) → In j (rim K) → In j (slots T) → ⊥
rim_apart here T d j h m = h
rim_apart (under a K S) T d j h m =
    ⊎_elim (λ e. d.0 (in_left (slots (plug K T)) (slots S) a (rw e at (fill_in K T j m))))
    (λ x. ⊎_elim (λ y. rim_apart K T (distinct_left (slots (plug K T)) (slots S) d.1) j y m)
    (λ y. distinct_apart (slots (plug K T)) (slots S) d.1 j (fill_in K T j m) y) (in_cases (rim K) (slots S) j x)) h
rim_apart (past a C K) T d j h m =
    ⊎_elim (λ e. d.0 (in_right (slots C) (slots (plug K T)) a (rw e at (fill_in K T j m))))
    (λ x. ⊎_elim (λ y. distinct_apart (slots C) (slots (plug K T)) d.1 j y (fill_in K T j m))
    (λ y. rim_apart K T (distinct_right (slots C) (slots (plug K T)) d.1) j y m) (in_cases (slots C) (rim K) j x)) h

-- The slots of what fills the gap differ, where those of the whole do.
pub distinct_fill : (K : Gap) (T : Forest) → Distinct (slots (plug K T)) → Distinct (slots T)
distinct_fill here T d = d
distinct_fill (under a K S) T d = distinct_fill K T (distinct_left (slots (plug K T)) (slots S) d.1)
distinct_fill (past a C K) T d = distinct_fill K T (distinct_right (slots C) (slots (plug K T)) d.1)

-- The whole starts at the same slot, where what fills the gap does.
pub plug_head : (K : Gap) (T T' : Forest) → head T' ≡ head T → head (plug K T') ≡ head (plug K T)
plug_head here T T' e = e
plug_head (under a K S) T T' e = refl
plug_head (past a C K) T T' e = refl

-- The slot that a forest starts at is in it.
pub head_in : (F : Forest) (i : ℕ) → head F ≡ to i → In i (slots F)
head_in empty i e = absurd (no_link e)
head_in (slot j C S) i e = inl (sym (to_inj e))

-- A table that holds the whole holds what fills the gap, where that hangs.
pub rep_fill : (get : ℕ → Seen) (n : ℕ) (K : Gap) (T : Forest) (p v : Link) (o : Orientation) → Rep get n p v o (plug K T)
    → Rep get n (parent_at K p) (prev_at K v) (orientation_at K o) T
rep_fill get n here T p v o r = r
rep_fill get n (under a K S) T p v o r = rep_fill get n K T (to a) none (flip o) r.1
rep_fill get n (past a C K) T p v o r = rep_fill get n K T p (to a) o r.2
