-- THE EMPTY SHEET: on sound tables one Free slot is the whole sheet exactly where the root is Free and has no next, and then no other slot is live.
-- Assumes nothing but that the tables are sound.
use Rattle.std.specs.Prelude.{◌≡◌, refl, ◌↔◌, ◌⊎◌, [], ◌∷◌, ◌++◌, ℕ, ◌<◌}
use Rattle.std.proofs.Common.{ap, sym, ◌∙◌, inl, inr, arith, subst}
use Rattle.std.proofs.Math.Decide.{ℕ_discrete}
use Rattle.geometry.specs.Rectangles.{flip}
use Rattle.geometry.specs.declared.Orientation.{Orientation}
use Rattle.slots.specs.declared.NodeKind.{NodeKind}
use Rattle.slots.specs.declared.NodeKind.TheVariants.{Container, Alloc, Free, Unused}
use Rattle.steps.specs.State.{State}
use Rattle.sound.specs.View.{Link, none, to, Seen, seen, Live}
use Rattle.sound.specs.Rules.{Leaf}
use Rattle.sound.specs.Sound.{Sound, sheet_of}
use Rattle.sound.specs.ViewLaws.{to_inj, no_link}
use Rattle.forest.specs.Pigeon.{In, Distinct}
use Rattle.forest.specs.Forest as forest
use Rattle.forest.specs.Forest.{Forest, empty, head, slots, Bare, Full, Shape, Rep, Represents, rep_distinct}
use Rattle.forest.specs.Bridge as bridge
use Rattle.forest.specs.Back.{distinct_left, distinct_apart, in_live}
use Rattle.links.specs.TestLaws.{Says, says_as}
use Rattle.lone.specs.Lone.{lone_free}
use Rattle.lone.specs.LoneLaws.{lone_says, lone_rect}
use Rattle.cover.specs.Sums.{rect_at}
use Rattle.cover.proofs.Covered.{leaves_apart, ticket_on_sheet}
use Rattle.empty.specs.Empty.{WholeFree, OnlyFree}

-- Kinds that differ.
free_not : {k : NodeKind} {G : Type 0} → k ≡ Free → (k ≡ Alloc) ⊎ (k ≡ Container) → G
free_not e (inl d) = absurd (let z : ◌≡◌ {A = ℕ} 0 1 = cc in omega arith)
free_not e (inr d) = absurd (let z : ◌≡◌ {A = ℕ} 0 1 = cc in omega arith)

module _ (get : ℕ → Seen) (n : ℕ) where
  -- The first slot of a chain, with what is below it, holds an Alloc or Free slot.
  first_leaf : (p v : Link) (o : Orientation) (i : ℕ) (C T : Forest) → Rep get n p v o (forest.slot i C T) → (j : ℕ) × In j (i ∷ slots C) × Leaf (get j).kind
  first_leaf p v o i empty T R = here (get i).kind refl R.0.shape
    where
      here : (k : NodeKind) → (get i).kind ≡ k → Shape k empty → (j : ℕ) × In j (i ∷ []) × Leaf (get j).kind
      here Container e h = absurd h
      here Alloc e h = (i, inl refl, inl e)
      here Free e h = (i, inl refl, inr e)
      here Unused e h = absurd h
  first_leaf p v o i (forest.slot c D U) T R =
      let w = first_leaf (to i) none (flip o) c D U R.1 in
      (w.0, inr (forest.in_left (c ∷ slots D) (slots U) w.0 w.1), w.2)

  -- Where slot i is the only Alloc or Free slot, and Free, and rule 4 holds,
  module _ (i : ℕ) (only : (j : ℕ) → Live get n j → Leaf (get j).kind → j ≡ i) (free : (get i).kind ≡ Free)
      (apart : (a b : ℕ) → Live get n a → (get a).kind ≡ Free → (get a).parent ≡ to b → (get a).next ≡ none → (get a).prev ≡ none → ⊥) where
    -- i stands at the head of a chain or below it, so the chain has no other slot,
    in_first : (p v : Link) (o : Orientation) (a : ℕ) (C T : Forest) → Rep get n p v o (forest.slot a C T) → In i (a ∷ slots C)
    in_first p v o a C T R =
        let w = first_leaf p v o a C T R in
        let l = in_live get n p v o (forest.slot a C T) R w.0 (forest.in_left (a ∷ slots C) (slots T) w.0 w.1) in
        subst (λ (y : ℕ). In y (a ∷ slots C)) (only w.0 l w.2) w.1

    no_rest : (p v : Link) (o : Orientation) (a : ℕ) (C T : Forest) → Rep get n p v o (forest.slot a C T) → Distinct (slots (forest.slot a C T)) → head T ≡ none
    no_rest p v o a C empty R D = refl
    no_rest p v o a C (forest.slot b E U) R D =
        absurd
        (distinct_apart (a ∷ slots C) (slots (forest.slot b E U)) D i (in_first p v o a C (forest.slot b E U) R)
        (forest.in_left (b ∷ slots E) (slots U) i (in_first p (to a) o b E U R.2)))

    -- and no chain hangs below a slot.
    none_below : (q : ℕ) (o : Orientation) (C : Forest) → Rep get n (to q) none o C → Distinct (slots C) → Full C → ⊥
    none_below q o empty R D f = f
    none_below q o (forest.slot a C T) R D f = here (get a).kind refl R.0.shape (none_below a (flip o) C R.1 (distinct_left (slots C) (slots T) D.1))
      where
        here : (k : NodeKind) → (get a).kind ≡ k → Shape k C → (Full C → ⊥) → ⊥
        here Container e h below = below h
        here Alloc e h below = free_not (rw (only a (R.0.below, rw e) (inl e)) free) (inl e)
        here Free e h below = apart a q (R.0.below, rw e) e R.0.parent (R.0.next ∙ no_rest (to q) none o a C T R D) R.0.prev
        here Unused e h below = h

    -- So the top chain is slot i alone.
    top_alone : (o : Orientation) (a : ℕ) (C T : Forest) → Rep get n none none o (forest.slot a C T) → Distinct (slots (forest.slot a C T))
        → ((get a).kind ≡ Free) × ((get a).next ≡ none) × ((j : ℕ) → In j (slots (forest.slot a C T)) → j ≡ a)
    top_alone o a C T R D = here (get a).kind refl R.0.shape
      where
        lone : (B U : Forest) → Bare B → head U ≡ none → (j : ℕ) → In j (a ∷ slots B ++ slots U) → j ≡ a
        lone empty empty b h j (inl e) = e
        lone empty empty b h j (inr e) = elim e [ ]
        lone empty (forest.slot x Y Z) b h j m = absurd (no_link (sym h))
        lone (forest.slot x Y Z) U b h j m = absurd b

        here : (k : NodeKind) → (get a).kind ≡ k → Shape k C → ((get a).kind ≡ Free) × ((get a).next ≡ none) × ((j : ℕ) → In j (slots (forest.slot a C T)) → j ≡ a)
        here Container e h = absurd (none_below a (flip o) C R.1 (distinct_left (slots C) (slots T) D.1) h)
        here Alloc e h = free_not (rw (only a (R.0.below, rw e) (inl e)) free) (inl e)
        here Free e h =
            let last = no_rest none none o a C T R D in
            (e, R.0.next ∙ last, lone C T h last)
        here Unused e h = absurd h

module _ {s : State} (S : Sound s) where
  abbrev get : ℕ → Seen
  get = seen s.words

  abbrev n : ℕ
  n = s.head.count

  abbrev root : ℕ
  root = s.head.root.0

  -- A slot that is the whole sheet leaves no room for another Alloc or Free slot.
  no_other : (i : ℕ) → i < n → (get i).kind ≡ Free → (get i).rect ≡ sheet_of s.head.sheet → (j : ℕ) → Live get n j → Leaf (get j).kind → j ≡ i
  no_other i b k r j l f = same (ℕ_discrete j i)
    where
      same : Dec (j ≡ i) → j ≡ i
      same (yes e) = e
      same (no d) =
          let on = ticket_on_sheet S j (l.0, f) in
          absurd
          (leaves_apart S j i (l.0, f) (b, inr k) d (rect_at s j).x0 (rect_at s j).y0 (omega arith, omega arith, omega arith, omega arith)
          (rw r (omega arith, omega arith, omega arith, omega arith)))

  -- THE WHOLE SHEET. Where one Free slot is the whole sheet, the root is Free and has no next, and no other slot is live.
  pub whole_free_alone : WholeFree s → ((get root).kind ≡ Free) × ((get root).next ≡ none) × ((j : ℕ) → Live get n j → j ≡ root)
  whole_free_alone w = go (bridge.forest get n root S.rule3)
    where
      Goal : Type 0
      Goal = ((get root).kind ≡ Free) × ((get root).next ≡ none) × ((j : ℕ) → Live get n j → j ≡ root)

      go : (F : Forest) × Represents get n root F → Goal
      go (empty, R) = absurd (no_link R.from_root)
      go (forest.slot a C T, R) =
          let o = (get root).orientation in
          let t =
          top_alone get n w.0 (no_other w.0 w.1 w.2 w.3) w.2 S.rule4.sibling o a C T R.along
          (rep_distinct get n none none o (forest.slot a C T) R.along 0 refl) in
          let e : a ≡ root = to_inj R.from_root in
          rw (← e) (t.0, t.1, λ j l. t.2 j (R.all j l))

  -- A Free root without next is the whole sheet.
  lone_whole : (get root).kind ≡ Free → (get root).next ≡ none → WholeFree s
  lone_whole k e = (root, S.rule3.near.root_live.0, k, lone_rect S.rule5 k e)

  -- THE ROOT. One Free slot is the whole sheet exactly where the root is Free and has no next.
  pub whole_free_at_root : Says (lone_free s.words s.head.root) (WholeFree s)
  whole_free_at_root = says_as (lone_says s.words s.head.root) (λ h. lone_whole h.0 h.1, λ w. let a = whole_free_alone w in (a.0, a.1))

  -- THE ONLY SLOT. One Free slot is the whole sheet exactly where it is the only live slot.
  pub whole_free_only : WholeFree s ↔ OnlyFree s
  whole_free_only = (
    λ w. let a = whole_free_alone w in (root, S.rule3.near.root_live, a.0, a.2),
    λ o. lone_whole (rw (o.3 root S.rule3.near.root_live) o.2) (last (get root).next refl o.3),
  )
    where
      last : {i : ℕ} (l : Link) → (get root).next ≡ l → ((j : ℕ) → Live get n j → j ≡ i) → (get root).next ≡ none
      last none e only = e
      last (to j) e only =
          let same : j ≡ root = only j (S.rule3.near.next_live root j S.rule3.near.root_live e) ∙ sym (only root S.rule3.near.root_live) in
          absurd (no_link (sym S.rule3.near.root_prev ∙ (ap (λ (x : ℕ). (get x).prev) (sym same) ∙ S.rule3.near.next_prev root j S.rule3.near.root_live e)))
