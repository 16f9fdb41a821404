-- The tree of a table, merged all over, through the steps of the climb: only marking a slot Free changes it.
-- Assumes nothing.
use Rattle.std.specs.Prelude.{ℕ, ◌≡◌}
use Rattle.std.proofs.Math.Path.{refl, sym, ap}
use Rattle.std.proofs.Common.{◌∙◌, inl, inr, ⊎_elim, arith}
use Rattle.std.proofs.Math.Bool.{true, false}
use Rattle.std.proofs.Math.Decide.{ℕ_discrete}
use Rattle.std.proofs.Math.Dec.{eqb}
use borrow.Author.Tests.{eq-eqb, ne_eqb}
use Rattle.geometry.specs.declared.Rectangle.{Rectangle}
use Rattle.slots.specs.declared.NodeKind.TheVariants.{Container, Alloc, Free}
use Rattle.sound.specs.View.{Link, none, to, Seen, Live}
use Rattle.sound.specs.Rules.{join, PlaceChain}
use Rattle.sound.specs.Sound.{Linked}
use Rattle.sound.specs.ViewLaws.{to_inj, no_link}
use Rattle.forest.specs.Pigeon.{In, Distinct}
use Rattle.forest.specs.Forest.{Forest, empty, slot, slots, Rep, Represents, in_left, in_right, in_children, in_after, rep_distinct, shape_live}
use Rattle.forest.specs.Place.{PlaceF}
use Rattle.forest.specs.Tree.{Tree, tree_of}
use Rattle.changes.specs.Gaps.{Gap, here, under, past, plug, rim, parent_at, prev_at, orientation_at, distinct_fill, rep_fill}
use Rattle.changes.specs.Frame.{SameBody, same_body}
use Rattle.changes.specs.Stands.{leaf_bare}
use Rattle.changes.specs.Swaps.{with_prev, Swapped, At, at_in, swap_at, round, step_represents}
use Rattle.changes.specs.Merges.{Rekind, Absorb, GiveUp, absorb_swapped, give_up_swapped, rekind_swapped}
use Rattle.granted.specs.Carved.{but_prev}
use Rattle.freed.specs.Folds.{freeing, no_slot, merged_first, freeing_before, free_first, box_first, alloc_first, free_free}

-- The tree of the table, merged all over, is T.
abbrev pub Settles : (ℕ → Seen) → ℕ → ℕ → Tree → Type 0
Settles get n root T = (F : Forest) × Represents get n root F × (freeing no_slot (tree_of get F) ≡ T)

abbrev merged : (ℕ → Seen) → Forest → Tree
merged get F = freeing no_slot (tree_of get F)

module _ (get get' : ℕ → Seen) where
  -- A forest whose slots have the bodies that they had has the tree that it had.
  tree_same : (F : Forest) → ((j : ℕ) → In j (slots F) → SameBody (get j) (get' j)) → tree_of get' F ≡ tree_of get F
  tree_same empty h = refl
  tree_same (slot a C S) h =
      let b = h a (inl refl) in
      rw (b.kind, b.rect, tree_same C (λ j m. h j (in_children j a C S m)), tree_same S (λ j m. h j (in_after j a C S m))) refl

  -- Where nothing round a gap changed, the whole is merged as it was if what fills the gap is.
  plug_merged : (K : Gap) (T T' : Forest) → ((j : ℕ) → In j (rim K) → get' j ≡ get j) → merged get' T' ≡ merged get T
      → merged get' (plug K T') ≡ merged get (plug K T)
  plug_merged here T T' h e = e
  plug_merged (under a K S) T T' h e =
      rw (h a (inl refl), tree_same S (λ j m. same_body (h j (inr (in_right (rim K) (slots S) j m)))))
      (freeing_before no_slot (get a).kind a (get a).rect (tree_of get' (plug K T')) (tree_of get S)
      ∙ (ap (λ c. merged_first (get a).kind false a (get a).rect c (merged get S)) (plug_merged K T T' (λ j m. h j (inr (in_left (rim K) (slots S) j m))) e)
      ∙ sym (freeing_before no_slot (get a).kind a (get a).rect (tree_of get (plug K T)) (tree_of get S))))
  plug_merged (past a C K) T T' h e =
      rw (h a (inl refl), tree_same C (λ j m. same_body (h j (inr (in_left (slots C) (rim K) j m)))))
      (freeing_before no_slot (get a).kind a (get a).rect (tree_of get C) (tree_of get' (plug K T'))
      ∙ (ap (λ c. merged_first (get a).kind false a (get a).rect (merged get C) c) (plug_merged K T T' (λ j m. h j (inr (in_right (slots C) (rim K) j m))) e)
      ∙ sym (freeing_before no_slot (get a).kind a (get a).rect (tree_of get C) (tree_of get (plug K T)))))

-- A slot with another prev has the same body.
prev_body : {m m' : Seen} {v : Link} → m' ≡ with_prev m v → SameBody m m'
prev_body e = rw e (record { kind = refl; orientation = refl; rect = refl })

module _ (get get' : ℕ → Seen) (n root : ℕ) (all : Rectangle) (P : PlaceChain get n root all) (T : Tree) (F : Forest) (R : Represents get n root F)
    (is : merged get F ≡ T) where
  -- A swap where slot i stands that merges to the same keeps the merged tree.
  swap_settles : (i : ℕ) (K : Gap) (C S : Forest) → Represents get n root (plug K (slot i C S)) → (w : Rectangle) → PlaceF get (slot i C S) w
      → F ≡ plug K (slot i C S) → (T' : Forest) → Swapped get get' n n (slot i C S) T' → merged get' T' ≡ merged get (slot i C S) → Settles get' n root T
  swap_settles i K C S whole w placed e T' sw q =
      let a : At get n root i = record { gap = K; below = C; after = S; whole = whole; place = w; placed = placed } in
      let R' = step_represents get get' n n root i (omega arith) a T' sw in
      let same = round get get' n n root (omega arith) K (slot i C S) T' whole (swap_at get get' n n root i (omega arith) a T' sw).0 in
      (plug K T', R', plug_merged get get' K (slot i C S) T' same q ∙ (ap (merged get) (sym e) ∙ is))

  filled : (K : Gap) (X : Forest) → Represents get n root (plug K X) → Rep get n (parent_at K none) (prev_at K none) (orientation_at K (get root).orientation) X
  filled K X W = rep_fill get n K X none none (get root).orientation W.along

  whole_distinct : (K : Gap) (X : Forest) → Represents get n root (plug K X) → Distinct (slots X)
  whole_distinct K X W = distinct_fill K X (rep_distinct get n none none (get root).orientation (plug K X) W.along 0 refl)

  -- ABSORBING keeps it,
  absorb_tree : (i x : ℕ) (S : Forest) → (get i).kind ≡ Free → (get x).kind ≡ Free → (get' i).kind ≡ Free → (get' i).rect ≡ join (get i).rect (get x).rect
      → tree_of get' S ≡ tree_of get S → merged get' (slot i empty S) ≡ merged get (slot i empty (slot x empty S))
  unfolding freeing
  absorb_tree i x S a b c d e = rw (a, b, c, d, e) (sym (free_free i (get i).rect x (get x).rect (merged get S)))

  pub absorb_settles : (i j : ℕ) → Absorb get get' i j → Live get n i → (get i).kind ≡ Free → (get i).next ≡ to j → (get j).kind ≡ Free → Settles get' n root T
  absorb_settles i j op lv k nx kj =
      let a = at_in get n root i F R all P lv in
      go a.0.gap a.0.below a.0.after a.0.whole a.0.place a.0.placed a.1
    where
      go : (K : Gap) (C S : Forest) → Represents get n root (plug K (slot i C S)) → (w : Rectangle) → PlaceF get (slot i C S) w
          → F ≡ plug K (slot i C S) → Settles get' n root T
      go K (slot c B U) S whole w placed e = absurd (leaf_bare (get i).kind (slot c B U) (inr k) (filled K (slot i (slot c B U) S) whole).0.shape)
      go K empty empty whole w placed e = absurd (no_link (sym (filled K (slot i empty empty) whole).0.next ∙ nx))
      go K empty (slot x (slot c B U) S) whole w placed e =
          let r = filled K (slot i empty (slot x (slot c B U) S)) whole in
          absurd (leaf_bare (get x).kind (slot c B U) (inr (rw (to_inj (sym nx ∙ r.0.next)) at kj)) r.2.0.shape)
      go K empty (slot x empty S) whole w placed e =
          let r = filled K (slot i empty (slot x empty S)) whole in
          let q : j ≡ x = to_inj (sym nx ∙ r.0.next) in
          let o : Absorb get get' i x = rw q at op in
          let kx : (get x).kind ≡ Free = rw q at kj in
          let D = whole_distinct K (slot i empty (slot x empty S)) whole in
          let same : (y : ℕ) → In y (slots S) → SameBody (get y) (get' y) =
          λ y m. prev_body (but_prev o.rest y (⊎_elim (λ z. D.0 (inr (rw z at m))) (⊎_elim (λ z. D.1.0 (rw z at m)) (λ f. f)))) in
          swap_settles i K empty (slot x empty S) whole w placed e (slot i empty S) (absorb_swapped get get' n i x o k kx S)
          (absorb_tree i x S k kx (ap (λ m. m.kind) o.taker) (ap (λ m. m.rect) o.taker) (tree_same get get' S same))

  -- and so does giving up.
  give_tree : (i c : ℕ) (S : Forest) → (get i).kind ≡ Container → (get c).kind ≡ Free → (get' i).kind ≡ Free → (get' i).rect ≡ (get c).rect
      → tree_of get' S ≡ tree_of get S → merged get' (slot i empty S) ≡ merged get (slot i (slot c empty empty) S)
  unfolding freeing box_first free_first
  give_tree i c S a b g d e = rw (a, b, g, d, e) refl

  pub give_up_settles : (i c : ℕ) → Linked get n root → GiveUp get get' i c → Live get n c → (get c).kind ≡ Free
      → (get c).parent ≡ to i → (get c).prev ≡ none → (get c).next ≡ none → Settles get' n root T
  give_up_settles i c L op lv k pc vc nc =
      let a = at_in get n root i F R all P (L.near.parent_live c i lv pc) in
      go a.0.gap a.0.below a.0.after a.0.whole a.0.place a.0.placed a.1
    where
      box : (get i).kind ≡ Container
      box = L.near.parent_kind c i lv pc

      only : (K : Gap) (x : ℕ) (B U S : Forest) → Represents get n root (plug K (slot i (slot x B U) S)) → c ≡ x
      only K x B U S whole =
          let f = (filled K (slot i (slot x B U) S) whole).1.0 in
          L.near.one_child i c x (record { live = lv; parent = pc; prev = vc })
          (record { live = (f.below, shape_live (get x).kind B f.shape); parent = f.parent; prev = f.prev })

      go : (K : Gap) (C S : Forest) → Represents get n root (plug K (slot i C S)) → (w : Rectangle) → PlaceF get (slot i C S) w
          → F ≡ plug K (slot i C S) → Settles get' n root T
      go K empty S whole w placed e = absurd (rw box at (filled K (slot i empty S) whole).0.shape)
      go K (slot x (slot b A U) Y) S whole w placed e =
          absurd (leaf_bare (get x).kind (slot b A U) (inr (rw (only K x (slot b A U) Y S whole) at k)) (filled K (slot i (slot x (slot b A U) Y) S) whole).1.0.shape)
      go K (slot x empty (slot b A U)) S whole w placed e =
          absurd (no_link (sym nc ∙ (ap (λ z. (get z).next) (only K x empty (slot b A U) S whole) ∙ (filled K (slot i (slot x empty (slot b A U)) S) whole).1.0.next)))
      go K (slot x empty empty) S whole w placed e =
          let q : c ≡ x = only K x empty empty S whole in
          let o : GiveUp get get' i x = rw q at op in
          let kx : (get x).kind ≡ Free = rw q at k in
          let D = whole_distinct K (slot i (slot x empty empty) S) whole in
          let same : (y : ℕ) → In y (slots S) → SameBody (get y) (get' y) =
          λ y m. same_body (o.other y (⊎_elim (λ z. D.0 (inr (rw z at m))) (⊎_elim (λ z. D.1.0 (rw z at m)) (λ f. f)))) in
          swap_settles i K (slot x empty empty) S whole w placed e (slot i empty S) (give_up_swapped get get' n i x o box kx S)
          (give_tree i x S box kx (ap (λ m. m.kind) o.taker) (ap (λ m. m.rect) o.taker) (tree_same get get' S same))

-- MARKING an Alloc slot Free frees it in the tree.
module _ (get get' : ℕ → Seen) (i : ℕ) (op : Rekind get get' i Free) (k : (get i).kind ≡ Alloc) where
  freed_tree : (F : Forest) → merged get' F ≡ freeing (eqb i) (tree_of get F)
  unfolding freeing alloc_first
  freed_tree empty = refl
  freed_tree (slot a C S) = go (ℕ_discrete a i) (freed_tree C) (freed_tree S)
    where
      go : Dec (a ≡ i) → merged get' C ≡ freeing (eqb i) (tree_of get C) → merged get' S ≡ freeing (eqb i) (tree_of get S)
          → merged get' (slot a C S) ≡ freeing (eqb i) (tree_of get (slot a C S))
      go (yes e) c t =
          let e1 : eqb i i ≡ true = eq-eqb i i refl in
          rw (e, ap (λ m. m.kind) op.chosen, ap (λ m. m.rect) op.chosen, k, t, e1) refl
      go (no e) c t =
          let e1 : eqb i a ≡ false = ne_eqb i a (λ q. e (sym q)) in
          freeing_before no_slot (get' a).kind a (get' a).rect (tree_of get' C) (tree_of get' S)
          ∙ rw (op.other a (⊎_elim e (λ m. m)), c, t)
          (ap (λ b. merged_first (get a).kind b a (get a).rect (freeing (eqb i) (tree_of get C)) (freeing (eqb i) (tree_of get S))) (sym e1)
          ∙ sym (freeing_before (eqb i) (get a).kind a (get a).rect (tree_of get C) (tree_of get S)))

  pub rekind_settles : (n root : ℕ) (all : Rectangle) → PlaceChain get n root all → Live get n i → (F : Forest) → Represents get n root F
      → Settles get' n root (freeing (eqb i) (tree_of get F))
  rekind_settles n root all P lv F R =
      let a = at_in get n root i F R all P lv in
      go a.0.gap a.0.below a.0.after a.0.whole a.0.place a.0.placed a.1
    where
      go : (K : Gap) (C S : Forest) → Represents get n root (plug K (slot i C S)) → (w : Rectangle) → PlaceF get (slot i C S) w
          → F ≡ plug K (slot i C S) → Settles get' n root (freeing (eqb i) (tree_of get F))
      go K (slot c B U) S whole w placed e =
          absurd (leaf_bare (get i).kind (slot c B U) (inl k) (rep_fill get n K (slot i (slot c B U) S) none none (get root).orientation whole.along).0.shape)
      go K empty S whole w placed e =
          let h : At get n root i = record { gap = K; below = empty; after = S; whole = whole; place = w; placed = placed } in
          (F, rw e (step_represents get get' n n root i (omega arith) h (slot i empty S) (rekind_swapped get get' n i Free op (inl k) (inr refl) S)), freed_tree F)
