-- Sound tables without an Alloc slot have one live slot: the root, Free, with the whole sheet.
-- Assumes nothing but that the tables are sound.
use Rattle.std.specs.Prelude.{ℕ, ◌<◌, ◌≡◌, ◌⊎◌}
use Rattle.std.proofs.Math.Path.{refl, sym, ap}
use Rattle.std.proofs.Common.{◌∙◌, inl, inr}
use Rattle.std.proofs.Math.Logic.{⊎_elim}
use Rattle.geometry.specs.declared.Rectangle.{Rectangle}
use Rattle.slots.specs.declared.NodeKind.{NodeKind}
use Rattle.slots.specs.declared.NodeKind.TheVariants.{Container, Alloc, Free, Unused}
use Rattle.steps.specs.State.{State}
use Rattle.sound.specs.View.{none, Seen, seen}
use Rattle.sound.specs.Sound.{Sound, sheet_of}
use Rattle.sound.specs.ViewLaws.{to_inj, no_link}
use Rattle.forest.specs.Pigeon.{In}
use Rattle.forest.specs.Forest.{Forest, empty, slot, slots, Represents, in_children, in_after}
use Rattle.forest.specs.Back.{in_live}
use Rattle.forest.specs.Bridge.{forest}
use Rattle.forest.specs.Tree.{Tree, end, alloc, free, box, before, tree_of}
use Rattle.changes.specs.Frame.{placed_chain}
use Rattle.changes.specs.Stands.{leaf_was}
use Rattle.freed.specs.Folds.{Tidy}
use Rattle.freed.specs.TidyLaws.{tree_tidy}
use Rattle.freed.specs.Contents.{forest_of, kind_first, kind_first_lem, forest_tree}
use Rattle.freed.specs.Terms.{OneFree}

-- No slot of the tree is Alloc.
abbrev Quiet : Tree → Type 0
Quiet end = Unit {0}
Quiet (alloc i r t) = ⊥
Quiet (free i r t) = Quiet t
Quiet (box i r c t) = Quiet c × Quiet t

quiet_before : (k : NodeKind) (i : ℕ) (r : Rectangle) (c t : Tree) → (k ≡ Alloc → ⊥) → Quiet c → Quiet t → Quiet (before k i r c t)
quiet_before Container i r c t h x y = (x, y)
quiet_before Alloc i r c t h x y = h refl
quiet_before Free i r c t h x y = y
quiet_before Unused i r c t h x y = y

quiet_tree : (get : ℕ → Seen) (F : Forest) → ((j : ℕ) → In j (slots F) → (get j).kind ≡ Alloc → ⊥) → Quiet (tree_of get F)
quiet_tree get empty h = tt
quiet_tree get (slot a C S) h =
    quiet_before (get a).kind a (get a).rect (tree_of get C) (tree_of get S) (h a (inl refl))
    (quiet_tree get C (λ j m. h j (in_children j a C S m))) (quiet_tree get S (λ j m. h j (in_after j a C S m)))

-- A tidy tree without Alloc slots has no slot, or is one Free slot.
quiet_one : (t : Tree) → Tidy t → Quiet t → (t ≡ end) ⊎ ((i : ℕ) × (r : Rectangle) × (t ≡ free i r end))
quiet_one end h q = inl refl
quiet_one (alloc i r t) h q = absurd q
quiet_one (free i r t) h q =
    inr (⊎_elim {C = (j : ℕ) × (u : Rectangle) × (free i r t ≡ free j u end)} (λ e. (i, r, ap (free i r) e)) (λ e. absurd (rw e.2 at h.0)) (quiet_one t h.1 q))
quiet_one (box i r c t) h q = absurd (⊎_elim (λ e. rw e at h.0) (λ e. rw e.2 at h.0) (quiet_one c h.1 q.0))

module _ (s : State) (S : Sound s) (quiet : (j : ℕ) → j < s.head.count → (seen s.words j).kind ≡ Alloc → ⊥) where
  abbrev get : ℕ → Seen
  get = seen s.words

  abbrev n : ℕ
  n = s.head.count

  abbrev root : ℕ
  root = s.head.root.0

  -- One Free slot is the root, and its place the sheet.
  one : (i : ℕ) (r : Rectangle) → Represents get n root (slot i empty empty) → tree_of get (slot i empty empty) ≡ free i r end → OneFree s
  unfolding kind_first
  one i r R e =
      let q : i ≡ root = to_inj R.from_root in
      let k : (get i).kind ≡ Free = sym (kind_first_lem get i (get i).rect end (get i).kind empty R.along.0.shape) ∙ ap kind_first e in
      let w = placed_chain get n root (slot i empty empty) R (sheet_of s.head.sheet) S.rule5 in
      record {
        live = S.rule3.near.root_live;
        only = λ j l. ⊎_elim {C = j ≡ root} (λ z. z ∙ q) (λ z. absurd z) (R.all j l);
        free = rw (← q) k;
        whole = rw (← q) (sym (w.2 ∙ leaf_was get i empty (get i).kind refl (inr k) w.0 w.1));
      }

  grown : (F : Forest) → Represents get n root F → OneFree s
  unfolding forest_of
  grown F R =
      let o = (get root).orientation in
      let q = quiet_tree get F (λ j m. quiet j (in_live get n none none o F R.along j m).0) in
      let is : F ≡ forest_of (tree_of get F) = sym (forest_tree get n none none o F R.along) in
      ⊎_elim {C = OneFree s} (λ e. absurd (bare (is ∙ ap forest_of e)))
      (λ e. alone e.0 e.1 (is ∙ ap forest_of e.2) e.2) (quiet_one (tree_of get F) (tree_tidy get n S.rule4 none none o F R.along) q)
    where
      bare : F ≡ empty → ⊥
      bare e = no_link (rw e at R.from_root)

      alone : (i : ℕ) (r : Rectangle) → F ≡ slot i empty empty → tree_of get F ≡ free i r end → OneFree s
      alone i r e t = one i r (rw e at R) (ap (tree_of get) (sym e) ∙ t)

  pub quiet_one_free : OneFree s
  quiet_one_free = let F = forest get n root S.rule3 in grown F.0 F.1
