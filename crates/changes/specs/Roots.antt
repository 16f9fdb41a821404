-- Grow's step across the root's orientation: the whole top chain goes under a new root, a Container, with a Free slot after
-- it. Rules 3 and 7 are kept, and the top chain's new place is the join.
-- Assumes nothing.
use Rattle.std.specs.Prelude.{ℕ, ◌≡◌, refl, Bool, true, false, ◌⊎◌, [], ◌∷◌}
use Rattle.std.proofs.Common.{sym, ◌∙◌, ap, inl, inr, ⊎_elim, arith}
use Rattle.std.proofs.lemmas.Bool.{false≢true}
use Rattle.geometry.specs.Rectangles.{flip}
use Rattle.geometry.specs.declared.Orientation.{Orientation}
use Rattle.geometry.specs.declared.Rectangle.{Rectangle}
use Rattle.slots.specs.declared.NodeKind.TheVariants.{Container, Free}
use Rattle.sound.specs.View.{Link, none, to, Seen, Live, in_use}
use Rattle.sound.specs.Rules.{NotEmpty, Adjoin, join, PlaceChain}
use Rattle.sound.specs.Sound.{Linked}
use Rattle.sound.specs.ViewLaws.{no_link}
use Rattle.forest.specs.Flips.{flip_flip}
use Rattle.forest.specs.Pigeon.{In, In-dec}
use Rattle.forest.specs.Forest.{Forest, empty, slot, head, slots, Full, Rep, Represents, in_children, in_after, shape_live}
use Rattle.forest.specs.Bridge.{forest}
use Rattle.forest.specs.Back.{in_live, linked}
use Rattle.changes.specs.Frame.{SameBody, same_body, rep_same, place_same, held_represents, chain_placed, placed_chain}
use Rattle.changes.specs.Lasts.{below_parent, forest_last}
use Rattle.changes.specs.Swaps.{Taken}
use Rattle.changes.specs.Stands.{cell, Stands, leaf_stands}
use Rattle.changes.specs.Stretches.{Grown, free_box}

-- A slot with another parent.
abbrev pub with_parent : Seen → Link → Seen
with_parent m p = cell p m.next m.prev m.kind m.orientation m.rect

-- A new root a over the slots that had no parent, and a new Free slot b after it, both along o. Whatever rectangle a stores, its
-- place is the old top chain's.
pub record NewRoot (get get' : ℕ → Seen) (n a b : ℕ) (o : Orientation) (z t : Rectangle) : Type 0 where
  pub root : get' a ≡ cell none (to b) none Container o z
  pub free : get' b ≡ cell none none (to a) Free o t
  pub top : (j : ℕ) → Live get n j → (get j).parent ≡ none → get' j ≡ with_parent (get j) (to a)
  pub other : (j : ℕ) → (In j (a ∷ b ∷ []) → ⊥) → (Live get n j → (get j).parent ≡ none → ⊥) → get' j ≡ get j

module _ (get get' : ℕ → Seen) (n n' a b : ℕ) (o : Orientation) (z t : Rectangle) (W : Taken get n n' (a ∷ b ∷ [])) (op : NewRoot get get' n a b o z t) where
  -- A live slot had no parent and has a for it, or did not change.
  pub root_moves : (j : ℕ) → Live get n j → (((get j).parent ≡ none) × (get' j ≡ with_parent (get j) (to a))) ⊎ (get' j ≡ get j)
  root_moves j l = go (get j).parent refl
    where
      go : (p : Link) → (get j).parent ≡ p → (((get j).parent ≡ none) × (get' j ≡ with_parent (get j) (to a))) ⊎ (get' j ≡ get j)
      go none e = inl (e, op.top j l e)
      go (to k) e = inr (op.other j (λ w. W.idle j w l) (λ x q. no_link (sym q ∙ e)))

  -- A slot live now is new or was live.
  pub root_live : (j : ℕ) → (In j (a ∷ b ∷ []) → ⊥) → Live get' n' j → Live get n j
  root_live j m l = go (in_use (get j).kind) refl
    where
      go : (k : Bool) → in_use (get j).kind ≡ k → Live get n j
      go true e = (W.counted j l.0 m, e)
      go false e =
          let same : get' j ≡ get j = op.other j m (λ x q. false≢true (sym e ∙ x.1)) in
          absurd (false≢true (sym e ∙ (ap (λ x. in_use x.kind) (sym same) ∙ l.1)))

module _ (get get' : ℕ → Seen) (n n' root a b : ℕ) (z t : Rectangle) (L : Linked get n root) (W : Taken get n n' (a ∷ b ∷ []))
    (op : NewRoot get get' n a b (flip (get root).orientation) z t) where
  -- A live slot below another did not change,
  below_same : (i : ℕ) (v : Link) (o : Orientation) (C : Forest) → Rep get n (to i) v o C → (j : ℕ) → In j (slots C) → get' j ≡ get j
  below_same i v o C r j m =
      op.other j (λ w. W.idle j w (in_live get n (to i) v o C r j m)) (λ l p. below_parent get n i v o C r j m p)

  -- so the top chain is held under its new parent,
  re_parent : (v : Link) (o : Orientation) (F : Forest) → Rep get n none v o F → Rep get' n' (to a) v o F
  re_parent v o empty r = tt
  re_parent v o (slot j C S) r = (
    rw (op.top j (r.0.below, shape_live (get j).kind C r.0.shape) r.0.parent)
        (record {
          below = omega (arith, r.0.below, W.grow);
          parent = refl;
          prev = r.0.prev;
          orientation = r.0.orientation;
          next = r.0.next;
          shape = r.0.shape;
        }),
    rep_same get get' n n' W.grow (to j) none (flip o) C (below_same j none (flip o) C r.1) r.1,
    re_parent (to j) o S r.2,
  )

  -- and each live slot has the body that it had.
  body : (j : ℕ) → Live get n j → SameBody (get j) (get' j)
  body j l =
      ⊎_elim {C = SameBody (get j) (get' j)} (λ h. rw h.1 (record { kind = refl; orientation = refl; rect = refl })) same_body
      (root_moves get get' n n' a b (flip (get root).orientation) z t W op j l)

  module _ (F : Forest) (R : Represents get n root F) (some : NotEmpty t) where
    second : Stands get' n' none (to a) (flip (get root).orientation) b empty none t
    second = leaf_stands get' n' b none none (to a) Free (flip (get root).orientation) t op.free (W.below b (inr (inl refl))) (inr refl) some

    full : (T : Forest) → head T ≡ to root → Full T
    full empty e = no_link e
    full (slot j C S) e = tt

    -- Every live slot is a new one or was live.
    every : (j : ℕ) → Live get' n' j → In j (slots (slot a F (slot b empty empty)))
    every j l = go (In-dec j (a ∷ b ∷ []))
      where
        go : Dec (In j (a ∷ b ∷ [])) → In j (slots (slot a F (slot b empty empty)))
        go (yes m) = ⊎_elim {C = In j (slots (slot a F (slot b empty empty)))} inl (in_after j a F (slot b empty empty)) m
        go (no m) = in_children j a F (slot b empty empty) (R.all j (root_live get get' n n' a b (flip (get root).orientation) z t W op j m l))

    -- The table is the old forest under a, with b after it.
    held : Represents get' n' a (slot a F (slot b empty empty))
    held = held_represents get' n' a (flip (get root).orientation) (slot a F (slot b empty empty)) refl (
      rw op.root
          (record { below = W.below a (inl refl); parent = refl; prev = refl; orientation = refl; next = refl; shape = full F R.from_root }),
      rw (flip_flip (get root).orientation) (re_parent none (get root).orientation F R.along),
      (second.here, tt, tt),
    ) every

  -- The top chain may go under a new root, with a Free slot after it that adjoins its place.
  pub root_grows : (r : Rectangle) → PlaceChain get n root r → NotEmpty t → Adjoin (flip (get root).orientation) r t → Grown get' n' a (join r t)
  root_grows r P some ad =
      let F = forest get n root L in
      let R = F.1 in
      let H = held F.0 R some in
      let inner = place_same get get' F.0 (λ j m. body j (in_live get n none none (get root).orientation F.0 R.along j m)) r (placed_chain get n root F.0 R r P) in
      record {
        links = linked get' n' a (slot a F.0 (slot b empty empty)) H;
        placed = chain_placed get' n' a (slot a F.0 (slot b empty empty)) H (join r t)
            (r, rw op.root inner, (t, (t, (second F.0 R some).place, refl), rw op.root ad, refl));
        lasts = forest_last get' n' a (slot a F.0 (slot b empty empty)) H (free_box (ap (λ m. m.kind) op.free));
      }
