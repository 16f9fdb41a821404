-- Two lists of the same tickets free the same slots, and so leave the same tree: the same live slots with the same contents.
-- Assumes nothing.
use Rattle.std.specs.Prelude.{ℕ, ◌≡◌, refl, Bool, true, false, ◌||◌, ◌↔◌, List, [], ◌∷◌, eqb}
use Rattle.std.proofs.Common.{sym, ◌∙◌, ap, inl, inr, ⊎_elim, eqb-true, eq-eqb}
use Rattle.std.proofs.Math.Path.{fun_ext}
use Rattle.std.proofs.lemmas.Bool.{false≢true}
use Rattle.tickets.specs.Tickets.{slot_of}
use Rattle.tickets.specs.declared.AllocId.{AllocId}
use Rattle.steps.specs.State.{State}
use Rattle.sound.specs.View.{none, seen}
use Rattle.forest.specs.Forest.{Forest, slots, Rep, Represents}
use Rattle.forest.specs.Back.{in_live}
use Rattle.forest.specs.Tree.{tree_of}
use Rattle.freed.specs.Terms.{SameFrame, Among, SameSlots}
use Rattle.freed.specs.Folds.{freeing}
use Rattle.freed.specs.Contents.{forest_of, forest_tree, same_contents}
use Rattle.freed.proofs.Many.{names, FreesEach}

-- THE NAMES. A slot is named where it is that of a ticket among the list.
among_names : (ts : List AllocId) (t : AllocId) → Among t ts → names ts (slot_of t).0 ≡ true
unfolding names
among_names [] t m = absurd m
among_names (u ∷ us) t m =
    ⊎_elim {C = names (u ∷ us) (slot_of t).0 ≡ true}
    (λ e. rw (eq-eqb (slot_of u).0 (slot_of t).0 (ap (λ z. (slot_of z).0) (sym e)))) (λ k. or-true (eqb (slot_of u).0 (slot_of t).0) (among_names us t k)) m
  where
    or-true : (b : Bool) {c : Bool} → c ≡ true → (b || c) ≡ true
    or-true true e = refl
    or-true false e = e

named_among : (ts : List AllocId) (x : ℕ) → names ts x ≡ true → (t : AllocId) × Among t ts × ((slot_of t).0 ≡ x)
unfolding names
named_among [] x e = absurd (false≢true e)
named_among (u ∷ us) x e = go (eqb (slot_of u).0 x) refl e (named_among us x)
  where
    go : (b : Bool) → eqb (slot_of u).0 x ≡ b → (b || names us x) ≡ true → (names us x ≡ true → (t : AllocId) × Among t us × ((slot_of t).0 ≡ x))
        → (t : AllocId) × Among t (u ∷ us) × ((slot_of t).0 ≡ x)
    go true q f rec = (u, inl refl, eqb-true (slot_of u).0 x q)
    go false q f rec = let z = rec f in (z.0, inr z.1, z.2)

names_more : (ts us : List AllocId) → ((t : AllocId) → Among t ts → Among t us) → (x : ℕ) → names ts x ≡ true → names us x ≡ true
names_more ts us h x e = let z = named_among ts x e in rw z.2 at (among_names us z.0 (h z.0 z.1))

same_bit : (a b : Bool) → (a ≡ true → b ≡ true) → (b ≡ true → a ≡ true) → a ≡ b
same_bit true b f g = sym (f refl)
same_bit false true f g = g refl
same_bit false false f g = refl

same_names : (ts us : List AllocId) → ((t : AllocId) → Among t ts ↔ Among t us) → names ts ≡ names us
same_names ts us h =
    fun_ext (λ x. same_bit (names ts x) (names us x) (names_more ts us (λ t. (h t).0) x) (names_more us ts (λ t. (h t).1) x))

-- THE SLOTS. States of the same tree have the same live slots, with the same contents.
module _ (s t : State) (same : SameFrame s t) (G H : Forest)
    (R : Represents (seen s.words) s.head.count s.head.root.0 G) (Q : Represents (seen t.words) t.head.count t.head.root.0 H)
    (turned : (seen t.words t.head.root.0).orientation ≡ (seen s.words s.head.root.0).orientation)
    (tree : tree_of (seen t.words) H ≡ tree_of (seen s.words) G) where
  one_forest : H ≡ G
  one_forest =
      sym (forest_tree (seen t.words) t.head.count none none _ H Q.along) ∙ (ap forest_of tree ∙ forest_tree (seen s.words) s.head.count none none _ G R.along)

  held : Rep (seen t.words) t.head.count none none (seen s.words s.head.root.0).orientation G
  held = rw (← one_forest, ← turned) Q.along

  pub same_slots : SameSlots s t
  same_slots = record {
    same = same;
    lives = λ j. (
      λ l. in_live (seen t.words) t.head.count none none _ G held j (R.all j l),
      λ l. in_live (seen s.words) s.head.count none none _ G R.along j (rw one_forest at (Q.all j l)),
    );
    contents = λ j l.
        same_contents (seen s.words) (seen t.words) s.head.count t.head.count none none _ G R.along held
        (ap (tree_of (seen t.words)) (sym one_forest) ∙ tree) j (R.all j l);
  }

-- ANY ORDER.
pub any_order : {s a b : State} {ts us : List AllocId} {F : Forest} → ((t : AllocId) → Among t ts ↔ Among t us) → FreesEach s ts F a → FreesEach s us F b → SameSlots a b
any_order {s} {a} {b} {ts} {us} {F} m x y =
    same_slots a b
    (record {
      sheet = y.same.sheet ∙ sym x.same.sheet;
      options = y.same.options ∙ sym x.same.options;
      root = y.same.root ∙ sym x.same.root;
      count = y.same.count ∙ sym x.same.count;
      generations = y.same.generations ∙ sym x.same.generations;
    })
    x.tree.0 y.tree.0 x.tree.1 y.tree.1 (y.turned ∙ sym x.turned)
    (y.tree.2 ∙ (ap (λ p. freeing p (tree_of (seen s.words) F)) (sym (same_names ts us m)) ∙ sym x.tree.2))
