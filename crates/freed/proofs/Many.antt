-- Live tickets freed one after another: the tree is freed of all their slots at once.
-- Assumes nothing.
use Rattle.std.specs.Prelude.{ℕ, ◌<◌, ◌≡◌, refl, Bool, false, ◌||◌, ◌⊎◌, List, [], ◌∷◌, eqb, get_or}
use Rattle.std.proofs.Common.{sym, ◌∙◌, ap, ap₂, inl, inr, ⊎_elim, arith}
use Rattle.slots.specs.Slots.{slot}
use Rattle.tickets.specs.TicketLaws.{ticket_together, ticket_slot, ticket_generation}
use Rattle.tickets.specs.Tickets.{slot_of, ticket_of, generation_of}
use Rattle.tickets.specs.declared.AllocId.{AllocId}
use Rattle.slots.specs.declared.AllocIndex.{AllocIndex}
use Rattle.slots.specs.declared.NodeKind.TheVariants.{Alloc}
use Rattle.steps.specs.State.{State}
use Rattle.sound.specs.View.{none, seen}
use Rattle.sound.specs.Sound.{Sound}
use Rattle.forest.specs.Forest.{Forest, Represents}
use Rattle.forest.specs.Tree.{tree_of}
use Rattle.lent.specs.Lent.{LentOf}
use Rattle.cover.specs.Sums.{rect_at}
use Rattle.frees.specs.Frees.{released}
use Rattle.sound.specs.LiveTickets.{LiveTicket}
use Rattle.freed.specs.Terms.{SameFrame, Among, Tickets, released_each}
use Rattle.freed.specs.Folds.{freeing, freeing_none, fuse}
use Rattle.freed.specs.TidyLaws.{tree_tidy}
use Rattle.freed.proofs.Released.{Frees, release_frees}

-- Two live tickets of the same slot are the same.
pub one_ticket : {s : State} {t u : AllocId} → LiveTicket s t → LiveTicket s u → (slot_of t).0 ≡ (slot_of u).0 → t ≡ u
one_ticket {s} {t} {u} a b e =
    let g : generation_of t ≡ generation_of u = sym a.present ∙ (ap (λ x. get_or s.generations x 0) e ∙ b.present) in
    sym (ticket_together t) ∙ (ap₂ (λ x y. ticket_of (slot x) y) e g ∙ ticket_together u)

-- An Alloc slot below n has a live ticket, of its present generation,
abbrev pub ticket_at : State → ℕ → AllocId
ticket_at s j = ticket_of (slot j) (get_or s.generations j 0)

pub ticket_at_lem : {s : State} → LentOf s → Sound s → (j : ℕ) → j < s.head.count → (seen s.words j).kind ≡ Alloc → LiveTicket s (ticket_at s j)
unfolding seen
ticket_at_lem {s} L S j l a =
    let g = get_or s.generations j 0 in
    let small : j < 16777216 = omega (arith, l, S.rule1.fits, L.few) in
    let e : (slot_of (ticket_at s j)).0 ≡ j = ap (λ (x : AllocIndex). x.0) (ticket_slot (slot j) g small) in
    record { below = rw e l; present = rw (e, ticket_generation (slot j) g small) refl; alloc = rw e a }

-- and a live ticket's slot is Alloc.
pub alloc_seen : {s : State} {t : AllocId} → LiveTicket s t → (seen s.words (slot_of t).0).kind ≡ Alloc
unfolding seen
alloc_seen v = v.alloc

module _ {s t : State} {i : ℕ} {F : Forest} (h : Frees s i F t) where
  -- A live ticket of another slot stays live with its rectangle,
  pub others_live : (u : AllocId) → LiveTicket s u → ((slot_of u).0 ≡ i → ⊥) → LiveTicket t u × (rect_at t (slot_of u).0 ≡ rect_at s (slot_of u).0)
  unfolding seen
  others_live u v e =
      let z = h.allocs (slot_of u).0 e v.alloc in
      (record { below = rw h.same.count v.below; present = rw h.same.generations v.present; alloc = z.0 }, z.1)

  -- and one that is live now was live, and is of another slot.
  pub live_other : (u : AllocId) → LiveTicket t u → ((slot_of u).0 ≡ i → ⊥) × LiveTicket s u
  unfolding seen
  live_other u v =
      let z = h.none_new (slot_of u).0 v.alloc in
      (z.0, record { below = rw h.same.count at v.below; present = rw h.same.generations at v.present; alloc = z.1 })

-- The slots that tickets name, and the test of one.
unfoldable pub names : List AllocId → ℕ → Bool
names [] x = false
names (t ∷ ts) x = eqb (slot_of t).0 x || names ts x

-- Tickets freed one after another, of tables that were the forest F.
pub record FreesEach (s : State) (ts : List AllocId) (F : Forest) (t : State) : Type 0 where
  pub sound : Sound t
  pub lent : LentOf t
  pub same : SameFrame s t
  pub only : (u : AllocId) → LiveTicket t u → LiveTicket s u × (Among u ts → ⊥)
  pub turned : (seen t.words t.head.root.0).orientation ≡ (seen s.words s.head.root.0).orientation
  pub tree : (G : Forest) × Represents (seen t.words) t.head.count t.head.root.0 G × (tree_of (seen t.words) G ≡ freeing (names ts) (tree_of (seen s.words) F))

-- Live tickets but the first are live and different once it is freed.
rest_live : {s u : State} {t : AllocId} {ts : List AllocId} {F : Forest} → Frees s (slot_of t).0 F u → Tickets s (t ∷ ts) → Tickets u ts
rest_live {t = t} h K = record {
  different = K.different.1;
  live = λ x m. (others_live h x (K.live x (inr m)) (λ e. K.different.0 (rw (one_ticket (K.live x (inr m)) (K.live t (inl refl)) e) at m))).0;
}

pub each_frees : (ts : List AllocId) (s : State) → LentOf s → Sound s → Tickets s ts → (F : Forest) → Represents (seen s.words) s.head.count s.head.root.0 F
    → FreesEach s ts F (released_each s ts)
unfolding released_each names
each_frees [] s L S K F R = record {
  sound = S;
  lent = L;
  same = record { sheet = refl; options = refl; root = refl; count = refl; generations = refl };
  only = λ u v. (v, λ m. m);
  turned = refl;
  tree = (F, R, sym (freeing_none (tree_of (seen s.words) F) (tree_tidy (seen s.words) s.head.count S.rule4 none none _ F R.along)));
}
each_frees (t ∷ ts) s L S K F R =
    let v = K.live t (inl refl) in
    let h = release_frees s L S (slot_of t) v.below (alloc_seen v) F R in
    let r = each_frees ts (released s (slot_of t)) h.lent h.sound (rest_live h K) h.tree.0 h.tree.1 in
    record {
      sound = r.sound;
      lent = r.lent;
      same = record {
        sheet = r.same.sheet ∙ h.same.sheet;
        options = r.same.options ∙ h.same.options;
        root = r.same.root ∙ h.same.root;
        count = r.same.count ∙ h.same.count;
        generations = r.same.generations ∙ h.same.generations;
      };
      only = λ u w. let x = r.only u w in let y = live_other h u x.0 in (y.1, ⊎_elim (λ e. y.0 (ap (λ z. (slot_of z).0) e)) x.1);
      turned = r.turned ∙ h.turned;
      tree = (r.tree.0, r.tree.1, r.tree.2 ∙ (ap (freeing (names ts)) h.tree.2 ∙ fuse (names ts) (eqb (slot_of t).0) (tree_of (seen s.words) F)));
    }
