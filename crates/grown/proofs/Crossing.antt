-- A new root over the top chain, and a Free slot after it.
-- Assumes nothing.
use Rattle.std.specs.Prelude.{ℕ, ◌≤◌, ◌<◌, ◌≡◌, Bool, true, false, ◌⊎◌, List, [], ◌∷◌, length}
use Rattle.std.proofs.Math.Path.{refl}
use Rattle.std.proofs.Common.{sym, ◌∙◌, ap, inl, inr, ⊎_elim, arith}
use Rattle.std.proofs.lemmas.Bool.{false≢true}
use Rattle.geometry.specs.Rectangles.{flip, no_rect}
use Rattle.geometry.specs.declared.Orientation.{Orientation}
use Rattle.geometry.specs.declared.Rectangle.{Rectangle}
use Rattle.slots.specs.Slots.{slot, none as nowhere}
use Rattle.slots.specs.declared.AllocIndex.{AllocIndex}
use Rattle.slots.specs.declared.NodeKind.TheVariants.{Container, Free}
use Rattle.table.specs.Table.{HasSlot}
use Rattle.steps.specs.Spares.{Fresh, new_node}
use Rattle.steps.specs.State.{State, lists_of}
use Rattle.sound.specs.View.{none, to, link_of, Seen, seen, Live}
use Rattle.sound.specs.Rules.{NotEmpty, Adjoin, join, Visits}
use Rattle.sound.specs.Sound.{Linked}
use Rattle.forest.specs.Pigeon.{In}
use Rattle.links.specs.LinkLaws.{live_is}
use Rattle.links.specs.Links.{live_at}
use Rattle.changes.specs.Stretches.{free_box}
use Rattle.changes.specs.Swaps.{Taken}
use Rattle.changes.specs.Roots.{NewRoot, with_parent, root_moves, root_grows}
use Rattle.changes.specs.TidyGrows.{root_merged}
use Rattle.lent.specs.Lent.{LentOf}
use Rattle.grants.specs.Carves.{pair_under}
use Rattle.granted.specs.NewSlots.{Taking, start_taking, slot_taken, new_has_slot}
use Rattle.granted.specs.SoundFacts.{setup_at, lent_few, lent_slots, lent_room}
use Rattle.granted.specs.Stocked.{Stocked, listed_stocked, push_stocks}
use Rattle.granted.specs.Carved.{piece}
use Rattle.granted.specs.Terms.{spare_at}
use Rattle.granted.specs.Writes.{Pair, pair_writes, slot_link, length_pair}
use Rattle.grants.specs.Grants.{with_lists}
use Rattle.entries.specs.Entries.{entered}
use Rattle.grows.specs.Grows.{with_root, reparented, grown_across}
use Rattle.grown.specs.Fills.{Fills, Carries, Lone}
use Rattle.grown.specs.Changed.{Change}
use Rattle.grown.proofs.Changed.{change_fills, change_carries}
use Rattle.grown.specs.Chains.{top_ends, top_visits, visited_on_top}
use Rattle.grown.specs.Reparents.{length_reparented, reparented_chain}
use Rattle.grown.specs.Restock.{more_stocks}

-- Of a slot only the parent may change.
record SameButParent (m m' : Seen) : Type 0 where
  pub kind : m'.kind ≡ m.kind
  pub next : m'.next ≡ m.next
  pub rect : m'.rect ≡ m.rect

-- THE STORES of a new root: the two slots, then the parent of each slot of the top chain.
module _ (w : List ℕ) (few : length w ≤ 32768) (n n' : ℕ) (root : AllocIndex) (L : Linked (seen w) n root.0) (has : (j : ℕ) → j < n → HasSlot w (slot j))
    (o : Orientation) (a b : AllocIndex) (t : Rectangle) (W : Taken (seen w) n n' (a.0 ∷ b.0 ∷ []))
    (ha : HasSlot w a) (hb : HasSlot w b) (apart : a.0 ≡ b.0 → ⊥) where
  w0 : List ℕ
  w0 = pair_under w nowhere o a Container no_rect b t

  pair : Pair (seen w) (seen w0) none o a.0 Container no_rect b.0 t
  unfolding w0 link_of
  pair = pair_writes w few nowhere o a Container no_rect b t refl ha hb apart

  len0 : length w0 ≡ length w
  unfolding w0
  len0 = length_pair w nowhere o a Container no_rect b t

  -- A slot of the top chain is not a new one.
  old : (j : ℕ) → Live (seen w) n j → seen w0 j ≡ seen w j
  old j l = pair.other j (λ m. W.idle j m l)

  -- What becomes of slot j.
  each : (j : ℕ) → (Visits (λ x. (seen w x).next) j (to root.0) → seen (reparented n w0 a root) j ≡ with_parent (seen w0 j) (link_of a))
      × ((Visits (λ x. (seen w x).next) j (to root.0) → ⊥) → seen (reparented n w0 a root) j ≡ seen w0 j)
  each j =
      let e = top_ends w n root.0 L in
      reparented_chain (λ x. (seen w x).next) a n w0 root (to root.0) e.0 (slot_link w few root (has root.0 L.near.root_live.0)) e.1 e.2
      (λ i v. let z = (visited_on_top w n root.0 L i v).live in (ap (λ (y : Seen). y.next) (old i z), rw len0 (has i z.0))) j

  unseen : (j : ℕ) → In j (a.0 ∷ b.0 ∷ []) → Visits (λ x. (seen w x).next) j (to root.0) → ⊥
  unseen j m v = W.idle j m (visited_on_top w n root.0 L j v).live

  pub root_writes : NewRoot (seen w) (seen (reparented n (pair_under w nowhere o a Container no_rect b t) a root)) n a.0 b.0 o no_rect t
  unfolding w0
  root_writes = record {
    root = (each a.0).1 (unseen a.0 (inl refl)) ∙ pair.first;
    free = (each b.0).1 (unseen b.0 (inr (inl refl))) ∙ pair.last;
    top = λ j l p. (each j).0 (top_visits w n root.0 L j l p) ∙ rw (old j l, slot_link w few a ha);
    other = λ j m p. (each j).1 (λ v. let z = visited_on_top w n root.0 L j v in p z.live z.parent) ∙ pair.other j m;
  }

module _ (s : State) (all : Rectangle) (L : LentOf s) (S : Fills s all) (t : Rectangle)
    (lone : Lone s → ⊥) (some : NotEmpty t) (ad : Adjoin (flip (seen s.words s.head.root.0).orientation) all t) (spare : 2 ≤ spare_at s)
    (f : Fresh) (fresh : f ≡ new_node s.words s.generations s.head) (e : Fresh) (next : e ≡ new_node s.words f.generations f.head) where
  abbrev o : Orientation
  o = (seen s.words s.head.root.0).orientation

  abbrev new : List ℕ
  new = e.taken.0 ∷ f.taken.0 ∷ []

  w' : List ℕ
  w' = reparented s.head.count (pair_under s.words nowhere (flip o) e.taken Container no_rect f.taken t) e.taken s.head.root

  -- The new slots,
  T : Taking s.words s.generations s.head new e.generations e.head
  T = slot_taken L.few (slot_taken L.few (start_taking s.words s.generations s.head S.rule2 S.rule1.fits) f fresh (omega arith)) e next (omega arith)

  len : length w' ≡ length s.words
  unfolding w'
  len = length_reparented s.head.count _ e.taken s.head.root ∙ length_pair s.words nowhere (flip o) e.taken Container no_rect f.taken t

  -- the stores,
  writes : NewRoot (seen s.words) (seen w') s.head.count e.taken.0 f.taken.0 (flip o) no_rect t
  unfolding w'
  writes =
      root_writes s.words (lent_few s L) s.head.count e.head.count s.head.root S.rule3 (λ j b. omega (arith, S.rule1.fits, lent_slots s L))
      (flip o) e.taken f.taken t T.taken (new_has_slot L.few T (lent_slots s L) e.taken.0 (inl refl))
      (new_has_slot L.few T (lent_slots s L) f.taken.0 (inr (inl refl))) (λ q. T.distinct.0 (inl q))

  -- Of any slot but the new ones at most the parent changes.
  was : (j : ℕ) → (In j new → ⊥) → SameButParent (seen s.words j) (seen w' j)
  was j m = go (live_at s.words s.head.count j) refl
    where
      go : (b : Bool) → live_at s.words s.head.count j ≡ b → SameButParent (seen s.words j) (seen w' j)
      go true q =
          ⊎_elim {C = SameButParent (seen s.words j) (seen w' j)} (λ h. rw h.1 (record { kind = refl; next = refl; rect = refl }))
          (λ h. rw h (record { kind = refl; next = refl; rect = refl }))
          (root_moves (seen s.words) (seen w') s.head.count e.head.count e.taken.0 f.taken.0 (flip o) no_rect t T.taken writes j
          ((live_is s.words s.head.count j).0 q))
      go false q =
          let same : seen w' j ≡ seen s.words j = writes.other j m (λ l _. false≢true (sym q ∙ (live_is s.words s.head.count j).1 l)) in
          rw same (record { kind = refl; next = refl; rect = refl })

  -- what changes,
  changes : Change s.words w' e.head.count e.taken.0 new (join all t)
  changes = record {
    grown = root_grows (seen s.words) (seen w') s.head.count e.head.count s.head.root.0 e.taken.0 f.taken.0 no_rect t S.rule3 T.taken writes
        all S.rule5 some ad;
    merged = root_merged (seen s.words) (seen w') s.head.count e.head.count s.head.root.0 e.taken.0 f.taken.0 (flip o) no_rect t
        S.rule3 T.taken writes (λ k x. lone (k, x)) S.rule4;
    words = len;
    new_kind = λ j m. ⊎_elim {C = ((seen w' j).kind ≡ Container) ⊎ ((seen w' j).kind ≡ Free)} (λ q. inl (rw q (ap (λ (z : Seen). z.kind) writes.root)))
        (⊎_elim {C = ((seen w' j).kind ≡ Container) ⊎ ((seen w' j).kind ≡ Free)} (λ q. inr (rw q (ap (λ (z : Seen). z.kind) writes.free))) (λ z. absurd z)) m;
    kind = λ j m. (was j m).kind;
    next = λ j d m. (was j m).next;
    rect = λ j m a. (was j m).rect;
    wider = λ j m a. rw (was j m).rect (omega arith, omega arith);
  }

  -- and the new entry.
  entry_new : Stocked w' e.head.count (setup_at s) (lists_of s) (entered w' (setup_at s) f.taken t (lists_of s)) []
  entry_new =
      push_stocks w' e.head.count (setup_at s) (lists_of s) (rw len (let k = T.fits in omega (arith, lent_slots s L))) (rw len (lent_few s L)) (λ b. rw len (lent_room s L b))
      (piece f.taken.0 t) (more_stocks (f.taken.0 ∷ []) (listed_stocked S.rule1 S.rule6) T.taken.grow still)
      (T.taken.below f.taken.0 (inr (inl refl))) (ap (λ (z : Seen). z.rect) writes.free)
    where
      still : (j : ℕ) → j < e.head.count → (seen w' j).kind ≡ Free → (In j (f.taken.0 ∷ []) → ⊥)
          → (j < s.head.count) × ((seen s.words j).kind ≡ Free) × ((seen w' j).rect ≡ (seen s.words j).rect)
      still j b k m =
          let out : In j new → ⊥ = ⊎_elim (λ q. free_box k (rw q (ap (λ (z : Seen). z.kind) writes.root))) m in
          (T.taken.counted j b out, sym (was j out).kind ∙ k, (was j out).rect)

  crosses : Fills (with_lists (with_root e.head e.taken) w' e.generations (entered w' (setup_at s) f.taken t (lists_of s))) (join all t)
      × Carries s (with_lists (with_root e.head e.taken) w' e.generations (entered w' (setup_at s) f.taken t (lists_of s))) 2
  crosses = (change_fills L S T e.taken changes entry_new, change_carries L S T e.taken changes entry_new)

-- ACROSS: a new root over a top chain that is not one Free slot, with a Free slot after it that adjoins its place, keeps every rule.
pub cross_steps : (s : State) (all : Rectangle) → LentOf s → Fills s all → (t : Rectangle)
    → (Lone s → ⊥) → NotEmpty t → Adjoin (flip (seen s.words s.head.root.0).orientation) all t → 2 ≤ spare_at s
    → Fills (grown_across s t) (join all t) × Carries s (grown_across s t) 2
unfolding grown_across seen w'
cross_steps s all L S t lone some ad spare = crosses s all L S t lone some ad spare _ refl _ refl
