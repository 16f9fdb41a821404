-- A Free slot stretched: a lone Free root to any rectangle, the last slot of the top chain by a rectangle that adjoins it.
-- Assumes nothing.
use Rattle.std.specs.Prelude.{ℕ, ◌≡◌, refl, true, false, List, []}
use Rattle.std.proofs.Common.{sym, ◌∙◌, ap, inl, inr, ⊎_elim, arith}
use Rattle.std.proofs.lemmas.Bool.{false≢true}
use Rattle.std.proofs.Math.Decide.{ℕ_discrete}
use Rattle.geometry.specs.declared.Orientation.{Orientation}
use Rattle.geometry.specs.declared.Orientation.TheVariants.{Vertical, Horizontal}
use Rattle.geometry.specs.declared.Rectangle.{Rectangle}
use Rattle.slots.specs.declared.AllocIndex.{AllocIndex}
use Rattle.slots.specs.declared.NodeKind.TheVariants.{Free}
use Rattle.table.specs.Table.{HasSlot}
use Rattle.stores.specs.Stores.{stored, to_rect}
use Rattle.stores.proofs.StoreLaws.{length_stored}
use Rattle.steps.specs.State.{State, lists_of}
use Rattle.sound.specs.View.{none, Seen, seen, Live}
use Rattle.sound.specs.Rules.{NotEmpty, Adjoin, join}
use Rattle.changes.specs.Stretches.{Grown}
use Rattle.changes.specs.Grows.{Stretch, lone_grows, stretch_grows}
use Rattle.changes.specs.TidyGrows.{stretch_merged}
use Rattle.lone.specs.LoneLaws.{lone_rect}
use Rattle.lent.specs.Lent.{LentOf}
use Rattle.granted.specs.NewSlots.{start_taking}
use Rattle.granted.specs.SoundFacts.{setup_at, lent_few, lent_slots, lent_room}
use Rattle.granted.specs.Stocked.{Stocked, listed_stocked, push_stocks}
use Rattle.granted.specs.Carved.{piece}
use Rattle.granted.specs.Writes.{seen_same, seen_other}
use Rattle.moves.specs.Moves.{moved}
use Rattle.grows.specs.Grows.{stretched}
use Rattle.grown.specs.Fills.{Fills, NoSmaller, Carries, Lone, Roots}
use Rattle.grown.specs.Changed.{Change}
use Rattle.grown.proofs.Changed.{not_alloc, change_fills, change_carries}
use Rattle.grown.specs.Restock.{forget_stocks}

-- The rectangle of a Free slot stored.
pub rect_writes : (w : List ℕ) (i : AllocIndex) (q : Rectangle) → HasSlot w i → (seen w i.0).kind ≡ Free → Stretch (seen w) (seen (stored w i (to_rect q))) i.0 q
unfolding seen
rect_writes w i q h f = record {
  chosen = seen_same w i (to_rect q) h ∙ rw f;
  other = λ j m. seen_other w i (to_rect q) j (λ e. m (inl e));
}

module _ (s : State) (all : Rectangle) (L : LentOf s) (S : Fills s all) (i : AllocIndex) (r : Rectangle)
    (lv : Live (seen s.words) s.head.count i.0) (free : (seen s.words i.0).kind ≡ Free) where
  abbrev w' : List ℕ
  w' = stored s.words i (to_rect r)

  -- The store,
  pub stretch_writes : Stretch (seen s.words) (seen w') i.0 r
  stretch_writes = rect_writes s.words i r (let e = L.eight in let f = S.rule1.fits in let z = lv.0 in omega arith) free

  -- what it changes,
  stretch_changes : {now : Rectangle} → NoSmaller (seen s.words i.0).rect r → Grown (seen w') s.head.count s.head.root.0 now
      → Change s.words w' s.head.count s.head.root.0 [] now
  stretch_changes large G =
      let op = stretch_writes in
      record {
        grown = G;
        merged = stretch_merged (seen s.words) (seen w') s.head.count i.0 r op free S.rule4;
        words = length_stored s.words i (to_rect r);
        new_kind = λ j m. absurd m;
        kind = λ j m. by j (ℕ_discrete j i.0);
        next = λ j d m. ap (λ (z : Seen). z.next) (op.other j (⊎_elim (λ e. false≢true (sym d.1 ∙ rw e lv.1)) (λ z. z)));
        rect = λ j m a. ap (λ (z : Seen). z.rect) (op.other j (⊎_elim (λ e. not_alloc (rw e at a) (inr free)) (λ z. z)));
        wider = λ j m a. large_by j (ℕ_discrete j i.0);
      }
    where
      large_by : (j : ℕ) → Dec (j ≡ i.0) → NoSmaller (seen s.words j).rect (seen w' j).rect
      large_by j (yes e) = rw (e, stretch_writes.chosen) large
      large_by j (no e) = rw (stretch_writes.other j (⊎_elim e (λ z. z))) (omega arith, omega arith)

      by : (j : ℕ) → Dec (j ≡ i.0) → (seen w' j).kind ≡ (seen s.words j).kind
      by j (yes e) = rw e (ap (λ (z : Seen). z.kind) stretch_writes.chosen ∙ sym free)
      by j (no e) = ap (λ (z : Seen). z.kind) (stretch_writes.other j (⊎_elim e (λ z. z)))

  -- and the moved entry.
  entry_moves : Stocked w' s.head.count (setup_at s) (lists_of s) (moved w' (setup_at s) i r (lists_of s)) []
  entry_moves =
      let len = length_stored s.words i (to_rect r) in
      let f = S.rule1.fits in
      push_stocks w' s.head.count (setup_at s) (lists_of s) (rw len (omega (arith, lent_slots s L))) (rw len (lent_few s L)) (λ b. rw len (lent_room s L b))
      (piece i.0 r) (forget_stocks i.0 (listed_stocked S.rule1 S.rule6) stretch_writes.other) lv.0 (ap (λ (z : Seen). z.rect) stretch_writes.chosen)

  -- A STRETCH that takes the top chain to a new place keeps every rule.
  pub stretch_steps : {now : Rectangle} → NoSmaller (seen s.words i.0).rect r → Grown (seen w') s.head.count s.head.root.0 now
      → Fills (stretched s i r) now × Carries s (stretched s i r) 0
  unfolding stretched
  stretch_steps large G =
      let T = start_taking s.words s.generations s.head S.rule2 S.rule1.fits in
      let C = stretch_changes large G in
      (change_fills L S T s.head.root C entry_moves, change_carries L S T s.head.root C entry_moves)

-- A LONE FREE ROOT, whose rectangle is all that the top chain fills, may get any that is no smaller.
pub lone_steps : (s : State) (all : Rectangle) → LentOf s → Fills s all → (q : Rectangle) → NotEmpty q → NoSmaller all q
    → (seen s.words s.head.root.0).kind ≡ Free → (seen s.words s.head.root.0).next ≡ none
    → Fills (stretched s s.head.root q) q × Carries s (stretched s s.head.root q) 0
lone_steps s all L S q some large free x =
    let lv = S.rule3.near.root_live in
    stretch_steps s all L S s.head.root q lv free (rw (lone_rect S.rule5 free x) large)
    (lone_grows (seen s.words) (seen (stored s.words s.head.root (to_rect q))) s.head.count s.head.root.0 S.rule3 all S.rule5
    q (stretch_writes s all L S s.head.root q lv free) free x some)

-- A rectangle joined with one that adjoins it is no smaller.
joined_larger : (o : Orientation) (r t : Rectangle) → NotEmpty t → Adjoin o r t → NoSmaller r (join r t)
joined_larger Vertical r t some ad = (omega (arith, ad.2), omega (arith, ad.0, some.1))
joined_larger Horizontal r t some ad = (omega (arith, ad.0, some.0), omega (arith, ad.2))

-- THE LAST SLOT of the top chain, if Free, may be stretched.
pub last_steps : (s : State) (all : Rectangle) → LentOf s → Fills s all → (i : AllocIndex) (t : Rectangle) → Live (seen s.words) s.head.count i.0
    → (seen s.words i.0).kind ≡ Free → (seen s.words i.0).parent ≡ none → (seen s.words i.0).next ≡ none
    → NotEmpty t → Adjoin (seen s.words i.0).orientation (seen s.words i.0).rect t
    → Adjoin (seen s.words s.head.root.0).orientation all t × Fills (stretched s i (join (seen s.words i.0).rect t)) (join all t)
    × Carries s (stretched s i (join (seen s.words i.0).rect t)) 0
last_steps s all L S i t lv free p x some ad =
    let q = join (seen s.words i.0).rect t in
    let g = stretch_grows (seen s.words) (seen (stored s.words i (to_rect q))) s.head.count s.head.root.0 S.rule3 all S.rule5
    i.0 t (stretch_writes s all L S i q lv free) lv free p x some ad in
    let z = stretch_steps s all L S i q lv free (joined_larger (seen s.words i.0).orientation (seen s.words i.0).rect t some ad) g.1 in
    (g.0, z.0, z.1)

-- The root is another slot, if it is no lone Free one.
pub last_roots : (s : State) (all : Rectangle) → LentOf s → Fills s all → (i : AllocIndex) (q : Rectangle) → Live (seen s.words) s.head.count i.0
    → (seen s.words i.0).kind ≡ Free → (seen s.words i.0).next ≡ none → (Lone s → ⊥) → Roots s (stretched s i q)
unfolding stretched
last_roots s all L S i q lv free x lone =
    let same = (stretch_writes s all L S i q lv free).other s.head.root.0 (⊎_elim (λ e. lone (rw e free, rw e x)) (λ z. z)) in
    record { orientation = rw same refl; lone = λ z. lone (rw same at z.0, rw same at z.1) }
