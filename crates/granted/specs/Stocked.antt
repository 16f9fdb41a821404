-- The free lists through an allocate, as rules 1 and 6 speak of them, but for the slots that are still to be pushed.
-- Assumes nothing.
use Rattle.std.specs.Prelude.{ℕ, ◌*◌, ◌≤◌, ◌<◌, ◌≡◌, true, length, get_or}
use Rattle.std.proofs.Common.{sym, ◌∙◌, ap, inl, inr, ⊎_elim, arith}
use mathlib.Core.List.{List, [], ◌∷◌}
use Rattle.std.proofs.Math.Decide.{ℕ_discrete}
use Rattle.geometry.specs.Rectangles.{width_of, height_of}
use Rattle.geometry.specs.Sides.{setup_of}
use Rattle.geometry.specs.declared.Bucket.{Bucket}
use Rattle.geometry.specs.declared.Extent.{Extent}
use Rattle.geometry.specs.declared.Rectangle.{Rectangle}
use Rattle.geometry.specs.declared.Setup.{Setup}
use Rattle.slots.specs.Slots.{slot}
use Rattle.slots.specs.declared.NodeKind.TheVariants.{Free}
use Rattle.lists.specs.Counts.{occurrences}
use Rattle.buckets.specs.FreeLists.{Lists, list_of, with_list, removed_from}
use Rattle.buckets.specs.FreeListLaws.{list_of_with_list_same, with_list_elim}
use Rattle.lists.specs.Lists.{Bag, removed, free_entry}
use Rattle.pushes.specs.Pushes.{pushed, Pushable}
use Rattle.lists.specs.OccurrenceLaws.{removed_others, place_occurs, occurs_at}
use Rattle.pushes.proofs.PushedLaws.{push_enters, push_keeps_free}
use Rattle.search.specs.FindLaws.{ideal_of}
use Rattle.search.proofs.FindLaws.{search_keeps_free}
use Rattle.choices.specs.Choices.{Searched, Searchable}
use Rattle.search.specs.Search.{find_suitable}
use Rattle.steps.specs.State.{State, lists_of}
use Rattle.sound.specs.View.{seen}
use Rattle.sound.specs.Sound.{Counted, Listed, Sound, HasEntry}
use Rattle.forest.specs.Pigeon.{In, In-dec}
use Rattle.changes.specs.Swaps.{Taken}
use Rattle.entries.specs.Entries.{entered}
use Rattle.grants.specs.Grants.{pieces_entered}
use Rattle.grants.specs.declared.CutSlots.{CutSlots}
use Rattle.grants.specs.declared.Shape.{Shape}
use Rattle.grants.specs.declared.Shape.TheVariants.{Exact, Along, AlongLeft, Across, AcrossLeft}
use Rattle.cuts.specs.declared.Cut.{Cut}
use Rattle.granted.specs.Members.{AllOf}
use Rattle.granted.specs.Filed.{Filed, counted_filed, filed_more, search_filed, removed_filed, filed_pushable, pushed_filed}
use Rattle.granted.specs.Carved.{Piece, slots_of, Hold, Became, request, box, free, Carving}
use Rattle.granted.specs.TableCut.{pieces_of}

-- The bucket of slot x's rectangle.
abbrev pub bucket_at : List ℕ → Setup → ℕ → Bucket
bucket_at w s x = ideal_of s (width_of (seen w x).rect) (height_of (seen w x).rect)

-- Filed lists that have an entry, in its own bucket's list, of each Free slot below n but those still to be pushed.
pub record Stocked (w : List ℕ) (n : ℕ) (s : Setup) (was l : Lists) (still : List ℕ) : Type 0 where
  pub filed : Filed n was l
  pub listed : (x : ℕ) → x < n → (seen w x).kind ≡ Free → (In x still → ⊥) → 0 < occurrences x (list_of (bucket_at w s x) l)

-- A Free slot's entry is one of a Free slot.
free_entry_lem : (w : List ℕ) (x : ℕ) → (seen w x).kind ≡ Free → free_entry w x ≡ true
unfolding seen
free_entry_lem w x e = rw e

-- So are the lists of tables that keep rules 1 and 6, as sound ones do,
pub listed_stocked : {s : State} → Counted s → Listed s → Stocked s.words s.head.count (setup_of s.head.sheet s.head.options) (lists_of s) (lists_of s) []
listed_stocked {s} C E = record {
  filed = counted_filed C;
  listed = λ x l f m. let k = E x l f in place_occurs x (list_of (bucket_at s.words (setup_of s.head.sheet s.head.options) x) (lists_of s)) k.0 k.1 k.2;
}

pub sound_stocked : {s : State} → Sound s → Stocked s.words s.head.count (setup_of s.head.sheet s.head.options) (lists_of s) (lists_of s) []
sound_stocked S = listed_stocked S.rule1 S.rule6

-- and lists with nothing still to be pushed have an entry of each Free slot.
pub stocked_entry : {w : List ℕ} {n : ℕ} {s : Setup} {was l : Lists} → Stocked w n s was l []
    → (x : ℕ) → x < n → (seen w x).kind ≡ Free → HasEntry x (list_of (bucket_at w s x) l)
stocked_entry {w} {n} {s} {was} {l} K x h f =
    occurs_at x (list_of (bucket_at w s x) l) (K.listed x h f (λ m. m)) (λ k a b. (k, a, b))

-- SEARCH. Entries of Free slots stay.
pub search_stocks : {w : List ℕ} {n : ℕ} {s : Setup} {was l : Lists} → Stocked w n s was l [] → Searchable w l
    → (e : Extent) (f : Searched) → f ≡ find_suitable w s e l → Stocked w n s was f.lists []
search_stocks {w} {n} {s} {was} {l} K R e f q = record {
  filed = search_filed w s e f q R K.filed;
  listed = λ x h y m. rw (search_keeps_free w s e l f q R (bucket_at w s x) x (free_entry_lem w x y)) (K.listed x h y m);
}

-- REMOVAL of the chosen slot's entry, once the slot is cut up: its Free pieces are still to be pushed.
pub removal_stocks : {w w' : List ℕ} {n n' root i a : ℕ} {new : List ℕ} {pieces : List Piece} {q : Rectangle} {s : Setup} {was l : Lists}
    → Stocked w n s was l [] → Taken (seen w) n n' new → Carving (seen w) (seen w') n n' root i a new pieces q
    → (b : Bucket) (k : ℕ) → k < (list_of b l).len → get_or (list_of b l).table k 0 ≡ i → Stocked w' n' s was (removed_from b k l) (slots_of pieces)
removal_stocks {w} {w'} {n} {n'} {root} {i} {a} {new} {pieces} {q} {s} {was} {l} K W C b k p e = record {
  filed = filed_more W.grow (removed_filed b k p K.filed);
  listed = λ x h f m. still x h f m (In-dec x (i ∷ new));
}
  where
    was_free : (x : ℕ) → Became (seen w') a pieces x → (seen w' x).kind ≡ Free → In x (slots_of pieces)
    was_free x (request y z) f = let z : ◌≡◌ {A = ℕ} 0 1 = cc in absurd (omega arith)
    was_free x (box z) f = let z : ◌≡◌ {A = ℕ} 0 1 = cc in absurd (omega arith)
    was_free x (free z m) f = m

    still : (x : ℕ) → x < n' → (seen w' x).kind ≡ Free → (In x (slots_of pieces) → ⊥) → Dec (In x (i ∷ new))
        → 0 < occurrences x (list_of (bucket_at w' s x) (removed_from b k l))
    still x h f m (yes y) = absurd (m (was_free x (C.written x y) f))
    still x h f m (no y) =
        let same = C.others x y in
        let had = K.listed x (W.counted x h (λ z. y (inr z))) (sym (ap (λ z. z.kind) same) ∙ f) (λ z. z) in
        rw same
        (with_list_elim (λ c (r : Bag). 0 < occurrences x (list_of c l) → 0 < occurrences x r) b (removed (list_of b l) k) l
        (λ o. rw (removed_others x (list_of b l) k p (K.filed.within b) (λ z. y (inl (sym z ∙ e)))) o) (λ c o. o) (bucket_at w s x) had)

-- PUSH. Each Free piece gets its entry, and no Free slot loses all of its own.
module _ (w : List ℕ) (n : ℕ) (s : Setup) (was : Lists) (slots : n * 8 ≤ length w) (few : length w ≤ 32768)
    (room : (b : Bucket) → length w ≤ length (list_of b was).table * 8) where
  pub push_stocks : {l : Lists} {still : List ℕ} (p : Piece) → Stocked w n s was l (p.slot ∷ still) → p.slot < n → (seen w p.slot).rect ≡ p.rect
      → Stocked w n s was (entered w s (slot p.slot) p.rect l) still
  push_stocks {l} {still} p K h r = record {
    filed = pushed_filed w slots few room v h b K.filed;
    listed = λ x g f m. entry x g f m (ℕ_discrete x v);
  }
    where
      v : ℕ
      v = p.slot

      b : Bucket
      b = ideal_of s (width_of p.rect) (height_of p.rect)

      can : Pushable w v (list_of b l)
      can = filed_pushable w slots few room v h b K.filed

      entry : (x : ℕ) → x < n → (seen w x).kind ≡ Free → (In x still → ⊥) → Dec (x ≡ v)
          → 0 < occurrences x (list_of (bucket_at w s x) (with_list b (pushed w v (list_of b l)) l))
      entry x g f m (yes e) = rw (e, r, list_of_with_list_same b (pushed w v (list_of b l)) l) (push_enters w v (list_of b l) can)
      entry x g f m (no e) =
          with_list_elim (λ c (y : Bag). 0 < occurrences x (list_of c l) → 0 < occurrences x y) b (pushed w v (list_of b l)) l
          (λ o. push_keeps_free w v (list_of b l) can x o (free_entry_lem w x f)) (λ c o. o) (bucket_at w s x) (K.listed x g f (⊎_elim e m))

  -- All pieces, in order.
  unfoldable entered_all : List Piece → Lists → Lists
  entered_all [] l = l
  entered_all (p ∷ ps) l = entered_all ps (entered w s (slot p.slot) p.rect l)

  all_stock : {l : Lists} (ps : List Piece) → Stocked w n s was l (slots_of ps) → AllOf (λ x. x < n) (slots_of ps) → Hold (seen w) ps
      → Stocked w n s was (entered_all ps l) []
  unfolding entered_all
  all_stock [] K h r = K
  all_stock {l = l} (p ∷ ps) K h r = all_stock {l = entered w s (slot p.slot) p.rect l} ps (push_stocks p K h.0 r.0) h.1 r.1

  -- So after the pushes of a shape every Free slot has an entry.
  pub pieces_stock : {l : Lists} (shape : Shape) (m : CutSlots) (c : Cut) → Stocked w n s was l (slots_of (pieces_of shape m c))
      → AllOf (λ x. x < n) (slots_of (pieces_of shape m c)) → Hold (seen w) (pieces_of shape m c) → Stocked w n s was (pieces_entered shape w s m c l) []
  unfolding entered_all pieces_entered
  pieces_stock Exact m c = all_stock (pieces_of Exact m c)
  pieces_stock Along m c = all_stock (pieces_of Along m c)
  pieces_stock AlongLeft m c = all_stock (pieces_of AlongLeft m c)
  pieces_stock Across m c = all_stock (pieces_of Across m c)
  pieces_stock AcrossLeft m c = all_stock (pieces_of AcrossLeft m c)
