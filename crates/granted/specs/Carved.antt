-- The cut of a Free slot, whatever its shape: rules 3, 4, 5 and 7 are kept, and every slot written is the request's, a Container
-- or a Free piece.
-- Assumes nothing.
use Rattle.std.specs.Prelude.{ℕ, ◌≡◌, refl, true, List, [], ◌∷◌}
use Rattle.std.proofs.Common.{sym, ◌∙◌, ap, inl, inr, ⊎_elim}
use Rattle.std.proofs.Math.Decide.{ℕ_discrete}
use Rattle.geometry.specs.declared.Rectangle.{Rectangle}
use Rattle.slots.specs.declared.NodeKind.TheVariants.{Container, Alloc, Free}
use Rattle.sound.specs.View.{Link, none, to, Seen, Live, in_use}
use Rattle.sound.specs.Rules.{NotEmpty, PlaceChain, it}
use Rattle.sound.specs.Sound.{Linked, Merged}
use Rattle.sound.specs.ViewLaws.{to_inj, no_link}
use Rattle.forest.specs.Pigeon.{In}
use Rattle.forest.specs.Spare.{chain_visits_once}
use Rattle.changes.specs.Swaps.{with_prev, Elsewhere, Taken, Kept}
use Rattle.changes.specs.Merges.{Rekind, rekind_keeps}
use Rattle.changes.specs.Grants.{Along, AlongLeft, Across, AcrossLeft, along_keeps, along_left_keeps, across_keeps, across_left_keeps}
use Rattle.changes.specs.Tidy.{exact_merged, along_merged, along_left_merged, across_merged, across_left_merged}
use Rattle.granted.specs.Members.{all_of}

-- A Free piece of a cut: its slot and its rectangle.
pub record Piece : Type 0 where
  pub slot : ℕ
  pub rect : Rectangle

abbrev pub piece : ℕ → Rectangle → Piece
piece i r = record { slot = i; rect = r }

-- The slots of some pieces, and that each holds its rectangle.
abbrev pub slots_of : List Piece → List ℕ
slots_of [] = []
slots_of (p ∷ ps) = p.slot ∷ slots_of ps

abbrev pub Hold : (ℕ → Seen) → List Piece → Type 0
Hold get [] = Unit {0}
Hold get (p ∷ ps) = ((get p.slot).rect ≡ p.rect) × Hold get ps

-- What became of a slot that a cut writes: the request's Alloc, a Container, or a Free piece.
pub data Became (get' : ℕ → Seen) (a : ℕ) (pieces : List Piece) (j : ℕ) : Type 0 where
  request : j ≡ a → (get' j).kind ≡ Alloc → Became get' a pieces j
  box : (get' j).kind ≡ Container → Became get' a pieces j
  free : (get' j).kind ≡ Free → In j (slots_of pieces) → Became get' a pieces j

-- Slot i is cut up for a request at q, whose slot is a; new slots are taken, and some of these are the Free pieces.
pub record Carving (get get' : ℕ → Seen) (n n' root i a : ℕ) (new : List ℕ) (pieces : List Piece) (q : Rectangle) : Type 0 where
  -- Rules 3, 5 and 7, and rule 4.
  pub kept : Kept get get' n n' root
  pub merged : Merged get' n'
  -- The request's slot, what the other slots written are, and that no other slot changed but for a prev.
  pub alloc : In a (i ∷ new) × ((get' a).kind ≡ Alloc) × ((get' a).rect ≡ q)
  pub written : (j : ℕ) → In j (i ∷ new) → Became get' a pieces j
  pub pieces_hold : Hold get' pieces
  pub others : (j : ℕ) → (In j (i ∷ new) → ⊥) → get' j ≡ with_prev (get j) (get' j).prev

-- Every slot written is in use.
pub written_used : {get get' : ℕ → Seen} {n n' root i a : ℕ} {new : List ℕ} {pieces : List Piece} {q : Rectangle}
    → Carving get get' n n' root i a new pieces q → (j : ℕ) → In j (i ∷ new) → in_use (get' j).kind ≡ true
written_used {get' = get'} {a = a} {pieces = pieces} C j m = go (C.written j m)
  where
    go : Became get' a pieces j → in_use (get' j).kind ≡ true
    go (request e k) = ap in_use k
    go (box k) = ap in_use k
    go (free k x) = ap in_use k

-- A slot that a step did not write is as it was, but perhaps for its prev.
pub same_prev : {m m' : Seen} → m' ≡ m → m' ≡ with_prev m m'.prev
same_prev e = rw e

pub but_prev : {get get' : ℕ → Seen} {written : List ℕ} {x v : Link} → Elsewhere get get' written x v
    → (j : ℕ) → (In j written → ⊥) → get' j ≡ with_prev (get j) (get' j).prev
but_prev {get} {get'} {written} {x} {v} E j m = go x refl
  where
    go : (l : Link) → x ≡ l → get' j ≡ with_prev (get j) (get' j).prev
    go none e = same_prev (E.other j m (λ y. no_link (sym e ∙ y)))
    go (to k) e = at (ℕ_discrete j k)
      where
        at : Dec (j ≡ k) → get' j ≡ with_prev (get j) (get' j).prev
        at (yes q) = rw (E.moved j (e ∙ ap to (sym q)))
        at (no q) = same_prev (E.other j m (λ y. q (to_inj (sym y ∙ e))))

-- The slots that a step took, in another order.
reordered : {get : ℕ → Seen} {n n' : ℕ} {xs ys : List ℕ} → ((j : ℕ) → In j ys → In j xs) → ((j : ℕ) → In j xs → In j ys)
    → Taken get n n' xs → Taken get n n' ys
reordered f b W = record {
  grow = W.grow;
  below = λ j m. W.below j (f j m);
  idle = λ j m. W.idle j (f j m);
  counted = λ j l m. W.counted j l (λ x. m (b j x));
}

-- The next of a live slot is not the slot itself and not new.
pub next_apart : {get : ℕ → Seen} {n n' root i : ℕ} → Linked get n root → Live get n i → (new : List ℕ) → Taken get n n' new
    → (j : ℕ) → (get i).next ≡ to j → In j (i ∷ new) → ⊥
next_apart {i = i} L lv new W j e m =
    ⊎_elim (λ (x : j ≡ i). chain_visits_once (L.nexts_end i lv) i it (rw (e, x) it)) (λ x. W.idle j x (L.near.next_live i j lv e)) m

-- EACH SHAPE
module _ {get get' : ℕ → Seen} {n root i : ℕ} {q all : Rectangle} (L : Linked get n root) (M : Merged get n) (P : PlaceChain get n root all)
    (lv : Live get n i) (free-i : (get i).kind ≡ Free) where
  -- The request fills the slot.
  pub exact_carving : Rekind get get' i Alloc → q ≡ (get i).rect → Carving get get' n n root i i [] [] q
  exact_carving op e = record {
    kept = rekind_keeps get get' n root L all P i Alloc op lv (inr free-i) (inl refl);
    merged = exact_merged get get' n n root i L M lv free-i op;
    alloc = (inl refl, ap (λ m. m.kind) op.chosen, ap (λ m. m.rect) op.chosen ∙ sym e);
    written = all_of (Became get' i []) (i ∷ []) (request refl (ap (λ m. m.kind) op.chosen), tt);
    pieces_hold = tt;
    others = λ j m. same_prev (op.other j m);
  }

  -- Cut along, no leftover.
  pub along_carving : {n' s : ℕ} {t : Rectangle} → Taken get n n' (s ∷ []) → NotEmpty q → NotEmpty t → Along get get' i s q t
      → Carving get get' n n' root i i (s ∷ []) (piece s t ∷ []) q
  along_carving {n'} {s} {t} W some-q some-t op = record {
    kept = along_keeps get get' n n' root i L all P lv free-i s q t W some-q some-t op;
    merged = along_merged get get' n n' root i L M lv free-i s q t W op;
    alloc = (inl refl, ap (λ m. m.kind) op.chosen, ap (λ m. m.rect) op.chosen);
    written = all_of (Became get' i (piece s t ∷ [])) (i ∷ s ∷ [])
        (request refl (ap (λ m. m.kind) op.chosen), (free (ap (λ m. m.kind) op.split) (inl refl), tt));
    pieces_hold = (ap (λ m. m.rect) op.split, tt);
    others = but_prev op.rest;
  }

  -- Cut along, with a leftover.
  pub along_left_carving : {n' s a l : ℕ} {t u : Rectangle} → Taken get n n' (l ∷ a ∷ s ∷ []) → NotEmpty q → NotEmpty u → NotEmpty t
      → AlongLeft get get' i s a l q u t → Carving get get' n n' root i a (l ∷ a ∷ s ∷ []) (piece s t ∷ piece l u ∷ []) q
  along_left_carving {n'} {s} {a} {l} {t} {u} W some-q some-u some-t op =
      let W' : Taken get n n' (s ∷ a ∷ l ∷ []) = reordered (swap s a l) (swap l a s) W in
      record {
        kept = along_left_keeps get get' n n' root i L all P lv free-i s a l q u t W' some-q some-u some-t op;
        merged = along_left_merged get get' n n' root i L M lv free-i s a l q u t W' op;
        alloc = (inr (inr (inl refl)), ap (λ m. m.kind) op.alloc, ap (λ m. m.rect) op.alloc);
        written = all_of (Became get' a (piece s t ∷ piece l u ∷ [])) (i ∷ l ∷ a ∷ s ∷ []) (
          box (ap (λ m. m.kind) op.chosen),
          (
            free (ap (λ m. m.kind) op.left) (inr (inl refl)),
            (request refl (ap (λ m. m.kind) op.alloc), (free (ap (λ m. m.kind) op.split) (inl refl), tt)),
          ),
        );
        pieces_hold = (ap (λ m. m.rect) op.split, (ap (λ m. m.rect) op.left, tt));
        others = λ j m. but_prev op.rest j (λ x. m (all_of (λ y. In y (i ∷ l ∷ a ∷ s ∷ [])) (i ∷ s ∷ a ∷ l ∷ [])
            (inl refl, (inr (inr (inr (inl refl))), (inr (inr (inl refl)), (inr (inl refl), tt)))) j x));
      }
    where
      swap : (x y z j : ℕ) → In j (x ∷ y ∷ z ∷ []) → In j (z ∷ y ∷ x ∷ [])
      swap x y z = all_of (λ k. In k (z ∷ y ∷ x ∷ [])) (x ∷ y ∷ z ∷ []) (inr (inr (inl refl)), (inr (inl refl), (inl refl, tt)))

  -- Cut across, no leftover.
  pub across_carving : {n' s a : ℕ} {t : Rectangle} → Taken get n n' (a ∷ s ∷ []) → NotEmpty q → NotEmpty t → Across get get' i s a q t
      → Carving get get' n n' root i a (a ∷ s ∷ []) (piece s t ∷ []) q
  across_carving {n'} {s} {a} {t} W some-q some-t op = record {
    kept = across_keeps get get' n n' root i L all P lv free-i s a q t W some-q some-t op;
    merged = across_merged get get' n n' root i L M lv free-i s a q t W op;
    alloc = (inr (inl refl), ap (λ m. m.kind) op.alloc, ap (λ m. m.rect) op.alloc);
    written = all_of (Became get' a (piece s t ∷ [])) (i ∷ a ∷ s ∷ [])
        (box (ap (λ m. m.kind) op.chosen), (request refl (ap (λ m. m.kind) op.alloc), (free (ap (λ m. m.kind) op.split) (inl refl), tt)));
    pieces_hold = (ap (λ m. m.rect) op.split, tt);
    others = λ j m. same_prev (op.other j m);
  }

  -- Cut across, with a leftover.
  pub across_left_carving : {n' s c a l : ℕ} {z t u : Rectangle} → Taken get n n' (l ∷ a ∷ c ∷ s ∷ []) → NotEmpty q → NotEmpty u → NotEmpty t
      → AcrossLeft get get' i s c a l z q u t → Carving get get' n n' root i a (l ∷ a ∷ c ∷ s ∷ []) (piece s t ∷ piece l u ∷ []) q
  across_left_carving {n'} {s} {c} {a} {l} {z} {t} {u} W some-q some-u some-t op =
      let W' : Taken get n n' (c ∷ a ∷ l ∷ s ∷ []) = reordered (swap c a l s) (swap l a c s) W in
      record {
        kept = across_left_keeps get get' n n' root i L all P lv free-i s c a l z q u t W' some-q some-u some-t op;
        merged = across_left_merged get get' n n' root i L M lv free-i s c a l z q u t W' op;
        alloc = (inr (inr (inl refl)), ap (λ m. m.kind) op.alloc, ap (λ m. m.rect) op.alloc);
        written = all_of (Became get' a (piece s t ∷ piece l u ∷ [])) (i ∷ l ∷ a ∷ c ∷ s ∷ []) (
          box (ap (λ m. m.kind) op.chosen),
          (
            free (ap (λ m. m.kind) op.left) (inr (inl refl)),
            (
              request refl (ap (λ m. m.kind) op.alloc),
              (box (ap (λ m. m.kind) op.box), (free (ap (λ m. m.kind) op.split) (inl refl), tt)),
            ),
          ),
        );
        pieces_hold = (ap (λ m. m.rect) op.split, (ap (λ m. m.rect) op.left, tt));
        others = λ j m. same_prev (op.other j (λ x. m (all_of (λ y. In y (i ∷ l ∷ a ∷ c ∷ s ∷ [])) (i ∷ c ∷ a ∷ l ∷ s ∷ [])
            (inl refl, (inr (inr (inr (inl refl))), (inr (inr (inl refl)), (inr (inl refl), (inr (inr (inr (inr (inl refl)))), tt))))) j x)));
      }
    where
      swap : (x y z e j : ℕ) → In j (x ∷ y ∷ z ∷ e ∷ []) → In j (z ∷ y ∷ x ∷ e ∷ [])
      swap x y z e = all_of (λ k. In k (z ∷ y ∷ x ∷ e ∷ [])) (x ∷ y ∷ z ∷ e ∷ []) (inr (inr (inl refl)), (inr (inl refl), (inl refl, (inr (inr (inr (inl refl))), tt))))
