-- The slot table after the cut of a Free slot: it is carved as its shape says.
-- Assumes nothing.
use Rattle.std.specs.Prelude.{ℕ, ◌*◌, ◌≤◌, ◌≡◌, refl, List, [], ◌∷◌}
use Rattle.std.proofs.Common.{sym, subst, ◌∙◌, inl, inr, arith}
use Rattle.std.proofs.Math.Path.{ap}
use Rattle.std.proofs.Math.ListN.{length}
use Rattle.geometry.specs.Rectangles.{flip, no_rect}
use Rattle.cuts.specs.declared.Cut.{Cut}
use Rattle.geometry.specs.declared.Rectangle.{Rectangle}
use Rattle.slots.specs.Slots.{slot}
use Rattle.table.specs.Table.{node_at, HasSlot}
use Rattle.stores.specs.Stores.{stored, to_kind}
use Rattle.stores.proofs.StoreLaws.{length_stored}
use Rattle.slots.specs.declared.AllocIndex.{AllocIndex}
use Rattle.slots.specs.declared.NodeKind.TheVariants.{Container, Alloc, Free}
use Rattle.steps.specs.declared.Head.{Head}
use Rattle.sound.specs.View.{seen, Live}
use Rattle.sound.specs.Rules.{NotEmpty, PlaceChain}
use Rattle.sound.specs.Sound.{Linked, Merged}
use Rattle.forest.specs.Pigeon.{In}
use Rattle.grants.specs.Carves.{News, news_of, beside, pair_under, carved}
use Rattle.grants.specs.declared.CutSlots.{CutSlots}
use Rattle.grants.specs.declared.Shape.{Shape}
use Rattle.grants.specs.declared.Shape.TheVariants.{Exact, Along, AlongLeft, Across, AcrossLeft}
use Rattle.granted.specs.NewSlots.{Taking, new_has_slot}
use Rattle.granted.specs.News.{new_ones}
use Rattle.granted.specs.Writes.{NextApart, slot_link, length_turned, length_beside, length_pair, kind_writes, turn_writes, beside_writes, pair_writes}
use Rattle.granted.specs.CutShapes.{CutsAs}
use Rattle.granted.specs.CutSteps.{turned_rekind, along_step, along_left_step, across_step, across_left_step}
use Rattle.granted.specs.Carved.{Piece, piece, Carving, next_apart, exact_carving, along_carving, along_left_carving, across_carving, across_left_carving}

-- The Free pieces of a shape, in the order in which they are pushed.
abbrev pub pieces_of : Shape → CutSlots → Cut → List Piece
pieces_of Exact n c = []
pieces_of Along n c = piece n.split.0 c.split ∷ []
pieces_of AlongLeft n c = piece n.split.0 c.split ∷ piece n.left.0 c.leftover ∷ []
pieces_of Across n c = piece n.split.0 c.split ∷ []
pieces_of AcrossLeft n c = piece n.split.0 c.split ∷ piece n.left.0 c.leftover ∷ []

-- A cut keeps the table's length.
pub length_carved : (shape : Shape) (w : List ℕ) (i : AllocIndex) (n : CutSlots) (q : Rectangle) (c : Cut) → length (carved shape w i n q c) ≡ length w
unfolding carved
length_carved Exact w i n q c = length_turned w i q
length_carved Along w i n q c = length_turned _ i q ∙ length_beside w i n.split c.split
length_carved AlongLeft w i n q c = length_pair _ _ _ _ _ _ _ _ ∙ (length_stored _ i (to_kind Container) ∙ length_beside w i n.split c.split)
length_carved Across w i n q c = length_pair _ _ _ _ _ _ _ _ ∙ length_stored w i (to_kind Container)
length_carved AcrossLeft w i n q c = length_pair _ _ _ _ _ _ _ _ ∙ (length_pair _ _ _ _ _ _ _ _ ∙ length_stored w i (to_kind Container))

module _ (w g : List ℕ) (h : Head) {root : ℕ} {all : Rectangle} (slots : length g * 8 ≤ length w) (few : length w ≤ 32768)
    (L : Linked (seen w) h.count root) (M : Merged (seen w) h.count) (P : PlaceChain (seen w) h.count root all)
    (i : AllocIndex) (lv : Live (seen w) h.count i.0) (free : (node_at w i).kind ≡ Free) (fits : h.count ≤ length g) (q : Rectangle) (some : NotEmpty q) where
  -- The chosen slot, the new slots and the chosen slot's next are slots of the table.
  has_chosen : HasSlot w i
  has_chosen = omega (arith, lv.0)

  has_new : {new g' : List ℕ} {h' : Head} → Taking w g h new g' h' → (x : ℕ) → In x new → HasSlot w (slot x)
  has_new T = new_has_slot (omega arith) T slots

  next_fine : (new g' : List ℕ) (h' : Head) → Taking w g h new g' h' → (s : ℕ) → In s new → NextApart w i.0 s
  next_fine new g' h' T s m j e =
      let a = next_apart L lv new T.taken j e in
      let z = (L.near.next_live i.0 j lv e).0 in
      (omega arith, λ x. a (inl x), λ x. a (inr (subst (λ (y : ℕ). In y new) (sym x) m)))

  -- THE TABLE. With its new slots taken, a cut of any shape carves the table.
  pub table_carved : (shape : Shape) (n : News) → n ≡ news_of shape w g h i → Taking w g h (new_ones shape n.slots) n.generations n.head
      → (c : Cut) → CutsAs shape (node_at w i).orientation (node_at w i).rect q c
      → Carving (seen w) (seen (carved shape w i n.slots q c)) h.count n.head.count root i.0 n.slots.alloc.0 (new_ones shape n.slots) (pieces_of shape n.slots c) q
  unfolding carved news_of seen
  table_carved Exact n e T c cut =
      rw e (exact_carving L M P lv free (turned_rekind (turn_writes w i q has_chosen) cut) cut)
  table_carved Along n e T c cut =
      let a : n.slots.alloc ≡ i = ap (λ x. x.slots.alloc) e in
      let u = beside w i n.slots.split c.split in
      let hs = has_new T n.slots.split.0 (inl refl) in
      let apart : n.slots.split.0 ≡ i.0 → ⊥ = λ x. T.taken.idle i.0 (inl (sym x)) lv in
      let B = beside_writes w few i n.slots.split c.split has_chosen hs apart (next_fine (new_ones Along n.slots) _ _ T n.slots.split.0 (inl refl)) in
      let U = turn_writes u i q (rw (length_beside w i n.slots.split c.split) has_chosen) in
      rw a (along_carving L M P lv free T.taken some cut.split
      (along_step B U apart (λ j x y. next_apart L lv (new_ones Along n.slots) T.taken j x (inl y)) cut.parts))
  table_carved AlongLeft n e T c cut =
      let u = beside w i n.slots.split c.split in
      let v = stored u i (to_kind Container) in
      let lu = length_beside w i n.slots.split c.split in
      let lv' : length v ≡ length w = length_stored u i (to_kind Container) ∙ lu in
      let hs = has_new T n.slots.split.0 (inr (inr (inl refl))) in
      let ha = has_new T n.slots.alloc.0 (inr (inl refl)) in
      let hl = has_new T n.slots.left.0 (inl refl) in
      let N : In i.0 (new_ones AlongLeft n.slots) → ⊥ = λ m. T.taken.idle i.0 m lv in
      let B = beside_writes w few i n.slots.split c.split has_chosen hs (λ x. N (inr (inr (inl (sym x))))) (next_fine (new_ones AlongLeft n.slots) _ _ T n.slots.split.0 (inr (inr (inl refl)))) in
      let R = kind_writes u i Container (rw lu has_chosen) in
      let U = pair_writes v (rw lv' few) i (flip (node_at w i).orientation) n.slots.alloc Alloc q n.slots.left c.leftover
      (slot_link w few i has_chosen) (rw lv' ha) (rw lv' hl) (λ x. T.distinct.0 (inl (sym x))) in
      along_left_carving L M P lv free T.taken some cut.left cut.split
      (along_left_step B R U N T.distinct (next_apart L lv (new_ones AlongLeft n.slots) T.taken) cut)
  table_carved Across n e T c cut =
      let u = stored w i (to_kind Container) in
      let lu = length_stored w i (to_kind Container) in
      let hs = has_new T n.slots.split.0 (inr (inl refl)) in
      let ha = has_new T n.slots.alloc.0 (inl refl) in
      let N : In i.0 (new_ones Across n.slots) → ⊥ = λ m. T.taken.idle i.0 m lv in
      let R = kind_writes w i Container has_chosen in
      let U = pair_writes u (rw lu few) i (flip (node_at w i).orientation) n.slots.alloc Alloc q n.slots.split c.split
      (slot_link w few i has_chosen) (rw lu ha) (rw lu hs) (λ x. T.distinct.0 (inl x)) in
      across_carving L M P lv free T.taken some cut.split (across_step R U N cut.parts)
  table_carved AcrossLeft n e T c cut =
      let o = (node_at w i).orientation in
      let u = stored w i (to_kind Container) in
      let lu = length_stored w i (to_kind Container) in
      let v = pair_under u i (flip o) n.slots.inner Container no_rect n.slots.split c.split in
      let lv' : length v ≡ length w = length_pair u i (flip o) n.slots.inner Container no_rect n.slots.split c.split ∙ lu in
      let hs = has_new T n.slots.split.0 (inr (inr (inr (inl refl)))) in
      let hc = has_new T n.slots.inner.0 (inr (inr (inl refl))) in
      let ha = has_new T n.slots.alloc.0 (inr (inl refl)) in
      let hl = has_new T n.slots.left.0 (inl refl) in
      let N : In i.0 (new_ones AcrossLeft n.slots) → ⊥ = λ m. T.taken.idle i.0 m lv in
      let R = kind_writes w i Container has_chosen in
      let U1 = pair_writes u (rw lu few) i (flip o) n.slots.inner Container no_rect n.slots.split c.split
      (slot_link w few i has_chosen) (rw lu hc) (rw lu hs) (λ x. T.distinct.1.1.0 (inl x)) in
      let U2 = pair_writes v (rw lv' few) n.slots.inner o n.slots.alloc Alloc q n.slots.left c.leftover
      (slot_link w few n.slots.inner hc) (rw lv' ha) (rw lv' hl) (λ x. T.distinct.0 (inl (sym x))) in
      across_left_carving L M P lv free T.taken some cut.left cut.split (across_left_step R U1 U2 N T.distinct cut)
