-- The laws of fetch and store: what stands where after a store. Everything above uses these and looks at no word.
-- Assumes nothing.
use Rattle.std.specs.Prelude.{◌≡◌, true, false, List, ℕ, ◌+◌, ◌*◌, eqb, ltb, leb, length}
use Rattle.std.proofs.Common.{arith, length-set, get_or-set_same, get_or-set_other, ltb-true, leb-true, le-leb}
use Rattle.std.proofs.lemmas.Bool.{eqb-false}
use Rattle.slots.specs.SlotLaws.{kind_code, orientation_code}
use Rattle.slots.specs.declared.AllocIndex.{AllocIndex}
use Rattle.table.specs.Table.{word, node_at, HasSlot}
use Rattle.stores.specs.Stores.{set_word, Store, to_parent, toNext, toPrev, to_kind, to_rect, to_node, stored, stored_rect, after}

-- Words: the one that was stored, another of the same slot, and those of other slots.
word_same : (w : List ℕ) (i : AllocIndex) (f v : ℕ) → ltb f 8 ≡ true → leb (i.0 * 8 + 8) (length w) ≡ true → word (set_word w i f v) i f ≡ v
unfolding word set_word
word_same w i f v h s = get_or-set_same w (i.0 * 8 + f) v 0 (omega (arith, ltb-true f 8 h, leb-true (i.0 * 8 + 8) (length w) s))

word_field : (w : List ℕ) (i : AllocIndex) (f g v : ℕ) → eqb g f ≡ false → word (set_word w i f v) i g ≡ word w i g
unfolding word set_word
word_field w i f g v h = get_or-set_other w (i.0 * 8 + f) (i.0 * 8 + g) v 0 (λ e. eqb-false g f h (omega arith))

word_slot : (w : List ℕ) (i j : AllocIndex) (f g v : ℕ) → (j.0 ≡ i.0 → ⊥) → ltb f 8 ≡ true → ltb g 8 ≡ true → word (set_word w i f v) j g ≡ word w j g
unfolding word set_word
word_slot w i j f g v n hf hg =
    get_or-set_other w (i.0 * 8 + f) (j.0 * 8 + g) v 0 (λ e. n (omega (arith, ltb-true f 8 hf, ltb-true g 8 hg)))

-- Words of different numbers are apart, whichever the slots.
word_apart : (w : List ℕ) (i j : AllocIndex) (f g v : ℕ) → eqb g f ≡ false → ltb f 8 ≡ true → ltb g 8 ≡ true → word (set_word w i f v) j g ≡ word w j g
unfolding word set_word
word_apart w i j f g v h hf hg =
    get_or-set_other w (i.0 * 8 + f) (j.0 * 8 + g) v 0 (λ e. eqb-false g f h (omega (arith, ltb-true f 8 hf, ltb-true g 8 hg)))

-- A rectangle copied corner by corner.
pub copied : (w a b c d : List ℕ) (i j : AllocIndex) (p q r s : ℕ) → p ≡ word w i 4 → q ≡ word w i 5 → a ≡ set_word w j 4 p → b ≡ set_word a j 5 q
    → r ≡ word b i 6 → s ≡ word b i 7 → c ≡ set_word b j 6 r → d ≡ set_word c j 7 s → d ≡ stored w j (to_rect (node_at w i).rect)
unfolding stored stored_rect node_at
copied w a b c d i j p q r s e f g h k l m n = rw (n, l, m, k, h, f, g, e) (simp word_apart)

length_set_word : (w : List ℕ) (i : AllocIndex) (f v : ℕ) → length (set_word w i f v) ≡ length w
unfolding set_word
length_set_word w i f v = simp length-set

-- A store keeps the table's length.
pub length_stored : (w : List ℕ) (i : AllocIndex) (s : Store) → length (stored w i s) ≡ length w
unfolding stored stored_rect
length_stored w i (to_parent j) = simp length_set_word
length_stored w i (toNext j) = simp length_set_word
length_stored w i (toPrev j) = simp length_set_word
length_stored w i (to_kind k) = simp length_set_word
length_stored w i (to_rect r) = simp length_set_word
length_stored w i (to_node n) = simp length_set_word

-- A store leaves every slot in the table.
pub has_stored : (w : List ℕ) (i j : AllocIndex) (s : Store) → HasSlot w j → HasSlot (stored w i s) j
has_stored w i j s h = simp length_stored h

-- THE FIRST LAW: at its own slot a store changes what it stores, and nothing else.
pub node_at_stored_same : (w : List ℕ) (i : AllocIndex) (s : Store) → HasSlot w i → node_at (stored w i s) i ≡ after s (node_at w i)
unfolding node_at stored stored_rect
node_at_stored_same w i (to_parent j) h = let b = le-leb (i.0 * 8 + 8) (length w) h in simp (word_same, word_field)
node_at_stored_same w i (toNext j) h = let b = le-leb (i.0 * 8 + 8) (length w) h in simp (word_same, word_field)
node_at_stored_same w i (toPrev j) h = let b = le-leb (i.0 * 8 + 8) (length w) h in simp (word_same, word_field)
node_at_stored_same w i (to_kind k) h = let b = le-leb (i.0 * 8 + 8) (length w) h in simp (word_same, word_field, kind_code, orientation_code)
node_at_stored_same w i (to_rect r) h = let b = le-leb (i.0 * 8 + 8) (length w) h in simp (word_same, word_field, length_set_word, b)
node_at_stored_same w i (to_node n) h =
    let b = le-leb (i.0 * 8 + 8) (length w) h in
    simp (word_same, word_field, length_set_word, b, kind_code, orientation_code)

-- THE SECOND LAW: at another slot a store changes nothing.
pub node_at_stored_other : (w : List ℕ) (i j : AllocIndex) (s : Store) → (j.0 ≡ i.0 → ⊥) → node_at (stored w i s) j ≡ node_at w j
unfolding node_at stored stored_rect
node_at_stored_other w i j (to_parent k) n = simp word_slot
node_at_stored_other w i j (toNext k) n = simp word_slot
node_at_stored_other w i j (toPrev k) n = simp word_slot
node_at_stored_other w i j (to_kind k) n = simp word_slot
node_at_stored_other w i j (to_rect r) n = simp word_slot
node_at_stored_other w i j (to_node m) n = simp word_slot
