-- The laws by which the head is read from words and written over them.
-- Assumes nothing.
use Rattle.std.specs.Prelude.{◌≡◌, refl, List, [], ◌∷◌, ℕ, ◌<◌, ◌^◌, ℤ, get_or}
use Rattle.std.proofs.Common.{◌∙◌}
use Rattle.std.specs.Int.Signed.{mag}
use Rattle.geometry.specs.declared.AllocatorOptions.{AllocatorOptions}
use Rattle.geometry.specs.declared.Size.{Size}
use Rattle.slots.specs.declared.AllocIndex.{AllocIndex}
use Rattle.buckets.specs.declared.Lengths.{Lengths}
use Rattle.steps.specs.declared.Head.{Head}
use Rattle.heads.specs.Words.{size_of, options_of, signed_of, size_at, head_at, with_changes, ShortLists}
use Rattle.heads.specs.SignedLaws.{back, signed_read, read_back}

-- A size and options made of numbers that are read back as they arrived.
pub size_read : {s : Size} {w h : ℤ} → s ≡ size_of (back w) (back h) → mag w < 2 ^ 31 → mag h < 2 ^ 31 → s ≡ size_of w h
size_read {s} {w} {h} e f g = rw (read_back w f, read_back h g) at e

pub options_read : {o : AllocatorOptions} {w h a b : ℤ} → o ≡ options_of (back w) (back h) (back a) (back b)
    → mag w < 2 ^ 31 → mag h < 2 ^ 31 → mag a < 2 ^ 31 → mag b < 2 ^ 31 → o ≡ options_of w h a b
options_read {o} {w} {h} {a} {b} e f g i j = rw (read_back w f, read_back h g, read_back a i, read_back b j) at e

-- A signed number as it was written, and the word that holds it.
pub record Word (z : ℤ) (w : ℕ) : Type 0 where
  pub holds : signed_of w ≡ back z
  pub fits : mag z < 2 ^ 31

pub word_holds : {z : ℤ} {w : ℕ} → Word z w → signed_of w ≡ z
word_holds {z} a = a.holds ∙ read_back z a.fits

-- Two words of a size give it again.
pub size_again : {s : Size} {a b : ℕ} → Word s.width a → Word s.height b → size_at 0 (a ∷ b ∷ []) ≡ s
size_again p q = rw (word_holds p, word_holds q)

-- Twelve words of a head give it again.
pub head_again : {h : Head} {a b c d e f i j k : ℕ}
    → Word h.sheet.width a → Word h.sheet.height b → Word h.options.alignment.width c → Word h.options.alignment.height d
    → Word h.options.small e → Word h.options.large f → i ≡ h.lengths.small → j ≡ h.lengths.medium → k ≡ h.lengths.large
    → head_at (a ∷ b ∷ c ∷ d ∷ e ∷ f ∷ h.root.0 ∷ h.spare.0 ∷ h.count ∷ i ∷ j ∷ k ∷ []) ≡ h
unfolding head_at
head_again p q r s t u x y z = rw (word_holds p, word_holds q, word_holds r, word_holds s, word_holds t, word_holds u, x, y, z)

-- Seven words of one head and five of another.
pub changes_again : (l : List ℕ) (h : Head) {i j k : ℕ} → i ≡ h.lengths.small → j ≡ h.lengths.medium → k ≡ h.lengths.large
    → head_at (get_or l 0 0 ∷ get_or l 1 0 ∷ get_or l 2 0 ∷ get_or l 3 0 ∷ get_or l 4 0 ∷ get_or l 5 0 ∷ get_or l 6 0 ∷ h.spare.0 ∷ h.count ∷ i ∷ j ∷ k ∷ [])
    ≡ with_changes (head_at l) h
unfolding head_at
changes_again l h x y z = rw (x, y, z)

-- A length that was read from a word.
abbrev pub LengthOf : ℕ → ℕ → Type 0
LengthOf w n = (n ≡ w) × (n < 2 ^ 32)

-- What is read from the words, put together.
abbrev pub gathered : List ℕ → ℤ → ℤ → ℤ → ℤ → ℤ → ℤ → ℕ → ℕ → ℕ → Head
gathered l a b c d e f i j k =
    record {
      sheet = record { width = back a; height = back b };
      options = record { alignment = record { width = back c; height = back d }; small = back e; large = back f };
      root = record { 0 = get_or l 6 0 };
      spare = record { 0 = get_or l 7 0 };
      count = get_or l 8 0;
      lengths = record { small = i; medium = j; large = k };
    }

-- It is their head.
pub head_read : (l : List ℕ) {a b c d e f : ℤ} {i j k : ℕ}
    → a ≡ signed_of (get_or l 0 0) → b ≡ signed_of (get_or l 1 0) → c ≡ signed_of (get_or l 2 0) → d ≡ signed_of (get_or l 3 0)
    → e ≡ signed_of (get_or l 4 0) → f ≡ signed_of (get_or l 5 0) → LengthOf (get_or l 9 0) i → LengthOf (get_or l 10 0) j → LengthOf (get_or l 11 0) k
    → (gathered l a b c d e f i j k ≡ head_at l) × ShortLists (gathered l a b c d e f i j k)
unfolding head_at
head_read l p q r s t u x y z = (
  rw (signed_read _ p, signed_read _ q, signed_read _ r, signed_read _ s, signed_read _ t, signed_read _ u, x.0, y.0, z.0),
  record { small = x.1; medium = y.1; large = z.1 },
)
