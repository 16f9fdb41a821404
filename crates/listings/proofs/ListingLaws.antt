-- How a listing is written, and how long it is.
-- Assumes nothing.
use Rattle.std.specs.Prelude.{◌≡◌, refl, Bool, List}
use Rattle.std.proofs.Math.Path.{ap}
use Rattle.std.proofs.Common.{◌∙◌, le-leb}
use Rattle.std.proofs.Math.Bool.{true, false}
use Prim.Native.Nat.{ℕ, zero, suc, ◌+◌, ◌-◌, ◌*◌, ◌≤◌, ◌<◌}
use Rattle.std.proofs.Math.Numerals.{add-one}
use native.Mathlib.Omega.{arith}
use Rattle.std.proofs.Math.ListN.{length, length-append}
use Rattle.std.proofs.Math.Seq.{sets, length-sets}
use Rattle.std.proofs.lemmas.List.Edits.{sets-eq}
use Rattle.std.proofs.lemmas.Bool.{lt-leb}
use Rattle.geometry.specs.Choice.{pick}
use Rattle.slots.specs.Slots.{same_kind}
use Rattle.slots.specs.declared.NodeKind.{NodeKind}
use Rattle.slots.specs.declared.NodeKind.TheVariants.{Alloc}
use Rattle.lists.specs.Lists.{Bag, bag}
use Rattle.steps.specs.Spares.{of_kind, count_kind}
use Rattle.written.specs.Entries.{entry_at}
use Rattle.listings.specs.Listings.{entries, filled, written_over, list_answer, list_filled}
use Rattle.links.specs.Held.{Held}
use Rattle.written.specs.Fills.{entry_words, wrote, Enterable}
use Rattle.written.specs.WriteLaws.{wrote_then, entry_at_length}

module _ (w g : List ℕ) (kind : NodeKind) where
  -- THE LENGTH. A listing has an entry for each slot of the kind.
  pub entries_length : (n : ℕ) → length (entries w g kind n) ≡ count_kind w kind n * entry_words kind
  unfolding entries count_kind
  entries_length zero = omega arith
  entries_length (suc n) =
      let both =
      add (same_kind kind Alloc) (length (entries w g kind n)) (length (entry_at w g kind n)) (count_kind w kind n) (of_kind w kind n) (entries_length n) (entry_at_length w g kind n) in
      simp length-append (omega arith)
    where
      add : (b : Bool) (x y c o : ℕ) → x ≡ c * pick b 5 4 → y ≡ o * pick b 5 4 → x + y ≡ (c + o) * pick b 5 4
      add true x y c o e f = omega arith
      add false x y c o e f = omega arith

  -- It grows with the slots.
  entries_more : (i : ℕ) → length (entries w g kind (i + 1)) ≡ length (entries w g kind i) + length (entry_at w g kind i)
  unfolding entries
  entries_more i = rw add-one (simp length-append (omega arith))

  entries_below : (k n : ℕ) → length (entries w g kind n) ≤ length (entries w g kind (k + n))
  unfolding entries
  entries_below zero n = let e : 0 + n ≡ n = omega arith in rw e (omega arith)
  entries_below (suc k) n =
      let e : suc k + n ≡ suc (k + n) = omega arith in
      let r = entries_below k n in
      rw e (simp length-append (omega arith))

  -- One slot further.
  pub filled_more : (l : List ℕ) (i : ℕ) (b c : Bag) → b ≡ wrote (bag l 0) (entries w g kind i) → c ≡ wrote b (entry_at w g kind i)
      → c ≡ wrote (bag l 0) (entries w g kind (i + 1))
  unfolding entries
  filled_more l i b c e f = f ∙ (ap (λ (x : Bag). wrote x (entry_at w g kind i)) e ∙ (wrote_then (bag l 0) (entries w g kind i) (entry_at w g kind i) ∙ rw add-one))

  module _ (n : ℕ) (l : List ℕ) (room : length (entries w g kind n) ≤ length l) where
    -- There is room for the entry of a slot below n.
    pub has_room_lem : (i : ℕ) (b : Bag) → Held w g n → i < n → b ≡ wrote (bag l 0) (entries w g kind i) → Enterable w g kind i b
    unfolding wrote
    has_room_lem i b h less e =
        let len : b.len ≡ 0 + length (entries w g kind i) = ap (λ (x : Bag). x.len) e in
        let table : length b.table ≡ length l = ap (λ (x : Bag). length x.table) e ∙ length-sets l 0 (entries w g kind i) in
        let k : ((n - (i + 1)) + (i + 1)) ≡ n = omega arith in
        let below : length (entries w g kind (i + 1)) ≤ length (entries w g kind n) = rw k at (entries_below (n - (i + 1)) (i + 1)) in
        record {
          has = omega (arith, h.table.slots);
          byte = omega (arith, h.bytes);
          few = omega (arith, h.table.few);
          room = omega (arith, entries_more i);
        }

    -- The listing of all n slots stands in the list.
    pub filled_all : (i at : ℕ) (out : List ℕ) → bag out at ≡ wrote (bag l 0) (entries w g kind i) → i ≤ n → n ≤ i → out ≡ written_over (entries w g kind n) l
    unfolding wrote
    filled_all i at out e a b =
        let k : i ≡ n = omega arith in
        let f : out ≡ sets l 0 (entries w g kind n) = rw k at (ap (λ (x : Bag). x.table) e) in
        f ∙ (sets-eq (entries w g kind n) l 0 (omega arith) ∙ (let z : 0 + length (entries w g kind n) ≡ length (entries w g kind n) = omega arith in rw z))

  -- The answers of a listing, from the count and the words of an entry.
  module _ (n : ℕ) (l : List ℕ) {c e : ℕ} (count : c ≡ count_kind w kind n) (each : e ≡ entry_words kind) where
    reckoned : length (entries w g kind n) ≡ c * e
    reckoned = rw (count, each) (entries_length n)

    pub listing_short : length l < c * e → (12 ≡ list_answer w g kind n l) × (filled 0 l ≡ list_filled w g kind n l)
    unfolding list_answer list_filled
    listing_short h = rw (lt-leb (length (entries w g kind n)) (length l) (rw reckoned h)) (refl, refl)

    pub listing_room : c * e ≤ length l → length (entries w g kind n) ≤ length l
    listing_room h = rw reckoned h

    pub listing_done : c * e ≤ length l → {out : List ℕ} → out ≡ written_over (entries w g kind n) l
        → (0 ≡ list_answer w g kind n l) × (filled c out ≡ list_filled w g kind n l)
    unfolding list_answer list_filled
    listing_done h e = rw (le-leb (length (entries w g kind n)) (length l) (listing_room h)) (refl, rw (count, e))
