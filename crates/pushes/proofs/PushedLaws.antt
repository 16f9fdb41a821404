-- How often an entry occurs after a sweep and after a push.
-- Assumes nothing.
use Rattle.std.specs.Prelude.{◌≡◌, Bool, true, false, ◌&&◌, ◌||◌, not, List, [], ◌∷◌, ◌++◌, length, get_or, drop}
use Rattle.std.proofs.Math.Path.{refl}
use Rattle.std.proofs.Common.{sym, ◌∙◌, append-nil, arith, add-one, length-append}
use Rattle.std.proofs.Math.Bool.{and-false}
use Prim.Native.Nat.{ℕ, zero, suc, ◌+◌, ◌<◌}
use Rattle.std.proofs.Math.Decide.{ℕ_discrete}
use Rattle.std.proofs.Math.Dec.{eqb}
use Rattle.std.proofs.Math.ListN.{get_or-append}
use Rattle.std.proofs.Math.Seq.{get_or-append_seam}
use borrow.Author.Tests.{eq-eqb, ne_eqb}
use Rattle.geometry.specs.Choice.{pick}
use Rattle.lists.specs.Lists.{Bag, bag, occurs, free_entry}
use Rattle.lists.specs.Counts.{bit, count, holds, occurrences}
use Rattle.lists.specs.CountLaws.{count_same}
use Rattle.lists.specs.OccurrenceLaws.{occurrences_appended}
use Rattle.pushes.specs.Pushes.{keeps, keepers, swept, pushed, Pushable}
use Rattle.pushes.specs.PushLaws.{ready}
use Rattle.pushes.proofs.PushLaws.{pushed_ready, ready_elim, room_ready}

-- An entry that occurs stands at a filled place.
pub occurring : (x : ℕ) (t : List ℕ) (n : ℕ) → 0 < occurrences x (bag t n) → occurs t x n ≡ true
unfolding count occurs
occurring x t zero h = absurd (omega arith)
occurring x t (suc n) h = go (eqb (get_or t n 0) x) refl (occurring x t n)
  where
    go : (e : Bool) → eqb (get_or t n 0) x ≡ e → (0 < occurrences x (bag t n) → occurs t x n ≡ true) → e || occurs t x n ≡ true
    go true e r = refl
    go false e r = r (omega (arith, rw e at h))

-- How often x occurs in the whole of a list.
tally : ℕ → List ℕ → ℕ
tally x xs = count (λ j. eqb (get_or xs j 0) x) (length xs)

tally_more : (x : ℕ) (xs : List ℕ) (y : ℕ) → tally x (xs ++ (y ∷ [])) ≡ bit (eqb y x) + tally x xs
unfolding tally count
tally_more x xs y =
    rw (length-append xs (y ∷ []), add-one, get_or-append_seam xs y [] 0, count_same (λ j. eqb (get_or (xs ++ (y ∷ [])) j 0) x) (λ j. eqb (get_or xs j 0) x) (length xs) (λ j l. rw (get_or-append xs (y ∷ []) 0 j l)))

tally_pick : (x : ℕ) (xs : List ℕ) (y : ℕ) (keep : Bool) → tally x (xs ++ pick keep (y ∷ []) []) ≡ bit (keep && eqb y x) + tally x xs
tally_pick x xs y true = tally_more x xs y
tally_pick x xs y false = rw append-nil (omega arith)

-- The first entry of a Free slot is counted, and no other entry of it.
once : (e o f : Bool) → bit ((not e && (not o && f)) && true) + bit (o && (not e && f)) ≡ bit (not e && f)
once true true f = refl
once true false f = refl
once false true true = refl
once false true false = refl
once false false true = refl
once false false false = refl

module _ (w : List ℕ) (v : ℕ) (t : List ℕ) (x : ℕ) where
  tally_keepers : (n : ℕ) → tally x (keepers w v t n) ≡ bit (occurs t x n && (not (eqb x v) && free_entry w x))
  unfolding keepers occurs keeps tally count
  tally_keepers zero = refl
  tally_keepers (suc n) = tally_pick x (keepers w v t n) (get_or t n 0) (keeps w v t n) ∙ go (ℕ_discrete (get_or t n 0) x) (tally_keepers n)
    where
      go : Dec (get_or t n 0 ≡ x) → tally x (keepers w v t n) ≡ bit (occurs t x n && (not (eqb x v) && free_entry w x))
          → bit (keeps w v t n && eqb (get_or t n 0) x) + tally x (keepers w v t n) ≡ bit ((eqb (get_or t n 0) x || occurs t x n) && (not (eqb x v) && free_entry w x))
      go (yes e) r = rw (e, eq-eqb x x refl, r) (once (eqb x v) (occurs t x n) (free_entry w x))
      go (no e) r = rw (ne_eqb (get_or t n 0) x e, and-false, r) (omega arith)

-- Sweep: of each Free slot other than the pushed one that had an entry just one is left, and of no other slot any.
pub occurrences_swept : (w : List ℕ) (v : ℕ) (b : Bag) (x : ℕ)
    → occurrences x (swept w v b) ≡ bit (occurs b.table x b.len && (not (eqb x v) && free_entry w x))
unfolding swept tally
occurrences_swept w v b x =
    let k = keepers w v b.table b.len in
    count_same (holds (swept w v b) x) (λ j. eqb (get_or k j 0) x) (length k) (λ j l. rw (get_or-append k (drop (length k) b.table) 0 j l))
    ∙ tally_keepers w v b.table x b.len

-- Push: the pushed entry occurs, and so does every entry of a Free slot that did.
module _ (w : List ℕ) (v : ℕ) (b : Bag) (p : Pushable w v b) where
  occurrences_pushed : (x : ℕ) → occurrences x (pushed w v b) ≡ bit (eqb v x) + occurrences x (ready w v b)
  occurrences_pushed x = rw (pushed_ready w v b) (occurrences_appended x v (ready w v b) (room_ready w v b p))

  pub push_enters : 0 < occurrences v (pushed w v b)
  push_enters = rw (occurrences_pushed v, eq-eqb v v refl) (omega arith)

  pub push_keeps_free : (x : ℕ) → 0 < occurrences x b → free_entry w x ≡ true → 0 < occurrences x (pushed w v b)
  push_keeps_free x h f = go (ℕ_discrete v x)
    where
      go : Dec (v ≡ x) → 0 < occurrences x (pushed w v b)
      go (yes e) = rw (← e) push_enters
      go (no e) =
          rw (occurrences_pushed x)
          (omega (
            arith,
            ready_elim w v b (λ (r : Bag). 0 < occurrences x r) (λ _. h)
                (λ _. rw (occurrences_swept w v b x, occurring x b.table b.len h, ne_eqb x v (λ q. e (sym q)), f) (omega arith)),
          ))
