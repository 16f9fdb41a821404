-- The marks: which slots the lists mark.
-- Assumes nothing.
use Rattle.std.specs.Prelude.{◌≡◌, Bool, ◌&&◌, ◌||◌, not, length, set, take, replicate, eqb}
use Rattle.std.proofs.Math.Path.{refl}
use Rattle.std.proofs.Common.{length-take-le, ap, sym, ◌∙◌, add-one, arith, get_or-set_same, get_or-set_other, eqb-true}
use Rattle.std.proofs.Math.Bool.{true, false}
use Rattle.std.proofs.lemmas.Bool.{false≢true, eqb-false}
use mathlib.Core.List.{List}
use Prim.Native.Nat.{ℕ, zero, suc, ◌+◌, ◌<◌, ◌≤◌}
use Rattle.std.proofs.Math.ListN.{get_or, length-set}
use Rattle.std.proofs.lemmas.List.{length-replicate, get_or-replicate, get_or-take}
use Rattle.geometry.specs.Buckets.{rank}
use Rattle.geometry.specs.declared.Bucket.{Bucket}
use Rattle.geometry.specs.declared.Bucket.TheVariants.{Small, Medium, Large}
use Rattle.lists.specs.Lists.{bag, Each, occurs}
use Rattle.buckets.specs.FreeLists.{Lists, list_of}
use Rattle.links.specs.TestLaws.{Says}
use Rattle.marks.specs.Marks.{marks_start, is_marked, marks_to, marks_from, marks_of, ListsReady}

-- An entry of the front of a list is the list's.
pub front_entry : (t : List ℕ) (len k : ℕ) → len ≤ length t → k < length (take len t) → (k < len) × (get_or (take len t) k 0 ≡ get_or t k 0)
front_entry t len k h l =
    let i : k < len = omega (arith, length-take-le len t h) in
    (i, get_or-take len t k 0 i)

-- One more entry.
pub marks_more : (s : ℕ) (t ms ns : List ℕ) (k : ℕ) → ns ≡ marks_to s t k ms → set ns (s + get_or t k 0) 1 ≡ marks_to s t (k + 1) ms
unfolding marks_to
marks_more s t ms ns k e = rw (add-one, ← e)

-- All of them.
pub marks_all : (b : Bucket) (s : ℕ) (t ms ns : List ℕ) (k len : ℕ) → s ≡ marks_start b → ns ≡ marks_to s t k ms → k ≤ len → len ≤ k → ns ≡ marks_to (marks_start b) t len ms
marks_all b s t ms ns k len z e l m = e ∙ (ap (λ a. marks_to a t k ms) z ∙ ap (λ j. marks_to (marks_start b) t j ms) (omega arith))

-- A bucket's marks are apart from another's, and end within three times 4,096.
starts : (b : Bucket) → marks_start b ≤ 8192
unfolding marks_start
starts Small = omega arith
starts Medium = omega arith
starts Large = omega arith

pub start_below : (b : Bucket) (s x : ℕ) → s ≡ marks_start b → x < 4096 → s + x < 12288
start_below b s x e h = omega (arith, starts b)

-- Two buckets are the same.
unfoldable same_as : Bucket → Bucket → Bool
same_as a b = eqb (rank a) (rank b)

apart : (b c : Bucket) (y x : ℕ) → y < 4096 → x < 4096 → same_as c b ≡ false → marks_start c + x ≡ marks_start b + y → ⊥
unfolding same_as marks_start
apart Small Small y x h l e q = false≢true (sym e)
apart Small Medium y x h l e q = omega arith
apart Small Large y x h l e q = omega arith
apart Medium Small y x h l e q = omega arith
apart Medium Medium y x h l e q = false≢true (sym e)
apart Medium Large y x h l e q = omega arith
apart Large Small y x h l e q = omega arith
apart Large Medium y x h l e q = omega arith
apart Large Large y x h l e q = false≢true (sym e)

same_start : (b c : Bucket) → same_as c b ≡ true → marks_start c ≡ marks_start b
unfolding same_as marks_start
same_start Small Small e = refl
same_start Small Medium e = absurd (false≢true e)
same_start Small Large e = absurd (false≢true e)
same_start Medium Small e = absurd (false≢true e)
same_start Medium Medium e = refl
same_start Medium Large e = absurd (false≢true e)
same_start Large Small e = absurd (false≢true e)
same_start Large Medium e = absurd (false≢true e)
same_start Large Large e = refl

module _ (b : Bucket) (t : List ℕ) where
  pub length_marks : (k : ℕ) (ms : List ℕ) → length (marks_to (marks_start b) t k ms) ≡ length ms
  unfolding marks_to
  length_marks zero ms = refl
  length_marks (suc k) ms = length-set (marks_to (marks_start b) t k ms) (marks_start b + get_or t k 0) 1 ∙ length_marks k ms

  -- A list marks the slots that have an entry in it, as its bucket's, and leaves every other mark.
  marks_are : (k : ℕ) (ms : List ℕ) (c : Bucket) (x : ℕ) → x < 4096 → 12288 ≤ length ms → Each (λ y. y < 4096) (bag t k)
      → is_marked (marks_to (marks_start b) t k ms) c x ≡ (same_as c b && occurs t x k) || is_marked ms c x
  unfolding marks_to occurs
  marks_are zero ms c x h l f = none (same_as c b)
    where
      none : (a : Bool) → is_marked ms c x ≡ (a && false) || is_marked ms c x
      none true = refl
      none false = refl
  marks_are (suc k) ms c x h l f = go (eqb (get_or t k 0) x) refl (same_as c b) refl (marks_are k ms c x h l (λ j m. f j (omega arith)))
    where
      after : List ℕ
      after = marks_to (marks_start b) t k ms

      y : ℕ
      y = get_or t k 0

      go : (e : Bool) → eqb y x ≡ e → (a : Bool) → same_as c b ≡ a → is_marked after c x ≡ (same_as c b && occurs t x k) || is_marked ms c x
          → not (eqb (get_or (set after (marks_start b + y) 1) (marks_start c + x) 0) 0) ≡ (a && (e || occurs t x k)) || is_marked ms c x
      go e q false m r =
          rw (get_or-set_other after (marks_start b + y) (marks_start c + x) 1 0 (apart b c y x (f k (omega arith)) h m)) (rw m at r)
      go true q true m r =
          rw (same_start b c m, ← eqb-true y x q, get_or-set_same after (marks_start b + y) 1 0 (omega (arith, length_marks k ms, starts b, f k (omega arith))))
      go false q true m r =
          rw (get_or-set_other after (marks_start b + y) (marks_start c + x) 1 0 (λ z. eqb-false y x q (omega (arith, same_start b c m)))) (rw m at r)

-- What occurs stands at a place.
pub occurs_says : (t : List ℕ) (x k : ℕ) → Says (occurs t x k) ((j : ℕ) × (j < k) × (get_or t j 0 ≡ x))
unfolding occurs
occurs_says t x zero = (λ e. absurd (false≢true e), λ h. absurd (omega (arith, h.1)))
occurs_says t x (suc k) = go (eqb (get_or t k 0) x) refl (occurs_says t x k)
  where
    go : (e : Bool) → eqb (get_or t k 0) x ≡ e → Says (occurs t x k) ((j : ℕ) × (j < k) × (get_or t j 0 ≡ x)) → Says (e || occurs t x k) ((j : ℕ) × (j < suc k) × (get_or t j 0 ≡ x))
    go true q r = (λ _. (k, omega arith, eqb-true (get_or t k 0) x q), λ _. refl)
    go false q r = (
      λ e. let p = r.0 e in (p.0, omega (arith, p.1), p.2),
      λ p. r.1 (p.0, less p.0 p.1 (λ e. eqb-false (get_or t k 0) x q (ap (λ j. get_or t j 0) (sym e) ∙ p.2)), p.2),
    )
      where
        less : (j : ℕ) → j < suc k → (j ≡ k → ⊥) → j < k
        less j a b = omega arith

-- A slot has a bucket's mark exactly where it has an entry in that bucket's list.
pub marks_say_occurs : (l : Lists) (r : ListsReady l) (b : Bucket) (x : ℕ) → x < 4096 → is_marked (marks_of l) b x ≡ occurs (list_of b l).table x (list_of b l).len
unfolding marks_of marks_from same_as
marks_say_occurs l r b x h =
    let start : List ℕ = replicate 12288 0 in
    let one = marks_to (marks_start Small) l.small.table l.small.len start in
    let two = marks_to (marks_start Medium) l.medium.table l.medium.len one in
    let n0 : length start ≡ 12288 = length-replicate {A = ℕ} 12288 0 in
    let n1 : length one ≡ length start = length_marks Small l.small.table l.small.len start in
    let n2 : length two ≡ length one = length_marks Medium l.medium.table l.medium.len one in
    rw (marks_are Large l.large.table l.large.len two b x h (omega arith) (r.below Large), marks_are Medium l.medium.table l.medium.len one b x h (omega arith) (r.below Medium), marks_are Small l.small.table l.small.len start b x h (omega arith) (r.below Small), get_or-replicate {A = ℕ} 12288 (marks_start b + x) 0 0 (start_below b (marks_start b) x refl h))
    (by_bucket b)
  where
    or-false : (a : Bool) → a || false ≡ a
    or-false true = refl
    or-false false = refl

    by_bucket : (own : Bucket)
        → (same_as own Large && occurs l.large.table x l.large.len) ||
        ((same_as own Medium && occurs l.medium.table x l.medium.len) || ((same_as own Small && occurs l.small.table x l.small.len) || false))
        ≡ occurs (list_of own l).table x (list_of own l).len
    by_bucket Small = or-false (occurs l.small.table x l.small.len)
    by_bucket Medium = or-false (occurs l.medium.table x l.medium.len)
    by_bucket Large = or-false (occurs l.large.table x l.large.len)
