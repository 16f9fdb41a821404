-- RULE 1, EXACT: the test of the numbers and the scans of the entries decide it.
-- Assumes nothing.
use Rattle.std.specs.Prelude.{◌≡◌, refl, Bool, true, false, ◌⊎◌, Some, None, ℕ, ◌≤◌, ◌<◌, ltb, leb}
use Rattle.std.proofs.Common.{ap, sym, ◌∙◌, true≢false, inl, inr, arith, ltb-true, ltb-false, lt-ltb, le-ltb, leb-true, le-leb}
use Rattle.geometry.specs.Choice.{pick}
use Rattle.geometry.specs.Sides.{valid_setup}
use Rattle.geometry.specs.declared.Bucket.{Bucket}
use Rattle.geometry.specs.declared.Bucket.TheVariants.{Small, Medium, Large}
use Rattle.lists.specs.Lists.{Bag, Each}
use Rattle.buckets.specs.FreeLists.{Lists, list_of, Within}
use Rattle.steps.specs.State.{State, lists_of}
use Rattle.steps.specs.declared.Head.{Head}
use Rattle.sound.specs.Sound.{Counted}
use Rattle.links.specs.Links.{Table}
use Rattle.links.specs.TestLaws.{Says, both_say, not_say, less_says, equal_says}
use Rattle.lent.specs.Lent.{LentOf}
use Rattle.below.specs.Below.{first_from, first_bad, entry_below}
use Rattle.below.specs.FirstLaws.{lowest_breaks, lowest_all, all_lowest, bad_some, bad_none}
use Rattle.counted.specs.Numbers.{numbers_hold, numbers_of, entry_found, entries_found, EntriesReady}
use Rattle.judged.specs.Verdicts.{Verdict, verdict}

most_says : (i n : ℕ) → Says (leb i n) (i ≤ n)
most_says i n = (leb-true i n, le-leb i n)

-- What the test of the numbers says.
pub numbers_say : (total a b c : ℕ) (h : Head)
    → Says (numbers_hold total a b c h)
    ((h.count ≡ 0 → ⊥) × ((h.count ≤ total) × ((h.lengths.small ≤ a) × ((h.lengths.medium ≤ b) × ((h.lengths.large ≤ c)
    × ((valid_setup h.sheet h.options ≡ true) × (h.root.0 < h.count)))))))
unfolding numbers_hold
numbers_say total a b c h =
    both_say (not_say (equal_says h.count 0))
    (both_say (most_says h.count total)
    (both_say (most_says h.lengths.small a)
    (both_say (most_says h.lengths.medium b) (both_say (most_says h.lengths.large c) (both_say (λ e. e, λ e. e) (less_says h.root.0 h.count))))))

-- A list has an entry that isn't below n, or the verdict is the other.
abbrev Below : ℕ → Bag → Type 0
Below n b = Each (λ x. x < n) b

entry_cases : (b : Bag) (n : ℕ) (other : Verdict)
    → (Below n b × (entry_found b n other ≡ other)) ⊎ ((Below n b → ⊥) × ((entry_found b n other).rule ≡ 1))
unfolding entry_found
entry_cases b n other = go (ltb r b.len) refl
  where
    r : ℕ
    r = first_from (entry_below b.table n) 0 b.len

    go : (t : Bool) → ltb r b.len ≡ t → (Below n b × (pick t (verdict 1 r) other ≡ other)) ⊎ ((Below n b → ⊥) × ((pick t (verdict 1 r) other).rule ≡ 1))
    go true e =
        let h = ltb-true r b.len e in
        inr (λ f. true≢false (sym (lt-ltb _ _ (f r h)) ∙ lowest_breaks (entry_below b.table n) b.len r refl h), refl)
    go false e = inl (λ k h. ltb-true _ _ (lowest_all (entry_below b.table n) b.len r refl (ltb-false r b.len e) k h), refl)

-- What the search of a list for such an entry says.
pub entry_bad : (b : Bag) (n : ℕ) {k : ℕ} → Some k ≡ first_bad (entry_below b.table n) b.len → verdict 1 k ≡ entry_found b n (verdict 0 0)
unfolding entry_found
entry_bad b n {k} e = let q = bad_some (entry_below b.table n) b.len e in rw (← q.1, lt-ltb k b.len q.0)

pub entry_none : (b : Bag) (n : ℕ) → None ≡ first_bad (entry_below b.table n) b.len → verdict 0 0 ≡ entry_found b n (verdict 0 0)
unfolding entry_found
entry_none b n e = rw (le-ltb _ _ (bad_none (entry_below b.table n) b.len e))

-- Where every entry of a list is below n, the verdict is the other.
pub entry_all : (b : Bag) (n : ℕ) (other : Verdict) → Each (λ x. x < n) b → other ≡ entry_found b n other
unfolding entry_found
entry_all b n other f =
    rw (all_lowest (entry_below b.table n) b.len (first_from (entry_below b.table n) 0 b.len) refl (λ i h. lt-ltb _ _ (f i h)), le-ltb b.len b.len (omega arith))

-- What a list says alone, it says before any other verdict: that it has such an entry, or nothing.
pub entry_first : (b : Bag) (n : ℕ) (other : Verdict) {v : Verdict} → v ≡ entry_found b n (verdict 0 0) → (v.rule ≡ 0 → ⊥) → v ≡ entry_found b n other
unfolding entry_found
entry_first b n other {v} is f = go (ltb r b.len) is
  where
    r : ℕ
    r = first_from (entry_below b.table n) 0 b.len

    go : (t : Bool) → v ≡ pick t (verdict 1 r) (verdict 0 0) → v ≡ pick t (verdict 1 r) other
    go true e = e
    go false e = absurd (f (ap (λ (u : Verdict). u.rule) e))

pub entry_passed : (b : Bag) (n : ℕ) (other : Verdict) → verdict 0 0 ≡ entry_found b n (verdict 0 0) → other ≡ entry_found b n other
unfolding entry_found
entry_passed b n other is = go (ltb r b.len) is
  where
    r : ℕ
    r = first_from (entry_below b.table n) 0 b.len

    go : (t : Bool) → verdict 0 0 ≡ pick t (verdict 1 r) (verdict 0 0) → other ≡ pick t (verdict 1 r) other
    go true e = absurd (let z : ◌≡◌ {A = ℕ} 0 1 = ap (λ (u : Verdict). u.rule) e in omega arith)
    go false e = refl

-- Every entry of every list is below n and the verdict is 0, or one isn't and the verdict is rule 1.
pub entries_cases : (l : Lists) (n : ℕ)
    → (((b : Bucket) → Each (λ x. x < n) (list_of b l)) × ((entries_found l n).rule ≡ 0)) ⊎ ((((b : Bucket) → Each (λ x. x < n) (list_of b l)) → ⊥) × ((entries_found l n).rule ≡ 1))
unfolding entries_found
entries_cases l n = first (entry_cases l.small n two)
  where
    three : Verdict
    three = entry_found l.large n (verdict 0 0)

    two : Verdict
    two = entry_found l.medium n three

    All : Type 0
    All = (b : Bucket) → Each (λ x. x < n) (list_of b l)

    Goal : Verdict → Type 0
    Goal v = (All × (v.rule ≡ 0)) ⊎ ((All → ⊥) × (v.rule ≡ 1))

    all : Below n l.small → Below n l.medium → Below n l.large → All
    all a b c Small = a
    all a b c Medium = b
    all a b c Large = c

    third : Below n l.small → Below n l.medium → (Below n l.large × (three ≡ verdict 0 0)) ⊎ ((Below n l.large → ⊥) × (three.rule ≡ 1)) → Goal three
    third a b (inl h) = inl (all a b h.0, ap (λ (v : Verdict). v.rule) h.1)
    third a b (inr h) = inr (λ f. h.0 (f Large), h.1)

    second : Below n l.small → (Below n l.medium × (two ≡ three)) ⊎ ((Below n l.medium → ⊥) × (two.rule ≡ 1)) → Goal two
    second a (inl h) = rw h.1 (third a h.0 (entry_cases l.large n (verdict 0 0)))
    second a (inr h) = inr (λ f. h.0 (f Medium), h.1)

    first : (Below n l.small × (entry_found l.small n two ≡ two)) ⊎ ((Below n l.small → ⊥) × ((entry_found l.small n two).rule ≡ 1)) → Goal (entry_found l.small n two)
    first (inl h) = rw h.1 (second h.0 (entry_cases l.medium n three))
    first (inr h) = inr (λ f. h.0 (f Small), h.1)

module _ (s : State) where
  -- Where rule 1 holds, the numbers are in order.
  pub counted_numbers : Counted s → numbers_of s ≡ true
  counted_numbers c =
      (numbers_say _ _ _ _ s.head).1
      (λ e. omega (arith, c.some), (c.fits, (c.within Small, (c.within Medium, (c.within Large, (c.valid, c.root))))))

  module _ (lent : LentOf s) (h : numbers_of s ≡ true) where
    within : Within (lists_of s)
    within Small = ((numbers_say _ _ _ _ s.head).0 h).1.1.0
    within Medium = ((numbers_say _ _ _ _ s.head).0 h).1.1.1.0
    within Large = ((numbers_say _ _ _ _ s.head).0 h).1.1.1.1.0

    pub numbers_ready : EntriesReady (lists_of s)
    numbers_ready =
        record {
          within = within;
          small = omega (arith, within Small, lent.small.few);
          medium = omega (arith, within Medium, lent.medium.few);
          large = omega (arith, within Large, lent.large.few);
        }

    -- The slot table holds the slots below n.
    pub numbers_table : Table s.words s.head.count
    numbers_table =
        let n = (numbers_say _ _ _ _ s.head).0 h in
        record { slots = omega (arith, n.1.0, lent.eight); few = omega (arith, n.1.0, lent.few) }

    -- With every entry below n they are rule 1.
    pub numbers_counted : ((b : Bucket) → Each (λ x. x < s.head.count) (list_of b (lists_of s))) → Counted s
    numbers_counted f =
        let n = (numbers_say _ _ _ _ s.head).0 h in
        record {
          some = omega (arith, n.0);
          fits = n.1.0;
          valid = n.1.1.1.1.1.0;
          within = within;
          root = n.1.1.1.1.1.1;
          entries = f;
        }
