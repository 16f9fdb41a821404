-- The laws by which the audit and the check are proved.
-- Assumes nothing.
use Rattle.std.specs.Prelude.{◌≡◌, refl, Bool, true, false, ◌⊎◌, ℕ, zero, suc, ◌+◌, ◌-◌, ◌≤◌, ◌<◌, ltb}
use Rattle.std.proofs.Common.{ap, sym, ◌∙◌, true≢false, inl, inr, ⊎_elim, arith}
use Rattle.std.proofs.Math.Path.{subst}
use Rattle.geometry.specs.Choice.{pick}
use Rattle.geometry.specs.Sides.{setup_of}
use Rattle.geometry.specs.declared.Bucket.{Bucket}
use Rattle.geometry.specs.declared.Setup.{Setup}
use Rattle.lists.specs.Lists.{Each}
use Rattle.buckets.specs.FreeLists.{list_of}
use Rattle.steps.specs.Spares.{unused_below}
use Rattle.steps.specs.State.{State, lists_of}
use Rattle.sound.specs.Sound.{Counted, Listed}
use Rattle.links.specs.Links.{spare_walk}
use Rattle.links.proofs.SpareLaws.{spare_walk_yes, spare_walk_no}
use Rattle.lent.specs.Lent.{LentOf}
use Rattle.below.specs.Below.{first_from}
use Rattle.marks.specs.Marks.{listed_at, marks_of, ListsReady}
use Rattle.audit.specs.Audited as audited
use Rattle.audit.specs.Audited.{Rule2, has_entry, Audited}
use Rattle.judged.specs.Verdicts.{Verdict, lowest_bad}
use Rattle.counted.specs.Numbers.{numbers_of, entries_found}
use Rattle.walked.specs.Trees.{firsts_of, TreeReady}
use Rattle.judged.specs.Judged as judged
use Rattle.judged.specs.Judged.{AllMarked, Judged}
use Rattle.audit.proofs.EntryLaws.{marks_say_entries, entries_say_listed}
use Rattle.counted.specs.CountLaws.{entries_cases, counted_numbers, numbers_counted, numbers_table}

-- Tests that agree on the first n places have the same lowest bad one.
first_same : (p q : ℕ → Bool) (from left : ℕ) → ((i : ℕ) → from ≤ i → i < from + left → p i ≡ q i) → first_from p from left ≡ first_from q from left
unfolding first_from
first_same p q from zero f = refl
first_same p q from (suc left) f =
    let r = first_same p q (from + 1) left (λ i a b. f i (omega arith) (omega arith)) in
    rw (f from (omega arith) (omega arith), r)

lowest_same : (p q : ℕ → Bool) (n : ℕ) → ((i : ℕ) → i < n → p i ≡ q i) → lowest_bad p n ≡ lowest_bad q n
unfolding lowest_bad
lowest_same p q n f = ap (λ r. pick (ltb r n) r 0) (first_same p q 0 n (λ i a b. f i (omega arith)))

module _ (s : State) (L : LentOf s) where
  -- The numbers are not in order.
  pub audit_numbers : numbers_of s ≡ false → Audited s 1 0
  audit_numbers e =
      subst (λ k. Audited s 1 k) (ap (λ t. pick t (entries_found (lists_of s) s.head.count).place 0) e)
      (audited.rule1 (λ c. true≢false (sym (counted_numbers s c) ∙ e)))

  module _ (N : numbers_of s ≡ true) {v : Verdict} (is : v ≡ entries_found (lists_of s) s.head.count) where
    -- An entry isn't below n.
    pub audit_entries : (v.rule ≡ 0 → ⊥) → Audited s v.rule v.place
    audit_entries bad = rw is (go (entries_cases (lists_of s) s.head.count))
      where
        found : Verdict
        found = entries_found (lists_of s) s.head.count

        All : Type 0
        All = (b : Bucket) → Each (λ x. x < s.head.count) (list_of b (lists_of s))

        go : (All × (found.rule ≡ 0)) ⊎ ((All → ⊥) × (found.rule ≡ 1)) → Audited s found.rule found.place
        go (inl h) = absurd (bad (ap (λ (u : Verdict). u.rule) is ∙ h.1))
        go (inr h) =
            rw h.1
            (subst (λ k. Audited s 1 k) (ap (λ t. pick t found.place 0) N) (audited.rule1 (λ c. h.0 c.entries)))

    module _ (zero-rule : v.rule ≡ 0) where
      counted : Counted s
      counted =
          ⊎_elim {C = Counted s} (λ h. numbers_counted s L N h.0)
          (λ h. absurd (let z : ◌≡◌ {A = ℕ} 0 1 = sym zero-rule ∙ (ap (λ (u : Verdict). u.rule) is ∙ h.1) in omega arith))
          (entries_cases (lists_of s) s.head.count)

      ready : ListsReady (lists_of s)
      ready =
          record {
            within = counted.within;
            below = λ b k h. omega (arith, counted.entries b k h, (numbers_table s L N).few);
          }

      module _ {u : ℕ} (isU : u ≡ unused_below s.words s.head.count) where
        -- The walk over the spare chain fails.
        pub audit_spare : spare_walk s.words s.head.count u s.head.spare ≡ false → Audited s 2 0
        audit_spare e =
            audited.rule2 counted
            (λ r. true≢false (sym (spare_walk_no s.words s.head.count (numbers_table s L N) s.head.spare r) ∙ (ap (λ k. spare_walk s.words s.head.count k s.head.spare) (sym isU) ∙ e)))

        pub audit_tree_ready : TreeReady s.words (lists_of s) s.head.count s.head.root.0 (s.head.count - u)
        audit_tree_ready =
            record { table = numbers_table s L N; top = counted.root; lists = ready; count = ap (λ k. s.head.count - k) isU }

        module _ (walk : spare_walk s.words s.head.count u s.head.spare ≡ true) where
          spare : Rule2 s
          spare = spare_walk_yes s.words s.head.count (numbers_table s L N) s.head.spare (rw isU at walk)

          abbrev setup : Setup
          setup = setup_of s.head.sheet s.head.options

          same : (i : ℕ) → i < s.head.count → listed_at s.words (marks_of (lists_of s)) setup i ≡ has_entry s i
          same i h = marks_say_entries s ready i (omega (arith, (numbers_table s L N).few))

          listed : AllMarked s.words (marks_of (lists_of s)) setup s.head.count → Listed s
          listed f = (entries_say_listed s).1 (λ i h. sym (same i h) ∙ f i h)

          all_marked : Listed s → AllMarked s.words (marks_of (lists_of s)) setup s.head.count
          all_marked f i h = same i h ∙ (entries_say_listed s).0 f i h

          -- The verdict on the rules from the third on is the verdict.
          pub audit_judged : {r k : ℕ}
              → Judged s.words (firsts_of s.words s.head.count) (marks_of (lists_of s)) s.head.count s.head.root.0 setup r k → Audited s r k
          unfolding setup_of
          audit_judged (judged.sound a b c d e) =
              audited.sound (record { rule1 = counted; rule2 = spare; rule3 = a; rule4 = b; rule5 = c; rule6 = listed d; rule7 = e })
          audit_judged (judged.rule3 a) = audited.rule3 counted spare a
          audit_judged (judged.rule4 a b) = audited.rule4 counted spare a b
          audit_judged (judged.rule5 a b c) = audited.rule5 counted spare a b c
          audit_judged (judged.rule6 a b c d) =
              subst (λ k. Audited s 6 k) (sym (lowest_same (listed_at s.words (marks_of (lists_of s)) setup) (has_entry s) s.head.count same))
              (audited.rule6 counted spare a b c (λ f. d (all_marked f)))
          audit_judged (judged.rule7 a b c d e) = audited.rule7 counted spare a b c (listed d) e
