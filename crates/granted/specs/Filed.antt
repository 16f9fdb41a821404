-- The free lists through a call, as rule 1 speaks of them: within their tables, with entries below n. So they can be pushed to.
-- Assumes nothing.
use Rattle.std.specs.Prelude.{ℕ, ◌*◌, ◌≤◌, ◌<◌, ◌≡◌, refl, List, length}
use Rattle.std.proofs.Common.{◌∙◌, arith}
use Rattle.geometry.specs.declared.Bucket.{Bucket}
use Rattle.geometry.specs.declared.Extent.{Extent}
use Rattle.geometry.specs.declared.Setup.{Setup}
use Rattle.buckets.specs.FreeListLaws.{with_list_elim, pushed_to_within, removed_from_within}
use Rattle.buckets.specs.FreeLists.{Lists, list_of, Within, pushed_to, removed_from}
use Rattle.lists.specs.ListLaws.{length_removed, each_removed}
use Rattle.lists.specs.Lists.{Bag, removed, Each}
use Rattle.pushes.specs.Pushes.{pushed, Pushable}
use Rattle.pushes.proofs.PushLaws.{length_pushed, each_pushed}
use Rattle.search.proofs.FindLaws.{search_keeps_searchable, search_within, search_each}
use Rattle.choices.specs.Choices.{Searched, Searchable}
use Rattle.search.specs.Search.{find_suitable}
use Rattle.steps.specs.State.{State, lists_of}
use Rattle.sound.specs.Sound.{Counted}

-- Lists within their tables, which are as long as those of `was`; every entry is below n.
pub record Filed (n : ℕ) (was l : Lists) : Type 0 where
  pub within : Within l
  pub tables : (b : Bucket) → length (list_of b l).table ≡ length (list_of b was).table
  pub entries : (b : Bucket) → Each (λ x. x < n) (list_of b l)

-- Such are the lists of tables that keep rule 1.
pub counted_filed : {s : State} → Counted s → Filed s.head.count (lists_of s) (lists_of s)
counted_filed C = record { within = C.within; tables = λ b. refl; entries = C.entries }

-- They stay so where n grows,
pub filed_more : {n m : ℕ} {was l : Lists} → n ≤ m → Filed n was l → Filed m was l
filed_more h F = record { within = F.within; tables = F.tables; entries = λ b k l. let z = F.entries b k l in omega arith }

-- where they are searched,
pub search_filed : {n : ℕ} {was l : Lists} (w : List ℕ) (s : Setup) (e : Extent) (f : Searched) → f ≡ find_suitable w s e l → Searchable w l
    → Filed n was l → Filed n was f.lists
search_filed {n} {was} {l} w s e f q R F = record {
  within = λ b. (search_keeps_searchable w s e l f q R b).within;
  tables = λ b. (search_within w s e l f q R b).0 ∙ F.tables b;
  entries = λ b. search_each w s e l f q R (λ x. x < n) b (F.entries b);
}

-- where an entry is taken out,
pub removed_filed : {n : ℕ} {was l : Lists} (b : Bucket) (k : ℕ) → k < (list_of b l).len → Filed n was l → Filed n was (removed_from b k l)
removed_filed {n} {was} {l} b k p F = record {
  within = removed_from_within b k l F.within;
  tables = with_list_elim (λ c (x : Bag). length x.table ≡ length (list_of c was).table) b (removed (list_of b l) k) l
      (length_removed (list_of b l) k ∙ F.tables b) F.tables;
  entries = with_list_elim (λ _ (x : Bag). Each (λ y. y < n) x) b (removed (list_of b l) k) l
      (each_removed (λ y. y < n) (list_of b l) k p (F.within b) (F.entries b)) F.entries;
}

-- and where a slot below n is pushed. The slot table holds n slots, and each list table at least as many entries as that has slots.
module _ {n : ℕ} {was l : Lists} (w : List ℕ) (slots : n * 8 ≤ length w) (few : length w ≤ 32768)
    (room : (b : Bucket) → length w ≤ length (list_of b was).table * 8) (v : ℕ) (h : v < n) (b : Bucket) (F : Filed n was l) where
  pub filed_pushable : Pushable w v (list_of b l)
  filed_pushable = record {
    entries = record { within = F.within b; has = λ k g. let z = F.entries b k g in omega arith };
    few = few;
    room = rw (F.tables b) (room b);
    slots = omega arith;
  }

  pub pushed_filed : Filed n was (pushed_to w v b l)
  pushed_filed = record {
    within = pushed_to_within w v b l filed_pushable F.within;
    tables = with_list_elim (λ c (x : Bag). length x.table ≡ length (list_of c was).table) b (pushed w v (list_of b l)) l
        (length_pushed w v (list_of b l) filed_pushable ∙ F.tables b) F.tables;
    entries = with_list_elim (λ _ (x : Bag). Each (λ y. y < n) x) b (pushed w v (list_of b l)) l
        (each_pushed w v (list_of b l) filed_pushable (λ y. y < n) (F.entries b) h) F.entries;
  }
