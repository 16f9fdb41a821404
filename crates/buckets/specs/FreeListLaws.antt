-- The laws of the three lists: each is stated once, over the bucket.
-- Assumes nothing.
use Rattle.std.specs.Prelude.{◌≡◌, refl, List, ℕ, ◌≤◌, ◌<◌, length}
use Rattle.std.proofs.Common.{arith}
use Rattle.geometry.specs.declared.Bucket.{Bucket}
use Rattle.geometry.specs.declared.Bucket.TheVariants.{Small, Medium, Large}
use Rattle.lists.specs.Lists.{Bag, appended, removed}
use Rattle.pushes.specs.Pushes.{swept, pushed, Pushable}
use Rattle.buckets.specs.FreeLists.{Lists, list_of, with_list, Within, pushed_to, removed_from}
use Rattle.lists.specs.ListLaws.{length_removed}
use Rattle.pushes.proofs.PushLaws.{room_given, room_gone, push_appends, push_sweeps, pushed_within}

-- A bucket's list is the one that was put there, and the other buckets' lists are as they were.
pub list_of_with_list_same : (b : Bucket) (x : Bag) (l : Lists) → list_of b (with_list b x l) ≡ x
list_of_with_list_same Small x l = refl
list_of_with_list_same Medium x l = refl
list_of_with_list_same Large x l = refl

pub list_of_with_list_other : (b c : Bucket) (x : Bag) (l : Lists) → (c ≡ b → ⊥) → list_of c (with_list b x l) ≡ list_of c l
list_of_with_list_other Small Small x l n = absurd (n refl)
list_of_with_list_other Small Medium x l n = refl
list_of_with_list_other Small Large x l n = refl
list_of_with_list_other Medium Small x l n = refl
list_of_with_list_other Medium Medium x l n = absurd (n refl)
list_of_with_list_other Medium Large x l n = refl
list_of_with_list_other Large Small x l n = refl
list_of_with_list_other Large Medium x l n = refl
list_of_with_list_other Large Large x l n = absurd (n refl)

-- What holds of the new list, and of each old one, holds of each list.
pub with_list_elim : (P : Bucket → Bag → Type 0) (c : Bucket) (x : Bag) (l : Lists) → P c x → ((b : Bucket) → P b (list_of b l)) → (b : Bucket) → P b (list_of b (with_list c x l))
with_list_elim P Small x l p q Small = p
with_list_elim P Small x l p q Medium = q Medium
with_list_elim P Small x l p q Large = q Large
with_list_elim P Medium x l p q Small = q Small
with_list_elim P Medium x l p q Medium = p
with_list_elim P Medium x l p q Large = q Large
with_list_elim P Large x l p q Small = q Small
with_list_elim P Large x l p q Medium = q Medium
with_list_elim P Large x l p q Large = p

-- A push onto a bucket's list: with room it appends, and else it sweeps that list first.
module _ (w : List ℕ) (v : ℕ) (b c : Bucket) (l : Lists) (x : Bag) (e : b ≡ c) where
  pub roomy_pushed : (list_of c l).len < length (list_of c l).table → x ≡ appended (list_of c l) v → with_list c x l ≡ pushed_to w v b l
  roomy_pushed h f = rw (e, f, ← push_appends w v (list_of c l) (room_given _ _ h))

  pub full_pushed : length (list_of c l).table ≤ (list_of c l).len → x ≡ appended (swept w v (list_of c l)) v → with_list c x l ≡ pushed_to w v b l
  full_pushed h f = rw (e, f, ← push_sweeps w v (list_of c l) (room_gone _ _ h))

-- A push and a removal leave the lengths within the tables.
pub pushed_to_within : (w : List ℕ) (v : ℕ) (b : Bucket) (l : Lists) → Pushable w v (list_of b l) → Within l → Within (pushed_to w v b l)
pushed_to_within w v b l p = with_list_elim (λ _ (x : Bag). x.len ≤ length x.table) b (pushed w v (list_of b l)) l (pushed_within w v (list_of b l) p)

pub removed_from_within : (b : Bucket) (k : ℕ) (l : Lists) → Within l → Within (removed_from b k l)
removed_from_within b k l w =
    with_list_elim (λ _ (x : Bag). x.len ≤ length x.table) b (removed (list_of b l) k) l
    (rw (length_removed (list_of b l) k) (omega (arith, w b))) w
