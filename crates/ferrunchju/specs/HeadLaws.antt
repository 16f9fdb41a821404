-- After every call the list lengths fit words again: on a refusal the head is as it was read, and else the tables are sound.
-- Assumes nothing.
use Rattle.std.specs.Prelude.{◌≡◌, Bool, true, false, List, ◌⊎◌, ℕ}
use Rattle.std.proofs.Common.{ap, inl, inr, arith}
use Rattle.std.proofs.Math.Decide.{ℕ_discrete}
use Rattle.geometry.specs.Buckets.{bucket_of}
use Rattle.geometry.specs.Sides.{valid_setup, setup_of}
use Rattle.geometry.specs.declared.AllocatorOptions.{AllocatorOptions}
use Rattle.geometry.specs.declared.Bucket.{Bucket}
use Rattle.geometry.specs.declared.Bucket.TheVariants.{Small, Medium, Large}
use Rattle.geometry.specs.declared.Size.{Size}
use Rattle.tickets.specs.declared.AllocId.{AllocId}
use Rattle.lists.specs.Lists.{appended}
use Rattle.buckets.specs.FreeLists.{list_of, with_list}
use Rattle.steps.specs.State.{State}
use Rattle.steps.specs.declared.Head.{Head}
use Rattle.sound.specs.Sound.{Sound}
use Rattle.lent.specs.Lent.{lent, LentOf}
use Rattle.outcomes.specs.Given.{Given}
use Rattle.audit.specs.Answers.{Answers}
use Rattle.audit.proofs.AnswerLaws.{answers_cases}
use Rattle.sheets.specs.Sheets.{no_entries, state_with, started}
use Rattle.starts.specs.Starts.{start_answer, start_call, clear_call}
use Rattle.heads.specs.Words.{with_changes, ShortLists}
use Rattle.allocate.specs.Allocate.{Crop, AllocateCall}
use Rattle.allocate.specs.AllocateWhen.{allocate_keeps_sound, allocate_refusal_changes_nothing, allocate_refusal_changes_lists_alone, allocate_gives_out}
use Rattle.deallocate.specs.Deallocate.{DeallocateCall}
use Rattle.deallocate.specs.DeallocateWhen.{deallocate_keeps_sound, deallocate_refused, deallocate_frees_one}
use Rattle.grow.specs.Grow.{GrowCall}
use Rattle.grow.specs.GrowWhen.{grow_keeps_sound}

-- On sound tables with lengths in range a list has at most 16,384 entries.
pub sound_short : {s : State} → Sound s → LentOf s → ShortLists s.head
sound_short S L =
    record {
      small = let h = S.rule1.within Small in let k = L.small.few in omega arith;
      medium = let h = S.rule1.within Medium in let k = L.medium.few in omega arith;
      large = let h = S.rule1.within Large in let k = L.large.few in omega arith;
    }

-- A call that checks first, and keeps sound tables sound.
pub answers_short : {A : Type 0} {nothing : A} {s : State} {core o : Given A} → Answers nothing s core o
    → (LentOf s → Sound s → Sound o.after × LentOf o.after) → ShortLists s.head → ShortLists o.after.head
answers_short {A} {s = s} call keeps short =
    answers_cases call (λ (g : Given A). (LentOf s → Sound s → Sound g.after × LentOf g.after) → ShortLists g.after.head) (λ _ _. short) (λ _ _ _. short)
    (λ L S k. let h = k L S in sound_short h.0 h.1) keeps

pub allocate_short : (size : Size) {s : State} {o : Given Crop} → AllocateCall size s o → ShortLists s.head → ShortLists o.after.head
allocate_short size {s} call = answers_short call (allocate_keeps_sound s size call)

pub deallocate_short : (t : AllocId) {s : State} {o : Given (Unit {0})} → DeallocateCall s t o → ShortLists s.head → ShortLists o.after.head
deallocate_short t {s} call = answers_short call (deallocate_keeps_sound s t call)

pub grow_short : (new : Size) {s : State} {o : Given (Unit {0})} → GrowCall s new o → ShortLists s.head → ShortLists o.after.head
grow_short new {s} call = answers_short call (grow_keeps_sound s new call)

-- Allocate and deallocate keep the sheet, the options and the root, so what they change of the head is all that is written.
same_rest : (h k : Head) → k.sheet ≡ h.sheet → k.options ≡ h.options → k.root ≡ h.root → with_changes h k ≡ k
same_rest h k p q r = rw (← p, ← q, ← r)

pub allocate_rest : (size : Size) {s : State} {o : Given Crop} → AllocateCall size s o → with_changes s.head o.after.head ≡ o.after.head
allocate_rest size {s} {o} call = done (ℕ_discrete o.answer 0)
  where
    lists_alone : (o.answer ≡ 6) ⊎ (o.answer ≡ 7) → with_changes s.head o.after.head ≡ o.after.head
    lists_alone h =
        let r = (allocate_refusal_changes_lists_alone s size call h).2.head in
        same_rest s.head o.after.head (ap (λ (x : Head). x.sheet) r) (ap (λ (x : Head). x.options) r) (ap (λ (x : Head). x.root) r)

    seven : (o.answer ≡ 0 → ⊥) → (o.answer ≡ 6 → ⊥) → Dec (o.answer ≡ 7) → with_changes s.head o.after.head ≡ o.after.head
    seven n m (yes e) = lists_alone (inr e)
    seven n m (no k) = rw (allocate_refusal_changes_nothing s size call n m k)

    six : (o.answer ≡ 0 → ⊥) → Dec (o.answer ≡ 6) → with_changes s.head o.after.head ≡ o.after.head
    six n (yes e) = lists_alone (inl e)
    six n (no m) = seven n m (ℕ_discrete o.answer 7)

    done : Dec (o.answer ≡ 0) → with_changes s.head o.after.head ≡ o.after.head
    done (yes e) = let g = (allocate_gives_out s size call e).2.same in same_rest s.head o.after.head g.0 g.1 g.2
    done (no n) = six n (ℕ_discrete o.answer 6)

pub deallocate_rest : (t : AllocId) {s : State} {o : Given (Unit {0})} → DeallocateCall s t o → with_changes s.head o.after.head ≡ o.after.head
deallocate_rest t {s} {o} call = done (ℕ_discrete o.answer 0)
  where
    done : Dec (o.answer ≡ 0) → with_changes s.head o.after.head ≡ o.after.head
    done (yes e) = let f = (deallocate_frees_one s t call e).same in same_rest s.head o.after.head f.sheet f.options f.root
    done (no n) = rw (deallocate_refused s t call n)

-- A new sheet has one entry.
entered_short : (b : Bucket) (sheet : Size) (options : AllocatorOptions) (w g x y z : List ℕ)
    → ShortLists (state_with sheet options w g (with_list b (appended (list_of b (no_entries x y z)) 0) (no_entries x y z))).head
entered_short Small sheet options w g x y z = record { small = omega arith; medium = omega arith; large = omega arith }
entered_short Medium sheet options w g x y z = record { small = omega arith; medium = omega arith; large = omega arith }
entered_short Large sheet options w g x y z = record { small = omega arith; medium = omega arith; large = omega arith }

started_short : (sheet : Size) (options : AllocatorOptions) (w g x y z : List ℕ) → ShortLists (started sheet options w g x y z).head
unfolding started
started_short sheet options w g x y z =
    let s = setup_of sheet options in entered_short (bucket_of s.small s.large s.sheet.width s.sheet.height) sheet options w g x y z

pub start_short : (sheet : Size) (options : AllocatorOptions) (s : State) {o : Given (Unit {0})} → o ≡ start_call sheet options s → ShortLists s.head → ShortLists o.after.head
unfolding start_call
start_short sheet options s e short = rw e (go (lent s) (valid_setup sheet options))
  where
    go : (l v : Bool) → ShortLists (start_answer l v sheet options s).after.head
    go true true = started_short sheet options s.words s.generations s.small s.medium s.large
    go true false = short
    go false v = short

pub clear_short : (s : State) {o : Given (Unit {0})} → o ≡ clear_call s → ShortLists s.head → ShortLists o.after.head
unfolding clear_call
clear_short s = start_short s.head.sheet s.head.options s
