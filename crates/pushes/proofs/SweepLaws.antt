-- The sweep as it runs is the sweep as it is defined.
-- Assumes nothing.
use Rattle.std.specs.Prelude.{◌≡◌, refl, Bool, not, ◌||◌, List, [], ◌∷◌, ◌++◌, set, drop, replicate, eqb}
use Rattle.std.proofs.Common.{sym, ◌∙◌, append-nil, arith, length-set, length-append, get_or-set_same, get_or-set_other, drop-cons, eq-eqb, ne_eqb}
use Rattle.std.proofs.Math.Bool.{true, false}
use Prim.Native.Nat.{ℕ, zero, suc, ◌+◌, ◌≤◌, ◌<◌}
use Rattle.std.proofs.Math.Decide.{ℕ_discrete}
use Rattle.std.proofs.Math.Numerals.{add-one}
use Rattle.std.proofs.Math.ListN.{length, get_or, length-replicate}
use Rattle.std.proofs.lemmas.List.{get_or-replicate, set_at}
use Rattle.std.proofs.Math.Seq.{append_snoc}
use Rattle.geometry.specs.Choice.{pick, pick_elim}
use Rattle.lists.specs.Lists.{bag, occurs, Entries}
use Rattle.pushes.specs.Pushes.{keeps, keepers, swept}
use Rattle.pushes.specs.Sweeps.{Sweeping, sweeping, is_kept, Sweepable, sweep_step, sweep_to}
use Rattle.pushes.specs.SweepLaws.{Ahead}

-- A step looks at one entry more.
pub step_ahead : (w t m : List ℕ) (v i : ℕ) (s : Sweeping) → Ahead t m i s → Ahead t m (suc i) (sweep_step w v i s)
unfolding sweep_step
step_ahead w t m v i s a =
    let x = get_or s.table i 0 in
    pick_elim (Ahead t m (suc i)) (is_kept w v s.marks x) _ _
    (λ _.
    record {
      table_length = simp length-set a.table_length;
      marks_length = simp length-set a.marks_length;
      few = omega (arith, a.few);
      same = λ j h. get_or-set_other s.table s.kept j x 0 (λ e. omega (arith, a.few)) ∙ a.same j (omega arith);
    })
    (λ _.
    record {
      table_length = a.table_length;
      marks_length = simp length-set a.marks_length;
      few = omega (arith, a.few);
      same = λ j h. a.same j (omega arith);
    })

-- At the start every entry is ahead.
pub start_ahead : (t m : List ℕ) → Ahead t m 0 (sweeping t m 0)
start_ahead t m = record { table_length = refl; marks_length = refl; few = omega arith; same = λ j h. refl }

-- One turn of the loop, s being what the first i entries left and r what entry i then left.
module _ (w t m : List ℕ) (v i : ℕ) (s r : Sweeping) (e : r ≡ sweep_step w v i s) where
  pub next_ahead : Ahead t m i s → Ahead t m (i + 1) r
  next_ahead a = rw (e, add-one) (step_ahead w t m v i s a)

  pub next_sweep : s ≡ sweep_to w v i (sweeping t m 0) → r ≡ sweep_to w v (i + 1) (sweeping t m 0)
  unfolding sweep_to
  next_sweep q = rw (e, add-one, q)

-- An entry still ahead can be looked at.
pub ahead_sweepable : (w t m : List ℕ) (len i : ℕ) (s : Sweeping) → Entries w (bag t len) → length w ≤ 32768 → length m ≡ 4096 → Ahead t m i s → i < len
    → Sweepable w s.marks (get_or s.table i 0)
ahead_sweepable w t m len i s e few n a h =
    rw (a.same i (omega arith))
    (record { has = e.has i h; marked = omega (arith, a.marks_length, e.has i h) })

-- After i entries the kept ones of these stand first, and exactly the entries seen are marked.
record Runs (w : List ℕ) (v : ℕ) (t : List ℕ) (i : ℕ) (s : Sweeping) : Type 0 where
  table : s.table ≡ keepers w v t i ++ drop s.kept t
  kept : s.kept ≡ length (keepers w v t i)
  marks : (x : ℕ) → x < length s.marks → eqb (get_or s.marks x 0) 0 ≡ not (occurs t x i)

-- An entry is marked, and no other.
marked : (t m : List ℕ) (i : ℕ) → get_or t i 0 < length m → ((x : ℕ) → x < length m → eqb (get_or m x 0) 0 ≡ not (occurs t x i))
    → (x : ℕ) → x < length (set m (get_or t i 0) 1) → eqb (get_or (set m (get_or t i 0) 1) x 0) 0 ≡ not (occurs t x (suc i))
unfolding occurs
marked t m i h r x l = go (ℕ_discrete x (get_or t i 0))
  where
    go : Dec (x ≡ get_or t i 0) → eqb (get_or (set m (get_or t i 0) 1) x 0) 0 ≡ not (eqb (get_or t i 0) x || occurs t x i)
    go (yes e) = rw (e, get_or-set_same m (get_or t i 0) 1 0 h, eq-eqb (get_or t i 0) (get_or t i 0) refl)
    go (no n) = rw (get_or-set_other m (get_or t i 0) x 1 0 n, ne_eqb (get_or t i 0) x (λ e. n (sym e))) (r x (simp length-set at l))

-- One more entry behind the kept ones.
placed : (k t : List ℕ) (x n : ℕ) → n ≡ length k → n < length t → set (k ++ drop n t) n x ≡ (k ++ (x ∷ [])) ++ drop (n + 1) t
placed k t x n e h =
    rw (drop-cons t n 0 h, add-one) (set_at k (get_or t n 0) (drop (suc n) t) x n (sym e) ∙ sym (append_snoc k x (drop (suc n) t)))

-- A step keeps this, where its entry can be looked at.
module _ (w t m : List ℕ) (v i : ℕ) (s : Sweeping) (a : Ahead t m i s) (h : i < length t) (g : get_or t i 0 < length s.marks) (r : Runs w v t i s) where
  kept_same : is_kept w v s.marks (get_or t i 0) ≡ keeps w v t i
  unfolding is_kept keeps
  kept_same = rw (r.marks (get_or t i 0) g)

  step_runs : Runs w v t (suc i) (sweep_step w v i s)
  unfolding sweep_step keepers
  step_runs = rw (a.same i (omega arith), kept_same) (go (keeps w v t i) refl)
    where
      go : (b : Bool) → keeps w v t i ≡ b
          → Runs w v t (suc i)
          (pick b (sweeping (set s.table s.kept (get_or t i 0)) (set s.marks (get_or t i 0) 1) (s.kept + 1)) (sweeping s.table (set s.marks (get_or t i 0) 1) s.kept))
      go true e =
          record {
            table = rw (e, r.table) (placed (keepers w v t i) t (get_or t i 0) s.kept r.kept (omega (arith, a.few)));
            kept = rw (e, length-append) (omega (arith, r.kept));
            marks = marked t s.marks i g r.marks;
          }
      go false e =
          record {
            table = rw (e, append-nil) r.table;
            kept = rw (e, append-nil) r.kept;
            marks = marked t s.marks i g r.marks;
          }

-- THE LAW: the sweep as it runs, from marks that are all zero, is the sweep as it is defined.
module _ (w t : List ℕ) (v len : ℕ) (e : Entries w (bag t len)) (few : length w ≤ 32768) where
  sweep_so_far : (i : ℕ) → i ≤ len → let s = sweep_to w v i (sweeping t (replicate 4096 0) 0) in Ahead t (replicate 4096 0) i s × Runs w v t i s
  unfolding sweep_to keepers occurs
  sweep_so_far zero h = (
    start_ahead t (replicate 4096 0),
    record { table = refl; kept = refl; marks = λ x l. rw (get_or-replicate {A = ℕ} 4096 x 0 0 (rw (length-replicate {A = ℕ} 4096 0) at l)) },
  )
  sweep_so_far (suc i) h =
      let s = sweep_to w v i (sweeping t (replicate 4096 0) 0) in
      let r = sweep_so_far i (omega arith) in
      let n = length-replicate {A = ℕ} 4096 0 in
      let g : get_or t i 0 < length s.marks = omega (arith, n, r.0.marks_length, e.has i (omega arith)) in
      (step_ahead w t (replicate 4096 0) v i s r.0, step_runs w t (replicate 4096 0) v i s r.0 (omega (arith, e.within)) g r.1)

  pub sweep_runs : let s = sweep_to w v len (sweeping t (replicate 4096 0) 0) in bag s.table s.kept ≡ swept w v (bag t len)
  unfolding swept
  sweep_runs = let r = (sweep_so_far len (omega arith)).1 in rw (r.table, r.kept)
