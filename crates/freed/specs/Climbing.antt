-- The climb on the slot table: each level keeps what holds where the climb stands, and it ends with rule 4 everywhere.
-- Assumes nothing.
use Prim.Native.Nat.{ℕ, zero, suc, ◌*◌, ◌≤◌}
use Rattle.std.specs.Prelude.{◌≡◌, true, false, ◌&&◌, not, ◌⊎◌, List, length}
use Rattle.std.proofs.Math.Path.{refl}
use Rattle.std.proofs.Common.{sym, ◌∙◌, ap, inl, inr, arith}
use Rattle.std.proofs.lemmas.Bool.{false≢true, not-true}
use Rattle.geometry.specs.Choice.{pick, pick_elim}
use Rattle.geometry.specs.TestLaws.{and_true_each}
use Rattle.geometry.specs.declared.Rectangle.{Rectangle}
use Rattle.slots.specs.Slots.{slot, is_none}
use Rattle.table.specs.Table.{node_at, HasSlot}
use Rattle.slots.specs.SlotLaws.{same_kind_equal}
use Rattle.slots.specs.declared.AllocIndex.{AllocIndex}
use Rattle.slots.specs.declared.NodeKind.TheVariants.{Free}
use Rattle.lists.specs.Lists.{free_entry}
use Rattle.lists.specs.CountLaws.{count_some}
use Rattle.sound.specs.View.{none, to, link_of, Seen, seen, in_use, Live}
use Rattle.sound.specs.Sound.{Merged}
use Rattle.forest.specs.Tree.{Tree}
use Rattle.links.specs.LinkLaws.{link_none, link_some, link_names}
use Rattle.changes.specs.Climbs.{Alone, climb_merged, next_once, next_twice, beyond_next, beyond_prev, absorb_next, absorb_prev}
use Rattle.changes.specs.Merges.{Absorb}
use Rattle.frees.specs.Climbs.{Level, level, absorbed, is_free, next_absorbed, absorbed_by_prev, is_only_child, given_up, climbed}
use Rattle.granted.specs.Writes.{slot_link, NextApart}
use Rattle.freed.specs.Merging.{absorb_writes, length_absorbed, give_writes, length_given}
use Rattle.freed.specs.Steps.{Standing, in_use_below, other_kind, absorb_stands, give_stands}

-- THE TESTS. A link names a Free slot.
free_link : (w : List ℕ) (j : AllocIndex) → is_free w j ≡ true → (link_of j ≡ to j.0) × ((seen w j.0).kind ≡ Free)
unfolding seen
free_link w j e =
    let t = and_true_each (not (is_none j)) (free_entry w j.0) e in
    (link_some j (not-true (is_none j) t.0), same_kind_equal _ Free t.1)

not_free_link : (w : List ℕ) (j : AllocIndex) → is_free w j ≡ false → (k : ℕ) → link_of j ≡ to k → (seen w k).kind ≡ Free → ⊥
unfolding seen
not_free_link w j e k l f =
    let q = link_names j k l in
    let z : is_free w j ≡ true = rw (q.0, q.1, f) refl in
    false≢true (sym e ∙ z)

-- An only child.
pub only_child : (w : List ℕ) (i : AllocIndex) → is_only_child w i ≡ true
    → ((seen w i.0).prev ≡ none) × ((seen w i.0).next ≡ none) × ((seen w i.0).parent ≡ to (node_at w i).parent.0)
unfolding is_only_child seen
only_child w i e =
    let t = and_true_each (is_none (node_at w i).prev) (is_none (node_at w i).next && not (is_none (node_at w i).parent)) e in
    let u = and_true_each (is_none (node_at w i).next) (not (is_none (node_at w i).parent)) t.1 in
    ((link_none (node_at w i).prev).0 t.0, (link_none (node_at w i).next).0 u.0, link_some (node_at w i).parent (not-true (is_none (node_at w i).parent) u.1))

not_only_child : (w : List ℕ) (i : AllocIndex) → is_only_child w i ≡ false
    → (p : ℕ) → (seen w i.0).parent ≡ to p → (seen w i.0).next ≡ none → (seen w i.0).prev ≡ none → ⊥
unfolding is_only_child seen
not_only_child w i e p a b c =
    let z : is_only_child w i ≡ true = rw ((link_none (node_at w i).prev).1 c, (link_none (node_at w i).next).1 b, (link_names (node_at w i).parent p a).0) refl in
    false≢true (sym e ∙ z)

-- THE LEVELS. The climb has come to a level: the table is as long as it was, and at most k slots are in use.
pub record Reached (was : ℕ → Seen) (size n root i : ℕ) (all : Rectangle) (T : Tree) (k : ℕ) (l : Level) : Type 0 where
  pub words : length l.words ≡ size
  pub stands : Standing was (seen l.words) n root i l.at.0 (link_of l.spare) all T
  pub left : in_use_below (seen l.words) n ≤ k

-- It has ended: rule 4 holds everywhere.
pub record Ended (was : ℕ → Seen) (size n root i : ℕ) (all : Rectangle) (T : Tree) (l : Level) : Type 0 where
  pub words : length l.words ≡ size
  pub stands : Standing was (seen l.words) n root i l.at.0 (link_of l.spare) all T
  pub merged : Merged (seen l.words) n

-- The next of the slot that it stands at is not Free.
abbrev pub NextCalm : Level → Type 0
NextCalm l = (j : ℕ) → (seen l.words l.at.0).next ≡ to j → (seen l.words j).kind ≡ Free → ⊥

module _ (was : ℕ → Seen) (size n root i : ℕ) (all : Rectangle) (T : Tree) (slots : n * 8 ≤ size) (few : size ≤ 32768) where
  abbrev At : ℕ → Level → Type 0
  At k l = Reached was size n root i all T k l

  module _ (k : ℕ) (l : Level) (R : At k l) where
    -- Live slots are slots of the table, which is short.
    pub in_table : (j : ℕ) → Live (seen l.words) n j → HasSlot l.words (slot j)
    in_table j v = omega (arith, R.words, v.0)

    pub short : length l.words ≤ 32768
    short = omega (arith, R.words)

    -- Where the climb stands at one of two Free neighbours, the first absorbs the second.
    pub absorb_reached : (a b : AllocIndex) → (l.at.0 ≡ a.0) ⊎ (l.at.0 ≡ b.0) → Live (seen l.words) n a.0
        → (seen l.words a.0).kind ≡ Free → (seen l.words a.0).next ≡ to b.0 → (seen l.words b.0).kind ≡ Free
        → At k (absorbed l.words l.spare a b) × Absorb (seen l.words) (seen (absorbed l.words l.spare a b).words) a.0 b.0
    unfolding absorbed
    absorb_reached a b f la ka e kb =
        let S = R.stands in
        let L = S.links in
        let g = seen l.words in
        let lb = L.near.next_live a.0 b.0 la e in
        let ne = next_once g n root L a.0 b.0 la e in
        let apart : NextApart l.words b.0 a.0 =
        λ j q. (in_table j (L.near.next_live b.0 j lb q), next_once g n root L b.0 j lb q, next_twice g n root L a.0 b.0 j la e q) in
        let op = absorb_writes l.words short l.spare a b (in_table a.0 la) (in_table b.0 lb) ne ka apart in
        let z = absorb_stands S a.0 b.0 f la ka e kb op.0 op.1 in (
          record {
            words = length_absorbed l.words l.spare a b ∙ R.words;
            stands = rw (slot_link l.words short b (in_table b.0 lb)) z.0;
            left = omega (arith, R.left, z.1);
          },
          op.0,
        )

    -- A Free next is absorbed,
    pub next_reached : At k (next_absorbed l) × NextCalm (next_absorbed l)
    unfolding next_absorbed absorbed seen
    next_reached = pick_elim (λ m. At k m × NextCalm m) (is_free l.words b) (absorbed l.words l.spare l.at b) l hit (λ e. (R, not_free_link l.words b e))
      where
        b : AllocIndex
        b = (node_at l.words l.at).next

        hit : is_free l.words b ≡ true → At k (absorbed l.words l.spare l.at b) × NextCalm (absorbed l.words l.spare l.at b)
        hit e =
            let S = R.stands in
            let g = seen l.words in
            let t = free_link l.words b e in
            let z = absorb_reached l.at b (inl refl) S.live S.free t.0 t.1 in (
              z.0,
              absorb_next g n root S.links _ l.at.0 b.0 S.live z.1
                  (λ j. beyond_next g n root S.links l.at.0 S.live S.merged b.0 j t.0 t.1),
            )

    -- a Free prev absorbs, after which no neighbour is Free,
    pub prev_reached : NextCalm l → At k (absorbed_by_prev l) × Alone (seen (absorbed_by_prev l).words) (absorbed_by_prev l).at.0
    unfolding absorbed_by_prev absorbed seen
    prev_reached calm =
        pick_elim (λ m. At k m × Alone (seen m.words) m.at.0) (is_free l.words p) (absorbed l.words l.spare p l.at) l hit
        (λ e. (R, record { next = calm; prev = not_free_link l.words p e }))
      where
        p : AllocIndex
        p = (node_at l.words l.at).prev

        hit : is_free l.words p ≡ true
            → At k (absorbed l.words l.spare p l.at) × Alone (seen (absorbed l.words l.spare p l.at).words) p.0
        hit e =
            let S = R.stands in
            let L = S.links in
            let g = seen l.words in
            let t = free_link l.words p e in
            let lp = L.near.prev_live l.at.0 p.0 S.live t.0 in
            let z = absorb_reached p l.at (inr refl) lp t.1 (L.near.prev_next l.at.0 p.0 S.live t.0) S.free in (
              z.0,
              record {
                next = absorb_next g n root L _ p.0 l.at.0 lp z.1 calm;
                prev = absorb_prev g n root L _ p.0 l.at.0 lp z.1
                    (λ j. beyond_prev g n root L l.at.0 S.live S.merged p.0 j t.0 t.1);
              },
            )

  -- and an only child gives up.
  pub give_reached : (k : ℕ) (l : Level) → At (suc k) l → is_only_child l.words l.at ≡ true → At k (given_up l)
  unfolding given_up seen
  give_reached k l R e =
      let S = R.stands in
      let L = S.links in
      let c = l.at.0 in
      let p = (node_at l.words l.at).parent in
      let t = only_child l.words l.at e in
      let lp = L.near.parent_live c p.0 S.live t.2 in
      let ne : p.0 ≡ c → ⊥ = λ q. other_kind refl (L.near.parent_kind c p.0 S.live t.2) (ap (λ x. (seen l.words x).kind) q ∙ S.free) in
      let op = give_writes l.words l.spare l.at p (in_table (suc k) l R c S.live) (in_table (suc k) l R p.0 lp) (λ q. ne (sym q)) refl in
      let z = give_stands S p.0 t.2 t.0 t.1 op.0 op.1 in
      record {
        words = length_given l ∙ R.words;
        stands = rw (slot_link l.words (short (suc k) l R) l.at (in_table (suc k) l R c S.live)) z.0;
        left = omega (arith, R.left, z.1);
      }

  -- THE CLIMB ends, where at least as many levels are allowed as slots are in use.
  pub climb_ends : (k : ℕ) (l : Level) → At k l → Ended was size n root i all T (climbed k l)
  unfolding climbed
  climb_ends zero l R = absurd (let S = R.stands in omega (arith, count_some (λ j. in_use (seen l.words j).kind) n l.at.0 S.live.0 S.live.1, R.left))
  climb_ends (suc k) l R =
      let a = next_reached (suc k) l R in
      let b = prev_reached (suc k) (next_absorbed l) a.0 a.1 in
      go (absorbed_by_prev (next_absorbed l)) b.0 b.1 (λ m. climb_ends k m)
    where
      go : (m : Level) → At (suc k) m → Alone (seen m.words) m.at.0 → ((u : Level) → At k u → Ended was size n root i all T (climbed k u))
          → Ended was size n root i all T (pick (is_only_child m.words m.at) (climbed k (given_up m)) m)
      go m Q calm up =
          pick_elim (λ u. Ended was size n root i all T u) (is_only_child m.words m.at) (climbed k (given_up m)) m
          (λ e. up (given_up m) (give_reached k m Q e))
          (λ e. record {
            words = Q.words;
            stands = Q.stands;
            merged = climb_merged (seen m.words) n root m.at.0 Q.stands.links Q.stands.merged calm (not_only_child m.words m.at e);
          })
