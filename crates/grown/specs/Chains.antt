-- The top chain as a grow follows it: its last slot is found, and it visits each live slot without parent.
-- Assumes nothing.
use Prim.Native.Nat.{ℕ, zero, suc, ◌≤◌}
use Rattle.std.specs.Prelude.{◌≡◌, refl, List}
use Rattle.std.proofs.Common.{sym, ◌∙◌, arith}
use Rattle.geometry.specs.Choice.{pick_elim}
use Rattle.geometry.specs.declared.Orientation.{Orientation}
use Rattle.slots.specs.Slots.{is_none}
use Rattle.slots.specs.declared.AllocIndex.{AllocIndex}
use Rattle.table.specs.Table.{node_at}
use Rattle.sound.specs.View.{Link, none, to, Seen, seen, in_use, Live}
use Rattle.sound.specs.Rules.{Visits, it, later}
use Rattle.sound.specs.Sound.{Linked}
use Rattle.sound.specs.ViewLaws.{to_inj, no_link}
use Rattle.forest.specs.Pigeon.{In}
use Rattle.forest.specs.Ends.{EndsIn, ends_in, ends_bounded}
use Rattle.forest.specs.Forest.{Forest, empty, slot, head, slots, Rep}
use Rattle.forest.specs.Back.{by_place}
use Rattle.forest.specs.Bridge.{forest}
use Rattle.links.specs.LinkLaws.{link_none, link_some}
use Rattle.links.proofs.SpareLaws.{live_count}
use Rattle.changes.specs.Lasts.{below_parent}
use Rattle.grows.specs.Grows.{last_from}

-- THE LAST SLOT

-- A live slot of the top chain, along o.
pub record OnTop (get : ℕ → Seen) (n : ℕ) (o : Orientation) (i : ℕ) : Type 0 where
  pub live : Live get n i
  pub parent : (get i).parent ≡ none
  pub orientation : (get i).orientation ≡ o

module _ (w : List ℕ) (n root : ℕ) (L : Linked (seen w) n root) where
  -- The root is on top, and so is the next of such a slot.
  pub root_on_top : OnTop (seen w) n (seen w root).orientation root
  root_on_top = record { live = L.near.root_live; parent = L.near.root_parent; orientation = refl }

  next_on_top : (o : Orientation) (i j : ℕ) → OnTop (seen w) n o i → (seen w i).next ≡ to j → OnTop (seen w) n o j
  next_on_top o i j t e = record {
    live = L.near.next_live i j t.live e;
    parent = L.near.same_parent i j t.live e ∙ t.parent;
    orientation = L.near.same_orientation_lem i j t.live e ∙ t.orientation;
  }

  -- As many links on as there are, the last slot is found.
  last_found : (k : ℕ) (o : Orientation) (i : AllocIndex) (m : ℕ) → OnTop (seen w) n o i.0 → EndsIn (λ j. (seen w j).next) (to i.0) m → m ≤ suc k
      → OnTop (seen w) n o (last_from k w i).0 × ((seen w (last_from k w i).0).next ≡ none)
  unfolding last_from seen
  last_found zero o i zero t e h = absurd (no_link (sym e))
  last_found zero o i (suc zero) t e h = (t, rw (to_inj e.1) e.2)
  last_found zero o i (suc (suc m)) t e h = absurd (omega arith)
  last_found (suc k) o i zero t e h = absurd (no_link (sym e))
  last_found (suc k) o i (suc m) t e h =
      pick_elim (λ (x : AllocIndex). OnTop (seen w) n o x.0 × ((seen w x.0).next ≡ none)) (is_none (node_at w i).next) i (last_from k w (node_at w i).next)
      (λ q. (t, (link_none (node_at w i).next).0 q))
      (λ q. let x = link_some (node_at w i).next q in
      last_found k o (node_at w i).next m (next_on_top o i.0 (node_at w i).next.0 t x) (rw (← to_inj e.1, x) at e.2) (omega arith))

  -- The top chain ends within n steps.
  pub top_ends : (m : ℕ) × EndsIn (λ j. (seen w j).next) (to root) m × (m ≤ n)
  top_ends =
      let e = ends_in (L.nexts_end root L.near.root_live) in
      let b = ends_bounded (λ j. (seen w j).next) (λ j. in_use (seen w j).kind) n (λ i j l q. L.near.next_live i j l q) (to root)
      (λ i q. rw (← to_inj q) L.near.root_live) e.0 e.1 in
      (e.0, e.1, omega (arith, live_count w n))

  -- THE LAST SLOT of the top chain is found within n links of the root.
  pub last_on_top : (i : AllocIndex) → i.0 ≡ root
      → OnTop (seen w) n (seen w root).orientation (last_from n w i).0 × ((seen w (last_from n w i).0).next ≡ none)
  last_on_top i q =
      let e = top_ends in
      last_found n (seen w root).orientation i e.0 (rw q root_on_top) (rw q e.1) (omega (arith, e.2))

  -- THE TOP CHAIN

  -- The top chain visits each live slot without parent,
  rep_visits : (v : Link) (o : Orientation) (F : Forest) → Rep (seen w) n none v o F → (j : ℕ) → In j (slots F) → (seen w j).parent ≡ none
      → Visits (λ x. (seen w x).next) j (head F)
  rep_visits v o empty r j m p = absurd m
  rep_visits v o (slot a C S) r j m p =
      by_place {G = Visits (λ x. (seen w x).next) j (to a)} j a C S (λ e. rw e it) (λ x. absurd (below_parent (seen w) n a none _ C r.1 j x p))
      (λ x. later {i = a} (rw r.0.next (rep_visits (to a) o S r.2 j x p))) m

  pub top_visits : (j : ℕ) → Live (seen w) n j → (seen w j).parent ≡ none → Visits (λ x. (seen w x).next) j (to root)
  top_visits j l p =
      let F = forest (seen w) n root L in
      rw F.1.from_root at (rep_visits none (seen w root).orientation F.0 F.1.along j (F.1.all j l) p)

  -- and no other.
  visits_on_top : (o : Orientation) (j : ℕ) (l : Link) → ((i : ℕ) → l ≡ to i → OnTop (seen w) n o i) → Visits (λ x. (seen w x).next) j l → OnTop (seen w) n o j
  visits_on_top o j l h it = h j refl
  visits_on_top o j l h (later {i = i} v) = visits_on_top o j (seen w i).next (λ k q. next_on_top o i k (h i refl) q) v

  pub visited_on_top : (j : ℕ) → Visits (λ x. (seen w x).next) j (to root) → OnTop (seen w) n (seen w root).orientation j
  visited_on_top j v = visits_on_top (seen w root).orientation j (to root) (λ i q. rw (← to_inj q) root_on_top) v
