-- The table of first children: what enter_firsts leaves in a table of none-links.
-- Assumes nothing.
use Rattle.std.proofs.lemmas.Bool.{false≢true}
use Rattle.std.specs.Prelude.{◌≡◌, Bool, true, false, List, ◌↔◌, ◌⊎◌, length, set, take, replicate, eqb}
use Rattle.std.proofs.Math.Path.{refl}
use Rattle.std.proofs.Common.{sym, ◌∙◌, arith, get_or-set_same, get_or-set_other, get_or-take, length-take-le}
use Rattle.std.proofs.Math.Logic.{inl, inr, ⊎_elim}
use Prim.Native.Nat.{ℕ, zero, suc, ◌≤◌, ◌<◌}
use Rattle.std.proofs.Math.Decide.{ℕ_discrete}
use Rattle.std.proofs.Math.ListN.{get_or}
use Rattle.std.proofs.lemmas.List.{length-replicate, get_or-replicate}
use borrow.Author.Tests.{eqb-true, eq-eqb, ne_eqb}
use Rattle.geometry.specs.Choice.{pick}
use Rattle.slots.specs.Slots.{slot, is_none}
use Rattle.table.specs.Table.{node_at}
use Rattle.sound.specs.View.{none, to, link_of, seen, Live}
use Rattle.sound.specs.Rules.{FirstChild}
use Rattle.links.specs.Links.{Table, is_first, entered, firsts_to}
use Rattle.links.specs.TestLaws.{Says, both_say, says_as, less_says}
use Rattle.links.specs.LinkLaws.{link_none, link_to_says, in_use_says}
use Rattle.links.proofs.TurnLaws.{length_entered}
use Rattle.links.specs.FirstLaws.{Firsts}

-- Its front says the same.
pub firsts_front : {w fs : List ℕ} {n : ℕ} → Firsts w fs n → Firsts w (take n fs) n
firsts_front {w} {fs} {n} f =
    record {
      room = let e = length-take-le n fs f.room in omega arith;
      some = λ i c b h. rw (get_or-take n fs i 0 b) (f.some i c b h);
      is_first_lem = λ i b e. let same = get_or-take n fs i 0 b in rw same (f.is_first_lem i b (rw same at e));
    }

module _ (w : List ℕ) (n : ℕ) (t : Table w n) where
  -- A slot that is entered at i, and a first child of i.
  Entered : ℕ → ℕ → Type 0
  Entered i c = (is_first w n c ≡ true) × ((node_at w (slot c)).parent.0 ≡ i)

  entered_first : (i c : ℕ) → i < n → c < n → Entered i c ↔ FirstChild (seen w) n i c
  unfolding Entered is_first seen
  entered_first i c b d = (yes', no')
    where
      test : Says (is_first w n c) (Live (seen w) n c × (link_of (node_at w (slot c)).prev ≡ none) × ((node_at w (slot c)).parent.0 < n))
      test = says_as (both_say (in_use_says (node_at w (slot c)).kind) (both_say (link_none (node_at w (slot c)).prev) (less_says (node_at w (slot c)).parent.0 n)))
          (λ s. ((d, s.0), s.1.0, s.1.1), λ s. (s.0.1, (s.1, s.2)))

      named : Says (eqb (node_at w (slot c)).parent.0 i) (link_of (node_at w (slot c)).parent ≡ to i)
      named = link_to_says (node_at w (slot c)).parent i (omega (arith, t.few))

      yes' : Entered i c → FirstChild (seen w) n i c
      yes' h = let s = test.0 h.0 in record { live = s.0; parent = named.0 (eq-eqb _ _ h.1); prev = s.1 }

      no' : FirstChild (seen w) n i c → Entered i c
      no' h =
          let e : (node_at w (slot c)).parent.0 ≡ i = eqb-true _ _ (named.1 h.parent) in
          (test.1 (h.live, h.prev, omega arith), e)

  -- After the first k slots, what stands at i: none, with no slot to enter there, or one of those that were.
  Says-at : ℕ → ℕ → ℕ → Type 0
  Says-at k i v = ((v ≡ 4294967295) × ((c : ℕ) → c < k → Entered i c → ⊥)) ⊎ ((v < k) × Entered i v)

  turn : (k i : ℕ) (fs : List ℕ) → i < n → n ≤ length fs → Says-at k i (get_or fs i 0) → Says-at (suc k) i (get_or (entered w n k fs) i 0)
  unfolding Says-at Entered entered
  turn k i fs b r s = go (is_first w n k) refl (ℕ_discrete (node_at w (slot k)).parent.0 i)
    where
      stays : (Entered i k → ⊥) → Says-at (suc k) i (get_or fs i 0)
      stays no_more = ⊎_elim {C = Says-at (suc k) i (get_or fs i 0)}
          (λ l. inl (l.0, λ c h e. ⊎_elim {C = ⊥} (λ m. l.1 c m e) (λ q. no_more (rw q at e)) (last c h)))
          (λ m. inr (omega (arith, m.0), m.1)) s
        where
          last : (c : ℕ) → c < suc k → (c < k) ⊎ (c ≡ k)
          last c h = at (ℕ_discrete c k)
            where
              at : Dec (c ≡ k) → (c < k) ⊎ (c ≡ k)
              at (yes q) = inr q
              at (no q) = inl (omega arith)

      go : (a : Bool) → is_first w n k ≡ a → Dec ((node_at w (slot k)).parent.0 ≡ i) → Says-at (suc k) i (get_or (pick a (set fs (node_at w (slot k)).parent.0 k) fs) i 0)
      go false e d = stays (λ h. false≢true (sym e ∙ h.0))
      go true e (yes q) = rw (q, get_or-set_same fs i k 0 (omega arith)) (inr (omega arith, (e, q)))
      go true e (no q) = rw (get_or-set_other fs (node_at w (slot k)).parent.0 i k 0 (λ p. q (sym p))) (stays (λ h. q h.1))

  module _ (start : List ℕ) (room : n ≤ length start) (blank : (i : ℕ) → i < n → get_or start i 0 ≡ 4294967295) where
    kept : (k : ℕ) → length (firsts_to w n k start) ≡ length start
    unfolding firsts_to
    kept zero = refl
    kept (suc k) = length_entered w n k (firsts_to w n k start) ∙ kept k

    after : (k i : ℕ) → i < n → Says-at k i (get_or (firsts_to w n k start) i 0)
    unfolding firsts_to Says-at
    after zero i b = inl (blank i b, λ c h e. omega arith)
    after (suc k) i b = turn k i (firsts_to w n k start) b (omega (arith, kept k)) (after k i b)

    -- A table of none-links, with every first child entered at its parent.
    pub firsts_entered : Firsts w (firsts_to w n n start) n
    unfolding Says-at
    firsts_entered =
        record {
          room = omega (arith, kept n);
          some = λ i c b h. ⊎_elim {C = is_none (slot (at i)) ≡ false}
              (λ l. absurd (l.1 c h.live.0 ((entered_first i c b h.live.0).1 h)))
              (λ m. ne_eqb (at i) 4294967295 (λ e. omega (arith, m.0, t.few))) (after n i b);
          is_first_lem = λ i b e. ⊎_elim {C = FirstChild (seen w) n i (at i)}
              (λ l. absurd (false≢true (sym e ∙ eq-eqb (at i) 4294967295 l.0)))
              (λ m. (entered_first i (at i) b m.0).0 m.1) (after n i b);
        }
      where
        at : ℕ → ℕ
        at i = get_or (firsts_to w n n start) i 0

  -- The table that the check keeps: m none-links at first.
  pub firsts_of_none_links : (m : ℕ) → n ≤ m → Firsts w (firsts_to w n n (replicate m 4294967295)) n
  firsts_of_none_links m h =
      firsts_entered (replicate m 4294967295) (simp length-replicate h) (λ i b. get_or-replicate m i 4294967295 0 (omega arith))
