-- What a ticket is answered, case by case: from the tests to the answer, and from the answer to what holds.
-- Assumes nothing.
use Rattle.std.specs.Prelude.{◌≡◌, Bool, true, false, not, List, get_or, eqb, leb}
use Rattle.std.proofs.Common.{ap, sym, ◌∙◌, arith}
use Prim.Native.Nat.{ℕ, ◌≤◌, ◌<◌}
use borrow.Author.Tests.{leb-true, leb-false, le-leb, lt-leb, eqb-true, eqb-false, eq-eqb, ne_eqb, not-true, not-false}
use Rattle.geometry.specs.Choice.{pick, pick_elim}
use Rattle.geometry.specs.Rectangles.{no_rect}
use Rattle.geometry.specs.declared.Rectangle.{Rectangle}
use Rattle.slots.specs.Slots.{same_kind}
use Rattle.table.specs.Table.{node_at}
use Rattle.tickets.specs.Tickets.{slot_of, generation_of}
use Rattle.tickets.specs.declared.AllocId.{AllocId}
use Rattle.slots.specs.declared.AllocIndex.{AllocIndex}
use Rattle.slots.specs.declared.Node.{Node}
use Rattle.slots.specs.declared.NodeKind.TheVariants.{Alloc}
use Rattle.links.specs.TestLaws.{fails, kind_says}
use Rattle.live.specs.Live.{ticket_answer, ticket_rect}

module _ (w g : List ℕ) (n : ℕ) (t : AllocId) {i : AllocIndex} (is : i ≡ slot_of t) where
  pub ticket_out : n ≤ i.0 → 8 ≡ ticket_answer w g n t
  unfolding ticket_answer
  ticket_out h = rw (le-leb n (slot_of t).0 (rw is at h))

  module _ (below : i.0 < n) {k : ℕ} (told : k ≡ generation_of t) where
    pub ticket_old : (get_or g i.0 0 ≡ k → ⊥) → 9 ≡ ticket_answer w g n t
    unfolding ticket_answer
    ticket_old d = rw (lt-leb n (slot_of t).0 (rw is at below), ne_eqb _ _ (rw (is, told) at d))

    module _ (present : get_or g i.0 0 ≡ k) {m : Node} (node : m ≡ node_at w i) {b : Bool} (kind : b ≡ same_kind m.kind Alloc) where
      ticket_kind : pick (not b) 10 0 ≡ ticket_answer w g n t
      unfolding ticket_answer
      ticket_kind = rw (lt-leb n (slot_of t).0 (rw is at below), eq-eqb _ _ (rw (is, told) at present), kind, node, is)

      pub ticket_other : not b ≡ true → 10 ≡ ticket_answer w g n t
      ticket_other e = sym (ap (λ (x : Bool). pick x 10 0) e) ∙ ticket_kind

      pub ticket_live : not b ≡ false → 0 ≡ ticket_answer w g n t
      ticket_live e = sym (ap (λ (x : Bool). pick x 10 0) e) ∙ ticket_kind

module _ (w g : List ℕ) (n : ℕ) (t : AllocId) where
  -- The rectangle that goes with the answer.
  pub rect_none : {a : ℕ} {r : Rectangle} → a ≡ ticket_answer w g n t → (a ≡ 0 → ⊥) → r ≡ no_rect → r ≡ ticket_rect w g n t
  unfolding ticket_rect
  rect_none e d f = rw (ne_eqb _ 0 (rw e at d)) f

  pub rect_live : {a : ℕ} {i : AllocIndex} {m : Node} → a ≡ ticket_answer w g n t → a ≡ 0 → i ≡ slot_of t → m ≡ node_at w i
      → (0 ≡ ticket_answer w g n t) × (m.rect ≡ ticket_rect w g n t)
  unfolding ticket_rect
  rect_live e z is f = (sym z ∙ e, rw (eq-eqb _ 0 (sym e ∙ z), f, is))

  -- The four ways that a ticket can be answered.
  pub ticket_cases : (P : ℕ → Rectangle → Type 0)
      → (n ≤ (slot_of t).0 → P 8 no_rect)
      → ((slot_of t).0 < n → (get_or g (slot_of t).0 0 ≡ generation_of t → ⊥) → P 9 no_rect)
      → ((slot_of t).0 < n → get_or g (slot_of t).0 0 ≡ generation_of t → ((node_at w (slot_of t)).kind ≡ Alloc → ⊥) → P 10 no_rect)
      → ((slot_of t).0 < n → get_or g (slot_of t).0 0 ≡ generation_of t → (node_at w (slot_of t)).kind ≡ Alloc → P 0 (node_at w (slot_of t)).rect)
      → P (ticket_answer w g n t) (ticket_rect w g n t)
  unfolding ticket_answer ticket_rect
  ticket_cases P eight nine ten live =
      pick_elim Q (leb n (slot_of t).0) 8 _ (λ e. eight (leb-true n (slot_of t).0 e))
      (λ e. let b = leb-false n (slot_of t).0 e in
      pick_elim Q (not (eqb (get_or g (slot_of t).0 0) (generation_of t))) 9 _ (λ d. nine b (eqb-false _ _ (not-true _ d)))
      (λ d. let p = eqb-true _ _ (not-false _ d) in
      pick_elim Q (not (same_kind (node_at w (slot_of t)).kind Alloc)) 10 0 (λ k. ten b p (fails (kind_says _ Alloc) (not-true _ k)))
      (λ k. live b p ((kind_says _ Alloc).0 (not-false _ k)))))
    where
      Q : ℕ → Type 0
      Q a = P a (pick (eqb a 0) (node_at w (slot_of t)).rect no_rect)

  -- A ticket that is answered 0 has its slot below n.
  pub live_below : ticket_answer w g n t ≡ 0 → (slot_of t).0 < n
  live_below =
      ticket_cases (λ a _. a ≡ 0 → (slot_of t).0 < n) (λ _ e. absurd (omega arith)) (λ b _ _. b) (λ b _ _ _. b) (λ b _ _ _. b)
