-- THE LEDGER OF KNOWN DAYS: the paper's marked cases as one table of facts. Each sentence of the paper stands above its fact.
-- Assumes nothing.
use Rattle.std.specs.Prelude.{◌≡◌, [], ◌∷◌, ℕ}
use Rattle.geometry.specs.declared.Rectangle.{Rectangle}
use Rattle.slots.specs.Slots.{slot}
use Rattle.slots.specs.declared.NodeKind.TheVariants.{Free}
use Rattle.table.specs.Table.{node_at}
use Rattle.steps.specs.State.{State}
use Rattle.grants.specs.Grants.{Grant}
use Rattle.ledger.specs.Days.{ticket, corners, first, second, third, fourth, free, fifth, whole, whole_again, larger, on_larger, tight, widest, large_list, live_slots, contents}

-- An allocate is done, with a ticket and a rectangle,
abbrev pub Gets : Grant → ℕ → Rectangle → Type 0
Gets g t r = (g.answer ≡ 0) × (g.ticket ≡ ticket t) × (g.rect ≡ r)

-- and a slot holds a rectangle.
abbrev pub Holds : State → ℕ → Rectangle → Type 0
Holds s i r = (node_at s.words (slot i)).rect ≡ r

pub record Ledger : Type 0 where
  -- 100×1000: ticket 2, (0,0)-(100,1000).
  pub first_is : Gets first 2 (corners 0 0 100 1000)
  -- Then 900×200: ticket 4, (100,0)-(1000,200).
  pub second_is : Gets second 4 (corners 100 0 1000 200)
  -- Then 300×200: ticket 6, (100,200)-(400,400); large list 5, 7; slot 3 keeps stale (100,200)-(1000,1000).
  pub third_is : Gets third 6 (corners 100 200 400 400) × (large_list third.after ≡ 5 ∷ 7 ∷ []) × Holds third.after 3 (corners 100 200 1000 1000)
  -- Then 1000×1: 6.
  pub fourth_is : fourth.answer ≡ 6
  -- Free 4 then 6: live slots 0, 1, 2; slot 1 Free (100,0)-(1000,1000); large list 5, 7, 4, 1.
  pub freed_4_then_6 : ((free third 4 6).answer ≡ 0) × (live_slots (free third 4 6).after ≡ 0 ∷ 1 ∷ 2 ∷ [])
      × ((node_at (free third 4 6).after.words (slot 1)).kind ≡ Free) × Holds (free third 4 6).after 1 (corners 100 0 1000 1000)
      × (large_list (free third 4 6).after ≡ 5 ∷ 7 ∷ 4 ∷ 1 ∷ [])
  -- Free 6 then 4: same slots; list 5, 7, 3, 1.
  pub freed_6_then_4 : ((free third 6 4).answer ≡ 0) × (live_slots (free third 6 4).after ≡ live_slots (free third 4 6).after)
      × (contents (free third 6 4).after ≡ contents (free third 4 6).after) × (large_list (free third 6 4).after ≡ 5 ∷ 7 ∷ 3 ∷ 1 ∷ [])
  -- After 4 then 6, 500×200: ticket 16,777,221, (100,0)-(600,200).
  pub fifth_is : Gets fifth 16777221 (corners 100 0 600 200)
  -- Whole sheet, freed, taken again: ticket 0 both times.
  pub whole_twice : Gets whole 0 (corners 0 0 1000 1000) × Gets whole_again 0 (corners 0 0 1000 1000)
  -- 100×100, grow to 3000×3000: root 5, slot 1 (0,100)-(1000,3000), slot 4 (1000,0)-(3000,3000), large list 3, 1, 4.
  pub grown_larger : (larger.answer ≡ 0) × (larger.after.head.root ≡ slot 5) × Holds larger.after 1 (corners 0 100 1000 3000) × Holds larger.after 4 (corners 1000 0 3000 3000)
      × (large_list larger.after ≡ 3 ∷ 1 ∷ 4 ∷ [])
  -- Then 1000×2900: ticket 1.
  pub then_on_larger : Gets on_larger 1 (corners 0 100 1000 3000)
  -- Sheet 10×10: 3×6 needs 5, and with N = 4 gives 7.
  pub needs_five : ((tight 5).answer ≡ 0) × ((tight 4).answer ≡ 7)
  -- Alignment 2×1, width 2,147,483,647: 5; with 1×1: 6.
  pub widest_is : ((widest 2).answer ≡ 5) × ((widest 1).answer ≡ 6)
