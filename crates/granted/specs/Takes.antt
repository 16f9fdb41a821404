-- A new slot is a slot of the table, and as many as are spare can be taken, one after the other.
-- Assumes nothing.
use Rattle.std.specs.Prelude.{ℕ, zero, suc, ◌+◌, ◌*◌, ◌≤◌, ◌<◌, ◌≡◌, refl, List, ◌∷◌, ltb, length}
use Rattle.std.proofs.Common.{arith, length-set, ltb-true, ltb-false}
use Rattle.geometry.specs.Choice.{pick_elim}
use Rattle.steps.specs.Spares.{Fresh, new_node, HasSpare, spare_slots}
use Rattle.steps.specs.declared.Head.{Head}
use Rattle.pairs.specs.Pairs.{CanTake}
use Rattle.granted.specs.NewSlots.{Taking, has_spare, slot_taken}

-- A new slot is below N, and there are as many generations as before.
pub fresh_below : (w g : List ℕ) (h : Head) (f : Fresh) → HasSpare w g h → f ≡ new_node w g h → (f.taken.0 < length g) × (length f.generations ≡ length g)
unfolding new_node
fresh_below w g h f p e =
    rw e
    (pick_elim (λ (x : Fresh). (x.taken.0 < length g) × (length x.generations ≡ length g)) (ltb h.spare.0 h.count) _ _
    (λ t. (omega (arith, ltb-true h.spare.0 h.count t, p.counted), simp length-set)) (λ t. (p.spare (ltb-false h.spare.0 h.count t), simp length-set)))

-- As many slots as are spare can be taken.
pub can_take : {w g g' : List ℕ} {h h' : Head} {new : List ℕ} (k : ℕ) → length g ≤ 4096 → length g * 8 ≤ length w → Taking w g h new g' h'
    → length new + k ≤ spare_slots w (length g) h.count → CanTake k w g' h'
can_take zero few slots T h = tt
can_take {w = w} {g' = g'} {h' = h'} {new = new} (suc k) few slots T h =
    let f = new_node w g' h' in
    (has_spare few T slots (omega arith), can_take {g' = f.generations} {h' = f.head} {new = f.taken.0 ∷ new} k few slots (slot_taken few T _ refl (omega arith)) (omega arith))
