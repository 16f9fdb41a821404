-- WHAT GROW IS REFUSED WITH on sound tables: 11, 3, 7 in that order, else 0.
-- Assumes nothing.
use Rattle.std.specs.Prelude.{Bool, ◌||◌, not, ℕ, ltb, length}
use Rattle.geometry.specs.Choice.{pick}
use Rattle.geometry.specs.Sides.{extent_of, valid_setup}
use Rattle.geometry.specs.declared.Extent.{Extent}
use Rattle.geometry.specs.declared.Size.{Size}
use Rattle.steps.specs.Spares.{spare_slots}
use Rattle.steps.specs.State.{State}
use Rattle.grows.specs.Grows.{grow_slots}

-- Either side is smaller than now.
unfoldable pub is_smaller : Extent → Extent → Bool
is_smaller old new = ltb new.width old.width || ltb new.height old.height

-- 11: either side is smaller than now; 3: the setup with the new size is not valid; 7: fewer slots are spare than it needs; else 0.
unfoldable pub grow_answer : State → Size → ℕ
grow_answer s new =
    pick (is_smaller (extent_of s.head.sheet) (extent_of new)) 11
    (pick (not (valid_setup new s.head.options)) 3
    (pick (ltb (spare_slots s.words (length s.generations) s.head.count) (grow_slots s new)) 7 0))
