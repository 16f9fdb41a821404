use mathlib.Core.Path.{refl, ◌∙◌}
use native.Mathlib.Omega.{arith}
use Rattle.listings.specs.Listings.{entries}
use Rattle.written.specs.WriteLaws.{wrote_nothing}
use Rattle.listings.proofs.ListingLaws.{filled_more, has_room_lem, filled_all}
use Rattle.listings.proofs.fill.Goals as goal

pub loop-i-init : goal.loop-i-init
unfolding entries
loop-i-init c = (refl, wrote_nothing _)

pub list_slot-at-requires : goal.list_slot-at-requires
list_slot-at-requires c = let p = c.requires in has_room_lem _ _ _ _ _ p.1 _ _ p.0 (omega arith) c.loop-i.invariant.1

pub loop-i-preserved : goal.loop-i-preserved
loop-i-preserved c = (c.out-1.given ∙ c.loop-i.invariant.0, filled_more _ _ _ _ _ _ _ c.loop-i.invariant.1 c.list_slot-at.ensures)

pub returns : goal.returns
returns c = filled_all _ _ _ _ _ c.requires.1 _ _ _ c.loop-i.invariant.1 (omega arith) (omega arith)
