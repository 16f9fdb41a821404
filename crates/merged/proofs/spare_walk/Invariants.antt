-- `merged::spare_walk` meets its contract: the loop's invariant is that the walk still to go answers as the whole walk.
-- Assumes nothing.
use mathlib.Core.Path.{◌≡◌}
use Prim.Native.Nat.{◌-◌}
use Rattle.links.specs.Links.{spare_walk}
use Rattle.merged.proofs.spare_walk.Given as goal

abbrev pub invariant-loop : goal.invariant-loop
invariant-loop l = spare_walk l.words l.n (l.unused - l.counter) l.at ≡ spare_walk l.words l.n l.unused l.initial.at
