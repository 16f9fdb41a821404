-- `buckets::push_to` meets its contract: in each arm the bucket is known, and whether its list has room.
-- Assumes nothing.
use Rattle.geometry.specs.declared.Bucket.TheVariants.{Small, Medium, Large}
use Rattle.buckets.specs.FreeListLaws.{roomy_pushed, full_pushed}
use Rattle.buckets.proofs.push_to.Goals as goal

pub returns-then-lengths-small : goal.returns-then-lengths-small
returns-then-lengths-small c = roomy_pushed _ _ _ Small _ _ c.in-Small.is c.if-lengths-small.true c.append.ensures

pub returns-else-lengths-small : goal.returns-else-lengths-small
returns-else-lengths-small c = full_pushed _ _ _ Small _ _ c.in-Small.is c.if-lengths-small.false c.sweep_and_append.ensures

pub returns-then-lengths-medium : goal.returns-then-lengths-medium
returns-then-lengths-medium c = roomy_pushed _ _ _ Medium _ _ c.in-Medium.is c.if-lengths-medium.true c.append-then-lengths-medium.ensures

pub returns-else-lengths-medium : goal.returns-else-lengths-medium
returns-else-lengths-medium c = full_pushed _ _ _ Medium _ _ c.in-Medium.is c.if-lengths-medium.false c.sweep_and_append-else-lengths-medium.ensures

pub returns-then-lengths-large : goal.returns-then-lengths-large
returns-then-lengths-large c = roomy_pushed _ _ _ Large _ _ c.in-Large.is c.if-lengths-large.true c.append-then-lengths-large.ensures

pub returns-else-lengths-large : goal.returns-else-lengths-large
returns-else-lengths-large c = full_pushed _ _ _ Large _ _ c.in-Large.is c.if-lengths-large.false c.sweep_and_append-else-lengths-large.ensures
