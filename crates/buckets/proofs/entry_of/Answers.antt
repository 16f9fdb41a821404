-- `buckets::entry_of` meets its contract: a bucket with an entry ends the loop (`entry_here`), and one where nothing is found is passed (`entry_on`).
-- Assumes nothing.
use Rattle.std.proofs.Common.{◌∙◌, [], ◌∷◌}
use Rattle.geometry.specs.declared.Bucket.TheVariants.{Small, Medium, Large}
use Rattle.buckets.specs.ForgetLaws.{entry_here, entry_on, entry_none}
use Rattle.buckets.proofs.entry_of.Goals as goal

pub returns-in-Some : goal.returns-in-Some
returns-in-Some c =
    entry_here _ (Small ∷ Medium ∷ Large ∷ []) _ _ c.loop-bucket-test.true _ c.first_in.ensures _ c.in-Some.is ∙ c.loop-bucket.invariant

pub loop-bucket-preserved : goal.loop-bucket-preserved
loop-bucket-preserved c =
    entry_on _ (Small ∷ Medium ∷ Large ∷ []) _ _ c.loop-bucket-test.true _ c.first_in.ensures c.in_default.is ∙ c.loop-bucket.invariant

pub returns : goal.returns
returns c = entry_none _ (Small ∷ Medium ∷ Large ∷ []) _ _ c.loop-bucket-test.false ∙ c.loop-bucket.invariant
