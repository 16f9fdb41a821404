-- `search_from` searches the bucket and at most two more, whose lists stay ready to be searched.
-- Assumes nothing.
use Rattle.choices.specs.ChoiceLaws.{one_searchable}
use Rattle.search.proofs.SearchLaws.{on_searchable}
use Rattle.search.proofs.search_from.Goals as goal

pub search_on-t-requires : goal.search_on-t-requires
search_on-t-requires c = one_searchable _ _ _ _ _ c.search_one-s.ensures c.requires

pub search_on-requires : goal.search_on-requires
search_on-requires c = on_searchable _ _ _ _ _ c.search_on-t.ensures (one_searchable _ _ _ _ _ c.search_one-s.ensures c.requires)
