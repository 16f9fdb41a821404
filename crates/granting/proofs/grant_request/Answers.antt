-- `granting::grant_request` meets its contract: the search, and the cut of what it chose.
-- Assumes nothing.
use Rattle.granted.specs.SoundFacts.{sound_searchable}
use Rattle.granting.specs.ChosenLaws.{chosen_ready, granted_at, granted_none}
use Rattle.granting.proofs.grant_request.Goals as goal

pub find_suitable_rect-found-requires : goal.find_suitable_rect-found-requires
find_suitable_rect-found-requires c = let p = c.requires in sound_searchable _ p.0 p.1

pub cut_for-requires : goal.cut_for-requires
cut_for-requires c = let p = c.requires in
    chosen_ready _ p.0 p.1 _ _ _ c.setup_of-setup.ensures.0 c.find_suitable_rect-found.ensures _ _ _ c.in-Some.is

pub returns-in-Some : goal.returns-in-Some
returns-in-Some c = let p = c.requires in
    granted_at _ p.0 p.1 _ _ _ c.setup_of-setup.ensures.0 c.find_suitable_rect-found.ensures _ _ _ c.in-Some.is _ _ _ _ c.cut_for.ensures

pub returns-in-None : goal.returns-in-None
returns-in-None c = let p = c.requires in granted_none _ p.0 p.1 _ _ _ c.setup_of-setup.ensures.0 c.find_suitable_rect-found.ensures c.in-None.is
