-- The measure is the number of levels that are left. Assumes nothing.
use Rattle.climbs.proofs.+climb.Given as goal

abbrev pub decreases-climb : goal.decreases-climb
decreases-climb l = l.left
