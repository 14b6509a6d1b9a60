-- `test_planner_exhaustive::search::search` is safe and ends. Assumes nothing.
use Rattle.test_planner_exhaustive.proofs.search.+search.Given as goal

abbrev pub decreases-search : goal.decreases-search
decreases-search l = l.bytes
