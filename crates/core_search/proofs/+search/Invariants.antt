-- `search` calls itself. The measure is the chunk number i.
use Rattle.core_search.proofs.+search.Given as goal

abbrev pub decreases-search : goal.decreases-search
decreases-search l = l.i
