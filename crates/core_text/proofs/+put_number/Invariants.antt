-- The measure of `core_text::put_number`: a tenth of a number is below it.
use Rattle.core_text.proofs.+put_number.Given as goal

abbrev pub decreases-put_number : goal.decreases-put_number
decreases-put_number l = l.n
