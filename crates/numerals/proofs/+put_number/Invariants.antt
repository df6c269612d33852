-- The measure of `put_number` is the number. Assumes nothing.
use Rattle.numerals.proofs.+put_number.Given as goal

abbrev pub decreases-put_number : goal.decreases-put_number
decreases-put_number l = l.n
