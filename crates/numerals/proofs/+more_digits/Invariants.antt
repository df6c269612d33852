-- The measure of `more_digits` is what is left of the text. Assumes nothing.
use lib.ListN.{length}
use Rattle.numerals.proofs.+more_digits.Given as goal

abbrev pub decreases-more_digits : goal.decreases-more_digits
decreases-more_digits l = length l.text.now
