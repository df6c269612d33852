-- The measure of `read` is what is left of the text. Assumes nothing.
use lib.ListN.{length}
use Rattle.sentence_scan.proofs.Body.+read.Given as goal

abbrev pub decreases-read : goal.decreases-read
decreases-read l = length l.text.now
