-- The measure of `nest` is what is left of the list. Assumes nothing.
use lib.ListN.{length}
use Rattle.sentence_survey.proofs.+nest.Given as goal

abbrev pub decreases-nest : goal.decreases-nest
decreases-nest l = length l.nodes.now
