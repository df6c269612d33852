-- `survey` meets its contract, by what the node wants. The measure is the number of places left.
use Prim.Native.Nat.{◌-◌}
use Rattle.surveys.proofs.+survey.Given as goal

abbrev pub decreases-survey : goal.decreases-survey
decreases-survey l = 64 - l.at
