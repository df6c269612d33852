-- `groups::grouping::all_used` meets its contract. The invariant: the groups passed are used.
use Rattle.counting.proofs.Laws.{Passed}
use Rattle.groups.specs.Groups.{is_used}
use Rattle.groups.proofs.grouping.all_used.Given as goal

abbrev pub invariant-loop-g : goal.invariant-loop-g
invariant-loop-g l = Passed l.count (is_used l.grouping) l.g
