-- `groups::alike::states_alike` meets its contract. The invariant: the states passed agree with the first of their group.
use Rattle.counting.proofs.Laws.{Passed}
use Rattle.groups.specs.Groups.{group_of, member_of}
use Rattle.groups.specs.Working.{pair_alike}
use Rattle.groups.proofs.alike.states_alike.Given as goal

abbrev pub invariant-loop-s : goal.invariant-loop-s
invariant-loop-s l =
    Passed l.n (λ s. pair_alike l.masks l.totals l.count s (member_of l.n l.grouping (group_of l.grouping s))) l.s
