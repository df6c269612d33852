-- `tuple_place` meets its contract. The invariant: the number of the members passed.
use Rattle.paths.proofs.Members.{Counted}
use Rattle.paths.proofs.tuple_place.Given as goal

abbrev pub invariant-loop-member : goal.invariant-loop-member
invariant-loop-member l = Counted l.states l.tuple l.member-index l.place
