-- `path_place` meets its contract. The invariant: the path formula sought is not at the places passed.
use Rattle.paths.proofs.Searching.{Sought}
use Rattle.paths.proofs.path_place.Given as goal

abbrev pub invariant-loop-at : goal.invariant-loop-at
invariant-loop-at l = Sought l.nodes l.path l.before l.at
