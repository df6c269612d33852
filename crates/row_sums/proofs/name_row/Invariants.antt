-- `row_sums::name_row` meets its contract: state after state.
use Rattle.row_sums.specs.Sparse.{Naming}
use Rattle.row_sums.proofs.name_row.Given as goal

abbrev pub invariant-loop-t : goal.invariant-loop-t
invariant-loop-t l = Naming l.row l.t l.count l.places
