-- `step_column` meets its contract: the sums are of the copied column, whatever has been written since.
use Rattle.row_sums.proofs.Columns.{ColumnStepping}
use Rattle.row_sums.proofs.rows.Rows.step_column.Given as goal

abbrev pub invariant-loop-s : goal.invariant-loop-s
invariant-loop-s l = ColumnStepping l.self-inside.weights l.states l.stride l.at l.initial.layer l.s l.layer

abbrev pub invariant-loop-t : goal.invariant-loop-t
invariant-loop-t l = ColumnStepping l.self-inside.weights l.states l.stride l.at l.initial.layer l.t l.layer
