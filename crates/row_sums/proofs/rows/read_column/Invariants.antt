-- `row_sums::rows::read_column` meets its contract: the column is filled from the front.
use Prim.Native.Nat.{◌+◌, ◌*◌}
use lib.ListN.{get_or}
use Rattle.counting.proofs.Laws.{Filled}
use Rattle.row_sums.proofs.rows.read_column.Given as goal

abbrev pub invariant-loop-s : goal.invariant-loop-s
invariant-loop-s l = Filled 32 (λ k. get_or l.layer (l.at + k * l.stride) 0) 0 l.s l.column
