-- `chain::filled_rows` meets its contract: the matrix is filled row by row.
use mathlib.Core.List.{[]}
use Rattle.counting.specs.Below.{table}
use Rattle.counting.proofs.Laws.{Filled}
use Rattle.chain.specs.Of.{filled_weight}
use Rattle.chain.proofs.filled_rows.Given as goal

abbrev pub invariant-loop-s : goal.invariant-loop-s
invariant-loop-s l = Filled 32 (λ s. table 32 (filled_weight l.m s)) [] l.s l.filled
