-- `model_reader::fields::weights_at` meets its contract: the matrix is filled row by row.
use mathlib.Core.List.{[]}
use Rattle.counting.specs.Below.{table}
use Rattle.counting.proofs.Laws.{Filled}
use Rattle.model.specs.Layout.{weight_at}
use Rattle.model_reader.proofs.fields.weights_at.Given as goal

abbrev pub invariant-loop-s : goal.invariant-loop-s
invariant-loop-s l = Filled 32 (λ s. table 32 (weight_at l.file s)) [] l.s l.rows
