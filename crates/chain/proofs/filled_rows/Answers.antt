-- `chain::filled_rows` meets its contract: the matrix is filled row by row.
use mathlib.Core.Path.{refl}
use native.Mathlib.Omega.{arith}
use Rattle.counting.proofs.Laws.{filled_none, filled_next, filled_all}
use Rattle.chain.proofs.filled_rows.Goals as goal

pub loop-s-init : goal.loop-s-init
loop-s-init c = filled_none refl

pub loop-s-preserved : goal.loop-s-preserved
loop-s-preserved c = filled_next c.loop-s.invariant (omega arith) c.filled_row.ensures

pub returns : goal.returns
returns c = filled_all c.loop-s.invariant (omega arith)
