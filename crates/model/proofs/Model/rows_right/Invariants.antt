-- `Model::rows_right` meets its contract. The invariant: the rows passed are past N, add up or are a halted state's.
use mathlib.Core.Bool.{Bool, ◌||◌}
use Prim.Native.Nat.{ℕ}
use lib.Dec.{leb}
use Rattle.counting.proofs.Laws.{Passed}
use Rattle.model.specs.declared.Model.{Model}
use Rattle.model.specs.Rules.{adds_up, halted}
use Rattle.model.proofs.Model.rows_right.Given as goal

-- the test of one row
abbrev pub right : Model → ℕ → Bool
right m s = leb m.n s || adds_up m s || halted m s

abbrev pub invariant-loop-s : goal.invariant-loop-s
invariant-loop-s l = Passed 32 (right l.self) l.s
