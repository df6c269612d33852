-- `Model::fields_right` meets its contract. The invariant: the states passed have right masks and right rows.
use Prim.Native.Nat.{ℕ}
use mathlib.Core.Bool.{Bool, ◌&&◌}
use Rattle.counting.specs.Below.{every_below}
use Rattle.counting.proofs.Laws.{Passed}
use Rattle.model.specs.declared.Model.{Model}
use Rattle.model.specs.Rules.{mask_right, weight_right}
use Rattle.model.proofs.Model.fields_right.Given as goal

-- the test of one state
abbrev pub right : Model → ℕ → Bool
right m s = mask_right m s && every_below 32 (weight_right m s)

abbrev pub invariant-loop-s : goal.invariant-loop-s
invariant-loop-s l = Passed 32 (right l.self) l.s
