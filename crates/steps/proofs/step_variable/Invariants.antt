-- `steps::step_variable` meets its contract: one column after another.
use Prim.Native.Nat.{◌+◌, ◌*◌}
use mathlib.Core.Path.{◌≡◌}
use lib.ListN.{length}
use Rattle.steps.proofs.Columns.{LayerStepping}
use Rattle.steps.proofs.step_variable.Given as goal

abbrev pub invariant-loop-block : goal.invariant-loop-block
invariant-loop-block l =
    LayerStepping l.rows.weights l.rows.states l.stride (l.blocks * l.rows.states * l.stride) l.initial.layer (l.block * l.stride) l.layer ×
    (length l.column ≡ 32)

abbrev pub invariant-loop-k : goal.invariant-loop-k
invariant-loop-k l =
    LayerStepping l.rows.weights l.rows.states l.stride (l.blocks * l.rows.states * l.stride) l.fn.layer
    (l.block * l.stride + l.k) l.layer ×
    (length l.column ≡ 32)
