-- `steps::joint_step` meets its contract: one variable after another, the last first.
use Prim.Native.Nat.{◌^◌}
use mathlib.Core.Path.{◌≡◌}
use lib.ListN.{length}
use Rattle.steps.proofs.Joint.{Stepping}
use Rattle.steps.proofs.joint_step.Given as goal

abbrev pub invariant-loop-i : goal.invariant-loop-i
invariant-loop-i l =
    (l.blocks ≡ l.rows.states ^ l.i) ×
    Stepping l.rows.weights l.rows.states (length l.moving) l.moving l.tuples l.initial.work l.i l.stride l.work
