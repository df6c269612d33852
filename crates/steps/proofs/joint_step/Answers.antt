-- `steps::joint_step` meets its contract: one variable after another, the last first.
use Prim.Native.Nat.{ℕ, ◌*◌, ◌-◌}
use mathlib.Core.Path.{ap, sym, subst}
use native.Mathlib.Omega.{arith}
use Rattle.steps.specs.Columns.{LayerFits, LayerStepped}
use Rattle.steps.proofs.Joint.{stepping_first, stepping_moved, stepping_stayed, stepping_all, layer_fits, stride_small}
use Rattle.steps.proofs.Joint.{blocks_whole, blocks_left}
use Rattle.steps.proofs.joint_step.Goals.{then-moves, else-moves}
use Rattle.steps.proofs.joint_step.Goals as goal

pub loop-i-init : goal.loop-i-init
loop-i-init c = stepping_first c.requires (omega arith)

pub step_variable-requires : goal.step_variable-requires
step_variable-requires c =
    let h = c.loop-i.invariant in
    let whole = blocks_whole c.requires {i = c.loop-i.i - 1} h.1 (omega arith) (omega arith) h.0 c.states-states.ensures in
    subst (λ (x : ℕ). LayerFits c.args.rows.now.weights c.args.rows.now.states c.loop-i.stride x c.loop-i.work) whole
    (layer_fits c.requires h.1 (omega arith) (omega arith) c.if-moves.true)

pub overflow_mul-stride : goal.overflow_mul-stride
overflow_mul-stride c =
    let small = stride_small c.requires {i = c.loop-i.i - 1} c.loop-i.invariant.1 (omega arith) (omega arith) in
    omega (arith, ap (λ (x : ℕ). c.loop-i.stride * x) c.states-states.ensures)

pub loop-i-preserved : goal.loop-i-preserved
loop-i-preserved c =
    let h = c.loop-i.invariant in
    let whole = blocks_whole c.requires {i = c.loop-i.i - 1} h.1 (omega arith) (omega arith) h.0 c.states-states.ensures in (
      blocks_left c.requires {i = c.loop-i.i - 1} h.1 (omega arith) (omega arith) h.0 c.states-states.ensures,
      rw c.states-states.ensures
          (elim c.if-moves.branch [
            | then-moves w ↦ rw w.work-is
                (stepping_moved c.requires h.1 (omega arith) (omega arith) w.if-moves.true
                (subst
                (λ (x : ℕ). LayerStepped c.args.rows.now.weights c.args.rows.now.states c.loop-i.stride x c.loop-i.work
                w.step_variable.new.layer) (sym whole) w.step_variable.ensures))
            | else-moves w ↦ rw w.work-is
                (stepping_stayed c.requires h.1 (omega arith) (omega arith) w.if-moves.false)
          ]),
    )

pub returns : goal.returns
returns c = stepping_all c.requires c.loop-i.invariant.1 (omega arith)
