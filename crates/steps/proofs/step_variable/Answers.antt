-- `steps::step_variable` meets its contract: one column after another.
use Prim.Native.Nat.{ℕ, ◌*◌}
use mathlib.Core.Path.{refl, sym, subst}
use native.Mathlib.Nat.{mul-le-mul_right}
use native.Mathlib.Omega.{arith}
use Rattle.row_sums.specs.Columns.{ColumnFits, ColumnStepped}
use Rattle.steps.proofs.Columns.{LayerStepping, layer_next, layer_all, column_fits, column_less, blocks_are, start_at}
use Rattle.steps.proofs.step_variable.Goals as goal

pub step_column-requires : goal.step_column-requires
step_column-requires c =
    let pre = c.requires in
    let same = c.states-states.ensures in
    let less = column_less pre refl c.loop-block-test.true c.loop-k-test.true in (
      subst
          (λ (x : ℕ). ColumnFits c.args.rows.now.weights c.args.rows.now.states c.args.stride x c.loop-k.layer)
          (start_at c.args.rows.now.states c.args.stride pre.some pre.apart c.loop-block.block c.loop-k.k same c.loop-k-test.true
          (omega arith)) (column_fits pre less c.loop-k.invariant.0),
      c.loop-k.invariant.1,
    )

pub loop-k-preserved : goal.loop-k-preserved
loop-k-preserved c =
    let pre = c.requires in
    let same = c.states-states.ensures in
    let less = column_less pre refl c.loop-block-test.true c.loop-k-test.true in (
      subst
          (λ (x : ℕ).
          LayerStepping c.args.rows.now.weights c.args.rows.now.states c.args.stride
          (c.args.blocks * c.args.rows.now.states * c.args.stride) c.args.layer.now x c.step_column.new.layer)
          (omega arith)
          (layer_next pre less c.loop-k.invariant.0
          (subst
          (λ (x : ℕ).
          ColumnStepped c.args.rows.now.weights c.args.rows.now.states c.args.stride x c.loop-k.layer c.step_column.new.layer)
          (sym
          (start_at c.args.rows.now.states c.args.stride pre.some pre.apart c.loop-block.block c.loop-k.k same c.loop-k-test.true
          (omega arith))) c.step_column.ensures.0)),
      c.step_column.ensures.1,
    )

pub returns : goal.returns
returns c =
    let pre = c.requires in
    let all = blocks_are pre refl in
    layer_all pre c.loop-block.invariant.0
    (mul-le-mul_right {m = pre.above} {n = c.loop-block.block} c.args.stride (omega (arith, all, c.loop-block-test.false)))
