-- `step_column` meets its contract: the sums are of the copied column, whatever has been written since.
use mathlib.Core.Path.{refl, sym, subst, ◌∙◌}
use native.Mathlib.Omega.{arith}
use Rattle.row_sums.specs.Columns.{ColumnFits, ColumnStepped}
use Rattle.row_sums.specs.Sparse.{Matrix}
use Rattle.row_sums.proofs.Columns.{column_next, column_all, column_sum, dense_fits, named_fits, named_sum}
use Rattle.row_sums.proofs.Namings.{of_count}
use Rattle.row_sums.proofs.rows.Rows.step_column.Goals as goal

pub dot_named-requires : goal.dot_named-requires
dot_named-requires c =
    let a = c.args in
    let fits = subst (λ (m : Matrix). ColumnFits m.weights m.states a.stride a.at a.layer.now) (sym c.self.view_is) c.requires.0 in
    let named = of_count _ c.in-Some.is c.self.invariant.1 in (
      named.some,
      named.few,
      (named.each c.loop-s.s c.loop-s-test.true).inside,
      named_fits fits c.read_column.ensures c.loop-s-test.true named,
    )

pub loop-s-preserved : goal.loop-s-preserved
loop-s-preserved c =
    let a = c.args in
    let fits = subst (λ (m : Matrix). ColumnFits m.weights m.states a.stride a.at a.layer.now) (sym c.self.view_is) c.requires.0 in
    let named = of_count _ c.in-Some.is c.self.invariant.1 in
    column_next fits c.loop-s.invariant c.loop-s-test.true refl
    (c.dot_named.ensures ∙ named_sum fits c.read_column.ensures c.loop-s-test.true named)

pub dot-requires : goal.dot-requires
dot-requires c =
    let a = c.args in
    let fits = subst (λ (m : Matrix). ColumnFits m.weights m.states a.stride a.at a.layer.now) (sym c.self.view_is) c.requires.0 in
    (c.self.invariant.0, dense_fits fits c.read_column.ensures c.loop-t-test.true (omega arith))

pub loop-t-preserved : goal.loop-t-preserved
loop-t-preserved c =
    let a = c.args in
    let fits = subst (λ (m : Matrix). ColumnFits m.weights m.states a.stride a.at a.layer.now) (sym c.self.view_is) c.requires.0 in
    column_next fits c.loop-t.invariant c.loop-t-test.true refl
    (c.dot.ensures ∙ column_sum c.self.inside.weights c.loop-t.t (omega arith) refl c.read_column.ensures)

pub returns-after-loop-s : goal.returns-after-loop-s
returns-after-loop-s c =
    let a = c.args in (
      subst (λ (m : Matrix). ColumnStepped m.weights m.states a.stride a.at a.layer.now c.loop-s.layer) c.self.view_is
          (column_all c.loop-s.invariant c.loop-s-test.false),
      c.read_column.array_long,
    )

pub returns-after-loop-t : goal.returns-after-loop-t
returns-after-loop-t c =
    let a = c.args in (
      subst (λ (m : Matrix). ColumnStepped m.weights m.states a.stride a.at a.layer.now c.loop-t.layer) c.self.view_is
          (column_all c.loop-t.invariant c.loop-t-test.false),
      c.read_column.array_long,
    )
