-- `Model::rows_right` meets its contract. The invariant: the rows passed are past N, add up or are a halted state's.
use Prim.Native.Nat.{ℕ}
use mathlib.Core.Bool.{Bool, ◌||◌}
use mathlib.Core.Path.{sym, ap₂, ◌∙◌}
use native.Mathlib.Omega.{arith}
use lib.Dec.{leb, eqb}
use Rattle.counting.proofs.Laws.{passed_none, passed_next, passed_all, failed_at}
use Rattle.model.specs.Rules.{rows_right}
use Rattle.model.proofs.Model.rows_right.Goals as goal

pub loop-s-init : goal.loop-s-init
loop-s-init c = passed_none

pub returns-then-not-past-adds_up : goal.returns-then-not-past-adds_up
unfolding rows_right
returns-then-not-past-adds_up c =
    let m = c.args.self.now in
    let s = c.loop-s.s in
    failed_at c.loop-s.invariant (omega arith) (ap₂ (λ (k : ℕ) (h : Bool). leb m.n s || eqb k m.d || h) (sym c.row_sum.ensures.0)
    (sym c.is_halted.ensures) ∙ c.if-not-past-adds_up.true)

pub loop-s-preserved : goal.loop-s-preserved
loop-s-preserved c =
    let m = c.args.self.now in
    let s = c.loop-s.s in
    passed_next c.loop-s.invariant (omega arith) (ap₂ (λ (k : ℕ) (h : Bool). leb m.n s || eqb k m.d || h) (sym c.row_sum.ensures.0)
    (sym c.is_halted.ensures) ∙ c.if-not-past-adds_up.false)

pub returns : goal.returns
unfolding rows_right
returns c = passed_all c.loop-s.invariant (omega arith)
