-- `block::checks_right` meets its contract. The invariant: the checks of the blocks passed are right.
use mathlib.Core.Path.{sym, ◌∙◌}
use native.Mathlib.Omega.{arith}
use Rattle.counting.proofs.Laws.{passed_none, passed_next, passed_all, failed_at}
use Rattle.block.proofs.checks_right.Goals as goal

pub loop-i-init : goal.loop-i-init
loop-i-init c = passed_none

pub returns-then-not-check_right : goal.returns-then-not-check_right
returns-then-not-check_right c =
    failed_at c.loop-i.invariant (omega arith) (sym c.check_right.ensures ∙ c.if-not-check_right.true)

pub loop-i-preserved : goal.loop-i-preserved
loop-i-preserved c =
    passed_next c.loop-i.invariant (omega arith) (sym c.check_right.ensures ∙ c.if-not-check_right.false)

pub returns : goal.returns
returns c = passed_all c.loop-i.invariant (omega arith)
