-- `groups::grouping::all_used` meets its contract. The invariant: the groups passed are used.
use mathlib.Core.Path.{sym, ◌∙◌}
use native.Mathlib.Omega.{arith}
use Rattle.counting.proofs.Laws.{passed_none, passed_next, passed_all, failed_at}
use Rattle.groups.proofs.grouping.all_used.Goals as goal

pub loop-g-init : goal.loop-g-init
loop-g-init c = passed_none

pub returns-then-not-is_used : goal.returns-then-not-is_used
returns-then-not-is_used c = failed_at c.loop-g.invariant (omega arith) (sym c.is_used.ensures ∙ c.if-not-is_used.true)

pub loop-g-preserved : goal.loop-g-preserved
loop-g-preserved c =
    passed_next c.loop-g.invariant (omega arith)
    (sym c.is_used.ensures ∙ c.if-not-is_used.false)

pub returns : goal.returns
returns c = passed_all c.loop-g.invariant (omega arith)
