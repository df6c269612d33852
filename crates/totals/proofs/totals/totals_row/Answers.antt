-- `totals::totals::totals_row` meets its contract: the totals are filled from the front.
use mathlib.Core.Path.{refl}
use native.Mathlib.Omega.{arith}
use lib.Dec.{eqb}
use lib.ListN.{get_or}
use Rattle.counting.proofs.Laws.{filled_none, filled_next, filled_all}
use Rattle.groups.specs.Groups.{group_of}
use Rattle.groups.proofs.Counts.{sum_part}
use Rattle.totals.proofs.totals.totals_row.Goals as goal

pub loop-h-init : goal.loop-h-init
loop-h-init c = filled_none refl

pub overflow_cast-totals : goal.overflow_cast-totals
overflow_cast-totals c =
    let a = c.args in
    omega (
      arith,
      sum_part a.n (λ t. eqb (group_of a.grouping.now t) c.loop-h.h) (λ t. get_or a.row.now t 0),
      c.total_into.ensures,
    )

pub loop-h-preserved : goal.loop-h-preserved
loop-h-preserved c = filled_next c.loop-h.invariant (omega arith) c.total_into.ensures

pub returns : goal.returns
returns c = filled_all c.loop-h.invariant (omega arith)
