-- `totals::totals::totals_row` meets its contract: the totals are filled from the front.
use mathlib.Core.Bool.{cond}
use lib.Dec.{eqb}
use lib.ListN.{get_or}
use Rattle.counting.specs.Below.{sum_below}
use Rattle.counting.proofs.Laws.{Filled}
use Rattle.groups.specs.Groups.{group_of}
use Rattle.totals.proofs.totals.totals_row.Given as goal

abbrev pub invariant-loop-h : goal.invariant-loop-h
invariant-loop-h l =
    Filled 32 (λ h. sum_below l.n (λ t. cond (eqb (group_of l.grouping t) h) (get_or l.row t 0) 0)) 0 l.h l.totals
