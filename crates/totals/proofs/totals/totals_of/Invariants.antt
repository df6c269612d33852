-- `totals::totals::totals_of` meets its contract: the matrix is filled row by row.
use mathlib.Core.Bool.{cond}
use mathlib.Core.List.{[]}
use lib.Dec.{eqb}
use lib.ListN.{get_or}
use Rattle.counting.specs.Below.{sum_below, table}
use Rattle.counting.proofs.Laws.{Filled}
use Rattle.groups.specs.Groups.{group_of}
use Rattle.totals.proofs.totals.totals_of.Given as goal

abbrev pub invariant-loop-s : goal.invariant-loop-s
invariant-loop-s l =
    Filled 32 (λ s. table 32 (λ h. sum_below l.n (λ t. cond (eqb (group_of l.grouping t) h) (get_or (get_or l.rows s []) t 0) 0)))
    [] l.s l.totals
