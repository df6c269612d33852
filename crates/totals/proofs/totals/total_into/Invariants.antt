-- `totals::totals::total_into` meets its contract. The invariant: the total is the sum so far, which is small.
use Prim.Native.Nat.{◌*◌, ◌≤◌}
use mathlib.Core.Bool.{cond}
use mathlib.Core.Path.{◌≡◌}
use lib.Dec.{eqb}
use lib.ListN.{get_or}
use Rattle.counting.specs.Below.{sum_below}
use Rattle.groups.specs.Groups.{group_of}
use Rattle.totals.proofs.totals.total_into.Given as goal

abbrev pub invariant-loop-t : goal.invariant-loop-t
invariant-loop-t l =
    (l.t ≤ l.n) × (l.total ≡ sum_below l.t (λ k. cond (eqb (group_of l.grouping k) l.h) (get_or l.row k 0) 0)) × (l.total ≤ 65535 * l.t)
