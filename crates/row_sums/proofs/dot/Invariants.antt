-- `row_sums::dot` meets its contract. The invariant: the total is the sum so far.
use Prim.Native.Nat.{◌*◌}
use mathlib.Core.Path.{◌≡◌}
use lib.ListN.{get_or}
use Rattle.counting.specs.Below.{sum_below}
use Rattle.row_sums.proofs.dot.Given as goal

abbrev pub invariant-loop-t : goal.invariant-loop-t
invariant-loop-t l = l.total ≡ sum_below l.t (λ k. get_or l.row k 0 * get_or l.column k 0)
