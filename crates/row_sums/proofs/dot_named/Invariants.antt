-- `row_sums::dot_named` meets its contract: the total is the sum over the places so far.
use Prim.Native.Nat.{◌*◌}
use mathlib.Core.Path.{◌≡◌}
use lib.ListN.{get_or}
use Rattle.counting.specs.Below.{sum_below}
use Rattle.row_sums.specs.Sparse.{named_at}
use Rattle.row_sums.proofs.dot_named.Given as goal

abbrev pub invariant-loop-i : goal.invariant-loop-i
invariant-loop-i l = l.total ≡ sum_below (2 * l.i) (named_at l.row l.places (λ t. get_or l.column t 0))
