-- `row_sums::pair_rows` meets its contract: half as many pairs, rounded up, are as many places or one more.
use Prim.Native.Nat.{◌*◌, ◌≤◌}
use native.Mathlib.Omega.{arith}
use Rattle.row_sums.proofs.Namings.{named_more}
use Rattle.row_sums.proofs.pair_rows.Goals as goal

pub returns : goal.returns
returns c =
    let named = c.in_ok-most.ensures in
    let enough : c.in_ok-most.most ≤ 2 * c.div_ceil.result = omega (arith, c.div_ceil.ensures) in record {
      some = omega (arith, c.div_ceil.ensures, named.some);
      few = omega (arith, c.div_ceil.ensures, named.few);
      each = λ s less. named_more (named.each s less) enough;
    }
