-- `row_sums::row_sum` meets its contract: the pairs of places are enough, and a sum over them is one over the row.
use Prim.Native.Nat.{◌*◌, ◌≤◌}
use mathlib.Core.Path.{◌∙◌}
use native.Mathlib.Omega.{arith}
use native.Mathlib.Nat.{le_trans, le_of_eq}
use lib.ListN.{get_or}
use Rattle.row_sums.proofs.Namings.{of_count}
use Rattle.row_sums.proofs.row_sum.Goals as goal

pub dot_named-requires : goal.dot_named-requires
dot_named-requires c =
    let named = of_count _ c.in-Some.is c.requires.1 in (
      omega (arith, c.div_ceil.ensures, named.0),
      omega (arith, c.div_ceil.ensures, named.1),
      named.2.inside,
      le_trans (le_of_eq (named.2.each (λ t. get_or c.args.column.now t 0) 8 (omega (arith, named.1)) (omega arith))) c.requires.2,
    )

pub returns-in-Some : goal.returns-in-Some
returns-in-Some c =
    let named = of_count _ c.in-Some.is c.requires.1 in
    let enough : c.in-Some.most ≤ 2 * c.div_ceil.result = omega (arith, c.div_ceil.ensures) in
    let room : 2 * c.div_ceil.result ≤ 8 = omega (arith, c.div_ceil.ensures, named.1) in
    c.dot_named.ensures ∙ named.2.each (λ t. get_or c.args.column.now t 0) (2 * c.div_ceil.result) enough room
