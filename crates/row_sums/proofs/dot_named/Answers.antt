-- `row_sums::dot_named` meets its contract: the total is the sum over the pairs of places so far.
use Prim.Native.Nat.{◌*◌}
use mathlib.Core.Path.{sym, ◌∙◌}
use native.Mathlib.Omega.{arith}
use Rattle.row_sums.proofs.Namings.{two_first, pair_more, pair_fits}
use Rattle.row_sums.proofs.dot_named.Goals as goal

pub pair-total-requires : goal.pair-total-requires
pair-total-requires c = (
  omega arith,
  c.requires.2,
  omega (arith, pair_fits c.args.row.now c.args.places.now c.args.column.now c.requires.3 0 (omega arith)),
)

pub loop-i-init : goal.loop-i-init
loop-i-init c = c.pair-total.ensures ∙ sym (two_first _)

pub pair-total-requires-in-loop-i : goal.pair-total-requires-in-loop-i
pair-total-requires-in-loop-i c = (
  omega (arith, c.requires.1),
  c.requires.2,
  omega (
    arith,
    pair_fits c.args.row.now c.args.places.now c.args.column.now c.requires.3 (2 * c.loop-i.i) (omega (arith, c.requires.1)),
  ),
)

pub overflow_add-total : goal.overflow_add-total
overflow_add-total c =
    omega (
      arith,
      c.loop-i.invariant,
      c.pair-total-in-loop-i.ensures,
      pair_fits c.args.row.now c.args.places.now c.args.column.now c.requires.3 (2 * c.loop-i.i) (omega (arith, c.requires.1)),
    )

pub loop-i-preserved : goal.loop-i-preserved
loop-i-preserved c =
    pair_more c.args.row.now c.args.places.now c.args.column.now c.loop-i.i c.loop-i.invariant c.pair-total-in-loop-i.ensures
