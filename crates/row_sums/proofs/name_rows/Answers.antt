-- `row_sums::name_rows` meets its contract: row after row.
use borrow.Author.Rules.{rules}
use Prim.Native.Nat.{◌≤◌}
use native.Mathlib.Omega.{arith}
use Rattle.row_sums.proofs.Namings.{naming_named, rows_next}
use Rattle.row_sums.proofs.name_rows.Goals as goal

pub loop-s-preserved : goal.loop-s-preserved
loop-s-preserved c =
    let h = c.loop-s.invariant in
    let named = c.in_ok-count.ensures in
    let few = named.few in
    let larger : (c.loop-s.most ≤ c.max-most.result) × (c.in_ok-count.count ≤ c.max-most.result) = (grind arith, grind arith) in (
      omega (arith, larger),
      grind arith,
      search rules,
      rows_next c.args.rows.now c.loop-s.places h.2 (omega arith) h.3 (naming_named named) (omega arith) larger.0 larger.1,
    )
