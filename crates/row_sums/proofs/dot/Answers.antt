-- `row_sums::dot` meets its contract. The invariant: the total is the sum so far.
use Prim.Native.Nat.{ℕ, ◌+◌, ◌*◌, ◌≤◌, ◌<◌}
use mathlib.Core.List.{List}
use mathlib.Core.Path.{◌≡◌, sym, ap, ap₂, ◌∙◌}
use native.Mathlib.Omega.{arith}
use lib.ListN.{get_or}
use Rattle.counting.specs.Below.{sum_below}
use Rattle.counting.proofs.Laws.{sum_none, sum_more}
use Rattle.row_sums.proofs.Namings.{part_le}
use Rattle.row_sums.proofs.dot.Goals as goal

pub loop-t-init : goal.loop-t-init
loop-t-init c = sym (sum_none _)

-- the products of the weights and the column's numbers
abbrev product : (row column : List ℕ) → ℕ → ℕ
product row column t = get_or row t 0 * get_or column t 0

-- the next term is such a product, and the sum with it is at most the whole
next_term : (row column : List ℕ) {n t w : ℕ} → w ≡ get_or row t 0 → t < n →
    (w * get_or column t 0 ≡ product row column t) ×
    (sum_below t (product row column) + product row column t ≤ sum_below n (product row column))
next_term row column {n} {t} {w} e less = (ap (λ (x : ℕ). x * get_or column t 0) e, part_le n (product row column) t less)

pub overflow_mul-total : goal.overflow_mul-total
overflow_mul-total c = omega (arith, next_term c.args.row.now c.args.column.now c.from.ensures c.loop-t-test.true)

pub overflow_add-total : goal.overflow_add-total
overflow_add-total c = omega (arith, next_term c.args.row.now c.args.column.now c.from.ensures c.loop-t-test.true)

pub loop-t-preserved : goal.loop-t-preserved
loop-t-preserved c =
    let row = c.args.row.now in
    let column = c.args.column.now in
    ap₂ (λ (a b : ℕ). a + b) c.loop-t.invariant (next_term row column c.from.ensures c.loop-t-test.true).0 ∙
    sym (sum_more c.loop-t.t (product row column))
