-- `row_sums::name_rows` meets its contract: row after row.
use Prim.Native.Nat.{ℕ, ◌≤◌, ◌<◌}
use mathlib.Core.List.{[]}
use mathlib.Core.Path.{◌≡◌}
use lib.ListN.{length, get_or}
use Rattle.row_sums.specs.Sparse.{Named}
use Rattle.row_sums.proofs.name_rows.Given as goal

abbrev pub invariant-loop-s : goal.invariant-loop-s
invariant-loop-s l =
    (1 ≤ l.most) × (l.most ≤ 7) × (length l.places ≡ 32) ×
    ((k : ℕ) → k < l.s → Named (get_or l.rows k []) l.states l.most (get_or l.places k []))
