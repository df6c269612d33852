-- `model::rules::row_sum` meets its contract: the sum of the row's items is that of its columns, each below 65,536.
use Prim.Native.Nat.{ℕ, ◌<◌, ◌^◌}
use mathlib.Core.List.{List}
use mathlib.Core.Path.{◌≡◌, ap, ◌∙◌}
use native.Mathlib.Omega.{arith}
use lib.ListN.{length, get_or}
use Rattle.std.proofs.Common.{rules, tests}
use Rattle.std.specs.List.{sum_by}
use Rattle.std.proofs.lemmas.Iterator.{YieldsList-from_slice, YieldsList-from_map}
use Rattle.std.proofs.lemmas.Iterator.Consumers.{sum_by_from_yields_List, fits_by_from_yields_list}
use Rattle.counting.specs.Below.{sum_below}
use Rattle.counting.proofs.Listed.{sum_listed, sum_most}
use Rattle.model.proofs.rules.row_sum.Goals as goal

-- the sum of a row's items, column by column
total : (row : List ℕ) → length row ≡ 32 → sum_by (λ w. w) row ≡ sum_below 32 (λ t. get_or row t 0)
total row long = sum_listed (λ w. w) 0 row ∙ ap (λ (n : ℕ). sum_below n (λ t. get_or row t 0)) long

small : (row : List ℕ) → ((k : ℕ) → get_or row k 0 < 65536) → sum_below 32 (λ t. get_or row t 0) < 2097152
small row fits =
    let most = sum_most 32 65535 (λ t. get_or row t 0) (λ k less. let f = fits k in omega arith) in
    omega arith

pub sum-requires-clause-fits : goal.sum-requires-clause-fits
sum-requires-clause-fits c =
    let row = c.args.row.now in
    let long : length row ≡ 32 = search rules in
    let e = total row long in
    let b = small row (λ k. search rules) in
    fits_by_from_yields_list (λ w. w) row c.map.result (2 ^ 32)
    (YieldsList-from_map _ (λ (w : ℕ). w) (YieldsList-from_slice row cc) (cc) (λ x b q k. search (rules, tests))) (omega arith)

pub returns : goal.returns
returns c =
    let row = c.args.row.now in
    let long : length row ≡ 32 = search rules in
    let e = total row long in
    let b = small row (λ k. search rules) in
    let s = sum_by_from_yields_List (λ w. w) row c.map.result c.sum.result c.sum.ensures.ran
    (YieldsList-from_map _ (λ (w : ℕ). w) (YieldsList-from_slice row cc) (cc) (λ x b q k. search (rules, tests))) in
    (s ∙ e, omega arith)
