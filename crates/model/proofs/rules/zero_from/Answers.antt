-- `model::rules::zero_from` meets its contract: what `all` says of the row from a column on is said of every column.
use Prim.Native.Nat.{ℕ}
use mathlib.Core.Bool.{◌||◌}
use mathlib.Core.Path.{◌≡◌, ap, ◌∙◌}
use lib.Dec.{eqb, ltb}
use lib.ListN.{length, get_or}
use Rattle.std.proofs.Common.{rules, tests}
use Rattle.std.proofs.lemmas.Iterator.{YieldsList-from_slice}
use Rattle.std.proofs.lemmas.Iterator.Adapters.{YieldsList-from_skip}
use Rattle.std.proofs.lemmas.Iterator.Search.{all_from_yields_List}
use Rattle.counting.specs.Below.{every_below}
use Rattle.counting.proofs.Listed.{every_from}
use Rattle.model.proofs.rules.zero_from.Goals as goal

pub returns : goal.returns
returns c =
    let row = c.args.row.now in
    let long : length row ≡ 32 = search rules in
    let past = YieldsList-from_skip c.args.from (YieldsList-from_slice row cc) cc in
    all_from_yields_List (λ w. eqb w 0) _ _ _ c.all.ensures.ran past (λ x b q k. search (rules, tests)) ∙
    every_from (λ w. eqb w 0) 0 c.args.from row ∙
    ap (λ (n : ℕ). every_below n (λ k. ltb k c.args.from || eqb (get_or row k 0) 0)) long
