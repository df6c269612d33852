-- `model::rules::is_halted` meets its contract: a row that is zero from column 0 on is zero in all its weights.
use mathlib.Core.Bool.{Bool, ◌&&◌, ◌||◌}
use mathlib.Core.Path.{ap, ap₂, ◌∙◌}
use native.Mathlib.Omega.{arith}
use lib.Dec.{ltb, eqb}
use lib.ListN.{get_or}
use borrow.Author.Tests.{le-ltb}
use Rattle.std.proofs.Common.{rules, tests}
use Rattle.counting.proofs.Laws.{every_same}
use Rattle.model.proofs.rules.is_halted.Goals as goal

pub returns : goal.returns
returns c =
    let a = c.args in
    let row = a.row.now in
    ap₂ (λ (t b : Bool). ltb a.s a.n && t && b) (search (rules, tests))
    (c.zero_from.ensures ∙ every_same 32 (λ t less. ap (λ (b : Bool). b || eqb (get_or row t 0) 0) (le-ltb t _ (omega arith))))
