-- `groups::alike::rows_agree` meets its contract: the front parts of two rows are equal if their columns are.
use mathlib.Core.Path.{◌≡◌, ◌∙◌}
use native.Mathlib.Omega.{arith}
use lib.ListN.{length}
use Rattle.std.proofs.Common.{rules}
use Rattle.counting.proofs.Listed.{same_fronts}
use Rattle.groups.proofs.alike.rows_agree.Goals as goal

pub returns : goal.returns
returns c =
    let a = c.args in
    let long : length a.a.now ≡ 32 = search rules in
    let other : length a.b.now ≡ 32 = search rules in
    c.eq.ensures ∙ same_fronts a.count a.a.now a.b.now (omega (arith, long)) (omega (arith, other))
