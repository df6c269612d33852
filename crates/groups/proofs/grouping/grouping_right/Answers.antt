-- `groups::grouping::grouping_right` meets its contract, by what its parts ensure.
use Prim.Native.Nat.{ℕ}
use mathlib.Core.Bool.{Bool, ◌&&◌}
use mathlib.Core.Path.{ap, ◌∙◌}
use lib.Dec.{eqb}
use lib.ListN.{length}
use Rattle.counting.specs.Below.{every_below}
use Rattle.groups.specs.Groups.{is_used, grouping_right}
use Rattle.groups.proofs.grouping.grouping_right.Goals as goal

pub returns : goal.returns
unfolding grouping_right
returns c =
    let a = c.args in
    ap (λ (b : Bool). eqb (length a.grouping.now) a.n && b)
    (c.all_used.ensures ∙ ap (λ (k : ℕ). every_below k (is_used a.grouping.now)) c.group_count.ensures.0)
