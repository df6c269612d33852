-- `groups::alike::pair_alike` meets its contract, by what its parts ensure.
use mathlib.Core.Bool.{Bool, ◌&&◌}
use mathlib.Core.Path.{ap}
use lib.Dec.{eqb}
use lib.ListN.{get_or}
use Rattle.groups.proofs.alike.pair_alike.Goals as goal

pub returns : goal.returns
returns c =
    let a = c.args in
    ap (λ (x : Bool). eqb (get_or a.masks.now a.s 0) (get_or a.masks.now a.t 0) && x) c.rows_agree.ensures
