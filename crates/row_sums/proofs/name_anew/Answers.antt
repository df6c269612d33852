-- `row_sums::name_anew` meets its contract: the places name a weight that is 0 before the row's are named.
use mathlib.Core.Path.{refl}
use native.Mathlib.Omega.{arith}
use Rattle.row_sums.proofs.Namings.{naming_none, eight}
use Rattle.row_sums.proofs.name_anew.Goals as goal

pub name_row-requires : goal.name_row-requires
name_row-requires c =
    let zero = c.in_ok-spare.ensures in
    let spare = c.in_ok-spare.spare in
    (c.requires, naming_none spare refl (omega arith) zero.1 (eight spare))
