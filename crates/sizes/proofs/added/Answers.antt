-- `added` meets its contract.
use Rattle.capped.proofs.Capped.{capped_result}
use Rattle.sizes.proofs.added.Goals as goal

pub plus-m-requires : goal.plus-m-requires
plus-m-requires c = (capped_result _ _ c.times.ensures, capped_result _ _ c.times-2.ensures)
