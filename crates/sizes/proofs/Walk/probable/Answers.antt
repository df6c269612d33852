-- `Walk::probable` meets its contract: the path's denominator, as d and as m.
use native.Mathlib.Omega.{arith}
use Rattle.names.proofs.Labels.{count_few}
use Rattle.sizes.proofs.Walk.probable.Goals as goal

pub denominator-d-requires : goal.denominator-d-requires
denominator-d-requires c =
    let few = count_few c.names.result c.args.self.now.n in
    omega (arith, few, c.how_many-v.ensures, c.args.self.now.few)
