-- `next_within` meets its contract: few variables step.
use native.Mathlib.Omega.{arith}
use Rattle.names.proofs.Labels.{count_few}
use Rattle.path_steps.proofs.next_within.Goals as goal

pub overflow_cast-v : goal.overflow_cast-v
overflow_cast-v c =
    let few = count_few c.names-named.result c.args.over.now.setting.variables in
    omega (arith, c.how_many-v.ensures, c.requires.step.few)
