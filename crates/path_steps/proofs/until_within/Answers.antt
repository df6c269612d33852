-- `until_within` meets its contract: the variables named at the path's places step.
use Prim.Native.Nat.{ℕ, ◌*◌, ◌≤◌}
use native.Mathlib.Nat.{mul-le-mul}
use native.Mathlib.Omega.{arith}
use Rattle.names.proofs.Labels.{count_few}
use Rattle.path_steps.proofs.until_within.Goals as goal

-- v × k2 is a small number
small : (v k2 : ℕ) → v ≤ 4 → k2 ≤ 60 → v * k2 ≤ 240
small v k2 few last = mul-le-mul few last

pub overflow_mul-v : goal.overflow_mul-v
overflow_mul-v c =
    let few = count_few c.names-moving.result c.args.over.now.setting.variables in
    omega (arith, small c.how_many-v.result c.args.to (omega (arith, c.how_many-v.ensures, c.requires.until.few)) c.requires.last)

pub overflow_cast-v : goal.overflow_cast-v
overflow_cast-v c =
    let few = count_few c.names-moving.result c.args.over.now.setting.variables in
    omega (arith, small c.how_many-v.result c.args.to (omega (arith, c.how_many-v.ensures, c.requires.until.few)) c.requires.last)
