-- `untils::until` meets its contract: the invariant is the layer with so many steps left.
use Prim.Native.Nat.{ℕ, ◌*◌}
use mathlib.Core.Path.{ap}
use native.Mathlib.Omega.{arith}
use Rattle.untils.proofs.Untils.{untiling_none, untiling_next, untiling_all}
use Rattle.untils.proofs.Untils.{few_move, next_power, power_fits, step_fits, turn_fits}
use Rattle.untils.proofs.Untils.{copied_fits, copied_same, copied_taken}
use Rattle.untils.proofs.until.Goals as goal

pub loop-moment-init : goal.loop-moment-init
loop-moment-init c =
    let copied = c.copy.ensures in
    untiling_none (copied_fits c.requires copied) (omega arith) (copied_same c.requires copied)

pub overflow_cast-window : goal.overflow_cast-window
overflow_cast-window c = omega (arith, few_move c.requires)

pub pow-all-requires : goal.pow-all-requires
pow-all-requires c =
    let fits = copied_fits c.requires c.copy.ensures in
    omega (arith, step_fits fits c.loop-moment.invariant (omega arith))

pub overflow_mul-all : goal.overflow_mul-all
overflow_mul-all c =
    let fits = copied_fits c.requires c.copy.ensures in
    let h = c.loop-moment.invariant in
    let same = ap (λ (x : ℕ). c.loop-moment.all * x) c.pow-all.ensures in
    omega (arith, next_power fits h (omega arith), power_fits fits h (omega arith))

pub turn-requires : goal.turn-requires
turn-requires c = turn_fits (copied_fits c.requires c.copy.ensures) c.loop-moment.invariant (omega arith)

pub loop-moment-preserved : goal.loop-moment-preserved
loop-moment-preserved c =
    untiling_next (copied_fits c.requires c.copy.ensures) c.loop-moment.invariant (omega arith)
    (ap (λ (x : ℕ). c.loop-moment.all * x) c.pow-all.ensures) (omega arith) (omega arith) c.turn.ensures

pub returns : goal.returns
returns c =
    let copied = c.copy.ensures in
    copied_taken c.requires copied
    (untiling_all (copied_fits c.requires copied) c.loop-moment.invariant (omega arith) c.copy-2.ensures)
