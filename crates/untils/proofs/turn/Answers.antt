-- `untils::turn` meets its contract: the third layer is lent to the step as a tail.
use Prim.Native.Nat.{ℕ, ◌+◌}
use mathlib.Core.List.{List}
use mathlib.Core.Path.{subst}
use native.Mathlib.Omega.{arith}
use lib.ListN.{length}
use Rattle.steps.specs.Steps.{Stepped}
use Rattle.layers.proofs.Tails.{lent_tail, put_back}
use Rattle.untils.proofs.Untils.{turned_from}
use Rattle.untils.proofs.turn.Goals as goal

pub returns : goal.returns
returns c =
    let T = c.args.tuples in
    let w = c.args.work.now in
    let tail = c.joint_step.new.work in
    let stepped = c.joint_step.ensures in
    let back = put_back (T + T) w tail (omega (arith, c.requires.room)) stepped.kept.long in
    let those = c.args.moving.now in
    turned_from c.requires.step.sizes.whole
    (subst (λ (l : List ℕ). Stepped c.args.rows.now.weights c.args.rows.now.states (length those) those T l tail)
    (lent_tail (T + T) w) stepped)
    back c.choose.ensures
