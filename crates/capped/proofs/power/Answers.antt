-- `power` meets its contract. The invariant: the number is the power so far, capped.
use Prim.Native.Nat.{◌^◌}
use mathlib.Core.Path.{◌≡◌, sym, ap, ◌∙◌}
use native.Mathlib.Omega.{arith}
use Rattle.capped.specs.Capping.{capped}
use Rattle.capped.proofs.Capped.{capped_power, capped_small}
use native.Mathlib.Nat.{pow-zero}
use Rattle.capped.proofs.power.Goals as goal

pub loop-init : goal.loop-init
loop-init c =
    let one : c.args.base ^ 0 ≡ 1 = pow-zero c.args.base in
    sym (ap capped one ∙ capped_small 1 (omega arith))

pub loop-preserved : goal.loop-preserved
loop-preserved c = c.times-r.ensures ∙ capped_power _ _ _ c.loop.invariant
