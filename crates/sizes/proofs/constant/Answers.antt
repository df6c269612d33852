-- `constant` meets its contract: its numbers are below 2^32.
use Prim.Native.Nat.{ℕ}
use mathlib.Core.Bool.{false}
use mathlib.Core.Path.{sym, ap₂, ◌∙◌}
use native.Mathlib.Omega.{arith}
use Rattle.sizes.specs.Sizing.{measured}
use Rattle.capped.proofs.Capped.{capped_small}
use Rattle.sizes.proofs.constant.Goals as goal

pub returns : goal.returns
returns c =
    c.judged.ensures ∙
    ap₂ (λ (d m : ℕ). measured c.args.next d m false)
    (sym (capped_small _ (omega (arith, c.ranges.bottom)))) (sym (capped_small _ (omega (arith, c.ranges.top))))
