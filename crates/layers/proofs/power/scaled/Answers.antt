-- `layers::power::scaled` meets its contract: the powers on the way are no larger than the last.
use Prim.Native.Nat.{ℕ, suc, ◌*◌, ◌^◌}
use mathlib.Core.Path.{ap, ◌∙◌}
use native.Mathlib.Nat.{pow-suc, pow-le-pow_right, mul-le-mul_left}
use native.Mathlib.Numerals.{add-one}
use native.Mathlib.Omega.{arith}
use Rattle.layers.proofs.power.scaled.Goals as goal

pub overflow_mul-product : goal.overflow_mul-product
overflow_mul-product c =
    let args = c.args in
    let i = c.loop.counter in
    let e = ap (λ (y : ℕ). y * args.d) c.loop.invariant in
    let p = ap (λ (y : ℕ). args.x * y) (pow-suc args.d i) in
    let more = pow-le-pow_right c.requires.0 {i = suc i} {j = args.times} (omega arith) in
    let q = mul-le-mul_left args.x more in
    omega arith

pub loop-preserved : goal.loop-preserved
loop-preserved c =
    let args = c.args in
    let i = c.loop.counter in
    let e = ap (λ (y : ℕ). y * args.d) c.loop.invariant in
    let p = ap (λ (y : ℕ). args.x * y) (ap (λ (y : ℕ). args.d ^ y) (add-one i) ∙ pow-suc args.d i) in
    omega arith
