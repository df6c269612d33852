-- A law of sums that a step needs: a bound of the numbers goes over to their weighed sum.
use Prim.Native.Nat.{ℕ, zero, suc, ◌*◌, ◌≤◌, ◌<◌}
use native.Mathlib.Nat.{mul-le-mul_left}
use native.Mathlib.Omega.{arith}
use Rattle.counting.specs.Below.{sum_below}

-- numbers that are at most `bound`, weighed
pub sum_bounded : (n : ℕ) (f g : ℕ → ℕ) (bound : ℕ) → ((t : ℕ) → t < n → g t ≤ bound) →
    sum_below n (λ t. f t * g t) ≤ sum_below n f * bound
unfolding sum_below
sum_bounded zero f g bound h = omega arith
sum_bounded (suc n) f g bound h =
    let r = sum_bounded n f g bound (λ t l. h t (omega arith)) in
    let q = mul-le-mul_left (f n) (h n (omega arith)) in
    omega arith
