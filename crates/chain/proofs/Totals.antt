-- A sum over 32 columns of which those from N on are zero is the sum over N columns.
use Prim.Native.Nat.{ℕ, zero, suc, ◌+◌, ◌-◌, ◌≤◌, ◌<◌}
use mathlib.Core.Path.{◌≡◌, ap, ap₂, ◌∙◌}
use native.Mathlib.Nat.{add-zero}
use native.Mathlib.Omega.{arith}
use Rattle.counting.specs.Below.{sum_below}
use Rattle.counting.proofs.Laws.{sum_more}

-- a sum that goes on over zeros
sum_past : (n k : ℕ) (f : ℕ → ℕ) → ((t : ℕ) → n ≤ t → t < n + k → f t ≡ 0) → sum_below (n + k) f ≡ sum_below n f
sum_past n zero f h = ap (λ (x : ℕ). sum_below x f) (add-zero n)
sum_past n (suc k) f h =
    let e : n + suc k ≡ n + k + 1 = omega arith in
    ap (λ (x : ℕ). sum_below x f) e ∙
    sum_more (n + k) f ∙
    ap₂ (λ (a b : ℕ). a + b) (sum_past n k f (λ t l u. h t l (omega arith))) (h (n + k) (omega arith) (omega arith)) ∙
    add-zero (sum_below n f)

-- a sum of which all terms from n on are zero
pub sum_first : (n m : ℕ) (f : ℕ → ℕ) → n ≤ m → ((t : ℕ) → n ≤ t → t < m → f t ≡ 0) → sum_below m f ≡ sum_below n f
sum_first n m f l h =
    let e : m ≡ n + (m - n) = omega arith in
    ap (λ (x : ℕ). sum_below x f) e ∙ sum_past n (m - n) f (λ t low high. h t low (omega arith))
