-- What one more than the largest number is.
use Prim.Native.Nat.{ℕ, zero, suc, max, ◌+◌, ◌≤◌, ◌<◌}
use mathlib.Core.Bool.{Bool, true, false, cond}
use mathlib.Core.Path.{◌≡◌, refl, ap}
use native.Mathlib.Numerals.{add-one}
use native.Mathlib.Nat.{le-max_left, le-max_right, max-le, le_trans, le_of_eq}
use native.Mathlib.Omega.{arith}
use native.Mathlib.Decide.{dec_lt}
use Rattle.counting.specs.Below.{sum_below}
use Rattle.groups.specs.Groups.{over_all}

pub over_none : (f : ℕ → ℕ) → over_all 0 f ≡ 0
unfolding over_all
over_none f = refl

pub over_more : (n : ℕ) (f : ℕ → ℕ) → over_all (n + 1) f ≡ max (over_all n f) (suc (f n))
unfolding over_all
over_more n f = ap (λ (k : ℕ). over_all k f) (add-one n)

-- what counts of a sum is no more than the whole
pub sum_part : (n : ℕ) (counts : ℕ → Bool) (f : ℕ → ℕ) → sum_below n (λ t. cond (counts t) (f t) 0) ≤ sum_below n f
unfolding sum_below
sum_part zero counts f = omega arith
sum_part (suc n) counts f =
    let r = sum_part n counts f in
    let l = part (counts n) (f n) in
    omega arith
  where
    part : (b : Bool) (x : ℕ) → cond b x 0 ≤ x
    part true x = omega arith
    part false x = omega arith

-- every number is below it
pub over_above : (n : ℕ) (f : ℕ → ℕ) (s : ℕ) → s < n → f s < over_all n f
unfolding over_all
over_above zero f s l = absurd (omega arith)
over_above (suc n) f s l = go (dec_lt s n) (over_above n f s)
  where
    go : Dec (s < n) → (s < n → f s < over_all n f) → f s < max (over_all n f) (suc (f n))
    go (yes less) earlier = le_trans (earlier less) (le-max_left (over_all n f) (suc (f n)))
    go (no more) earlier =
        let e : s ≡ n = omega arith in
        le_trans (le_of_eq (ap (λ (k : ℕ). suc (f k)) e)) (le-max_right (over_all n f) (suc (f n)))

-- and it is the least number above them all
pub over_least : (n : ℕ) (f : ℕ → ℕ) (m : ℕ) → ((s : ℕ) → s < n → f s < m) → over_all n f ≤ m
unfolding over_all
over_least zero f m h = omega arith
over_least (suc n) f m h = max-le (over_least n f m (λ s l. h s (omega arith))) (h n (omega arith))
