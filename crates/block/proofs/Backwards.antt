-- Running totals from the back are the weighted sum: one law over the length, as the invariant of a loop that goes down. The first
-- total grows by a value, the second by the first; where the values from i on are added, the second total is what the weighted sum has
-- beyond its first i terms and i times the first total. Assumes nothing.
use Prim.Native.Nat.{ℕ, ◌+◌, ◌*◌}
use mathlib.Core.Path.{◌≡◌, subst}
use native.Mathlib.Omega.{arith}
use Rattle.counting.specs.Below.{sum_below}
use Rattle.counting.proofs.Laws.{sum_none, sum_more}

-- the weighted sum of the values of f below n: the value at i counts i + 1 times
abbrev pub weighted_below : ℕ → (ℕ → ℕ) → ℕ
weighted_below n f = sum_below n (λ i. (i + 1) * f i)

-- the values from i on, of those below n, are in the two totals
pub record Backwards (n : ℕ) (f : ℕ → ℕ) (i first second : ℕ) : Type 0 where
  pub totals : second + (weighted_below i f + i * first) ≡ weighted_below n f

module _ (n : ℕ) (f : ℕ → ℕ) where
  -- at the end of the values both totals are 0
  pub backwards_none : Backwards n f n 0 0
  backwards_none = record { totals = omega arith }

  -- one value more, that at j
  pub backwards_next : {i j first second first' second' : ℕ} → i ≡ j + 1 → first' ≡ first + f j → second' ≡ second + (first + f j)
      → Backwards n f i first second → Backwards n f j first' second'
  backwards_next {i} {j} {first} {second} here grown weighed b =
      let before : Backwards n f (j + 1) first second = subst (λ (k : ℕ). Backwards n f k first second) here b in
      rw (weighed, grown) (record { totals = omega (arith, before.totals, sum_more j (λ k. (k + 1) * f k)) })

  -- where all values are added, the second total is the weighted sum
  pub backwards_all : (first second : ℕ) → Backwards n f 0 first second → second ≡ weighted_below n f
  backwards_all first second b = omega (arith, b.totals, sum_none (λ j. (j + 1) * f j))
