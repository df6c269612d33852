-- Working: what the functions of this crate promise one another. Nothing here has to be believed.
--
-- A signed numerator in a number of 64 bits. Numerators are at most 2^62 in size; the upper half holds the negative
-- ones.
use Rattle.std.specs.Prelude.{ℕ, suc, ◌+◌, ◌-◌, ◌*◌, ◌^◌, ◌≤◌, cond, ltb, ℤ, pos, negsuc, neg_ℤ, nat_abs}
use Rattle.meaning.specs.Size.{size_limit}

-- the codes from 2^63 on stand for negative numerators
abbrev pub upper_half : ℕ
upper_half = 2 ^ 63

-- the number itself, or 2^63 and its size for a negative one
abbrev pub coded : ℤ → ℕ
coded (pos n) = n
coded (negsuc n) = upper_half + suc n

-- the whole number that a code stands for
abbrev pub decoded : ℕ → ℤ
decoded x = cond (ltb x upper_half) (pos x) (neg_ℤ (pos (x - upper_half)))

-- the numerator's size is at most 2^62
pub record Small (z : ℤ) : Type 0 where
  pub size : nat_abs z ≤ size_limit

-- a denominator is at most 2^62, and so is the size of a numerator times it
pub record CrossFits (a : ℤ) (d : ℕ) : Type 0 where
  pub small : d ≤ size_limit
  pub size : nat_abs a * d ≤ size_limit
