-- How large a product, a sum and a difference of whole numbers can be, and what the tests of order say.
use Prim.Native.Nat.{ℕ, zero, suc, ◌+◌, ◌*◌, ◌-◌, ◌≤◌}
use mathlib.Core.Bool.{Bool, true, false, cond, false≢true}
use mathlib.Core.Path.{◌≡◌, refl, ap, subst}
use native.Mathlib.Nat.{le_refl, le_antisymm}
use native.Mathlib.Omega.{arith}
use borrow.Author.Tests.{ltb-true, leb-true, le-leb}
use lib.Dec.{ltb}
use lib.IntN.{ℤ, pos, negsuc, neg_ℤ, nat_abs, sub_ℕ, ◌+ℤ◌, ◌-ℤ◌, ◌*ℤ◌}
use lib.Signed.{le_z}

-- a negative is as large as the number
abs_neg : (z : ℤ) → nat_abs (neg_ℤ z) ≡ nat_abs z
abs_neg (pos zero) = refl
abs_neg (pos (suc n)) = refl
abs_neg (negsuc n) = refl

-- a product is as large as the product of both
pub abs_mul : (a b : ℤ) → nat_abs (a *ℤ b) ≡ nat_abs a * nat_abs b
abs_mul (pos a) (pos b) = refl
abs_mul (pos a) (negsuc b) = abs_neg (pos (a * suc b))
abs_mul (negsuc a) (pos b) = abs_neg (pos (suc a * b))
abs_mul (negsuc a) (negsuc b) = refl

abs_sub : (a b : ℕ) → nat_abs (sub_ℕ a b) ≤ a + b
abs_sub a b = sides (ltb a b) refl
  where
    sides : (t : Bool) → ltb a b ≡ t → nat_abs (cond t (negsuc (b - suc a)) (pos (a - b))) ≤ a + b
    sides true e =
        let l = ltb-true a b e in
        omega arith
    sides false e = omega arith

-- a sum is at most as large as both together
pub abs_add : (a b : ℤ) → nat_abs (a +ℤ b) ≤ nat_abs a + nat_abs b
abs_add (pos a) (pos b) = le_refl (a + b)
abs_add (pos a) (negsuc b) = abs_sub a (suc b)
abs_add (negsuc a) (pos b) =
    let l = abs_sub b (suc a) in
    omega arith
abs_add (negsuc a) (negsuc b) = omega arith

-- and so is a difference
pub abs_diff : (a b : ℤ) → nat_abs (a -ℤ b) ≤ nat_abs a + nat_abs b
abs_diff a b = subst (λ (x : ℕ). nat_abs (a -ℤ b) ≤ nat_abs a + x) (abs_neg b) (abs_add a (neg_ℤ b))

-- two numbers that are each at most the other are one number
pub le_z_both : (a b : ℤ) → le_z a b ≡ true → le_z b a ≡ true → a ≡ b
le_z_both (pos a) (pos b) p q = ap pos (le_antisymm (leb-true a b p) (leb-true b a q))
le_z_both (pos a) (negsuc b) p q = absurd (false≢true p)
le_z_both (negsuc a) (pos b) p q = absurd (false≢true q)
le_z_both (negsuc a) (negsuc b) p q = ap negsuc (le_antisymm (leb-true a b q) (leb-true b a p))

-- each number is at most itself
pub le_z_self : (a : ℤ) → le_z a a ≡ true
le_z_self (pos a) = le-leb a a (le_refl a)
le_z_self (negsuc a) = le-leb a a (le_refl a)
