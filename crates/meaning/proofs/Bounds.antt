-- The size rule does what it is for: an expression's denominator is d and its numerator is no larger than m, whichever
-- tuple it is taken at; so where the rule refuses nothing, no number on the way is above 2^62.
use Prim.Native.Nat.{ℕ, ◌+◌, ◌*◌, ◌^◌, ◌≤◌}
use mathlib.Core.Bool.{false, ◌||◌}
use mathlib.Core.Path.{◌≡◌, refl, ap₂}
use native.Mathlib.Nat.{le_refl, le_trans, le_of_eq, mul-le-mul}
use native.Mathlib.Omega.{arith}
use borrow.Author.Tests.{ltb-false}
use lib.IntN.{ℤ, pos, nat_abs, ◌*ℤ◌}
use Rattle.meaning.specs.Chain.{Chain, Sound, Tuple, Inside}
use Rattle.meaning.specs.Tree.{Relation, compare}
use Rattle.meaning.specs.Tree.{Expression, probability, constant, sum, difference, product}
use Rattle.meaning.specs.Meaning.{Fraction, add_f, sub_f, mul_f, value}
use Rattle.meaning.specs.Size.{Size, add_s, mul_s, size, too_large, large_size, large_cross, exceeds, exceeds_in}
use Rattle.meaning.specs.Size.{exceeds_from}
use Rattle.meaning.proofs.Magnitude.{abs_mul, abs_add, abs_diff}
use Rattle.meaning.proofs.Steps.{numerator_le}
use Rattle.meaning.proofs.Tests.{or_left, or_right}

-- a fraction has the denominator d and a numerator no larger than m
pub record Within (x : Fraction) (z : Size) : Type 0 where
  pub bottom : x.bottom ≡ z.d
  pub top : nat_abs x.top ≤ z.m

-- a numerator times the other's denominator: a cross product
pub cross_within : {x y : Fraction} {v w : Size} → Within x v → Within y w →
    nat_abs (x.top *ℤ pos y.bottom) ≤ v.m * w.d
cross_within {x} {y} {v} {w} p q =
    le_trans (le_of_eq (abs_mul x.top (pos y.bottom))) (mul-le-mul p.top (le_of_eq q.bottom))

-- a sum or a difference of the two cross products
crosses_within : {x y : Fraction} {v w : Size} (top : ℤ) →
    nat_abs top ≤ nat_abs (x.top *ℤ pos y.bottom) + nat_abs (y.top *ℤ pos x.bottom) →
    Within x v → Within y w → Within (record { top = top; bottom = x.bottom * y.bottom }) (add_s v w)
unfolding add_s
crosses_within top h p q =
    record {
      bottom = ap₂ ◌*◌ p.bottom q.bottom;
      top =
          let l = cross_within p q in
          let r = cross_within q p in
          omega arith;
    }

add_within : {x y : Fraction} {v w : Size} → Within x v → Within y w → Within (add_f x y) (add_s v w)
unfolding add_f
add_within {x} {y} p q = crosses_within _ (abs_add (x.top *ℤ pos y.bottom) (y.top *ℤ pos x.bottom)) p q

sub_within : {x y : Fraction} {v w : Size} → Within x v → Within y w → Within (sub_f x y) (add_s v w)
unfolding sub_f
sub_within {x} {y} p q = crosses_within _ (abs_diff (x.top *ℤ pos y.bottom) (y.top *ℤ pos x.bottom)) p q

mul_within : {x y : Fraction} {v w : Size} → Within x v → Within y w → Within (mul_f x y) (mul_s v w)
unfolding mul_f mul_s
mul_within {x} {y} {v} {w} p q =
    record {
      bottom = ap₂ ◌*◌ p.bottom q.bottom;
      top = le_trans (le_of_eq (abs_mul x.top y.top)) (mul-le-mul p.top q.top);
    }

-- the value of every expression at every tuple is within its size
pub value_within : (a : Expression) (c : Chain) → Sound c → (n : ℕ) {s : Tuple} → Inside c.N n s →
    Within (value a c n s) (size a c.D n)
unfolding value size
value_within (probability p) c sound n i = record { bottom = refl; top = numerator_le p c sound n i }
value_within (constant a b) c sound n i = record { bottom = refl; top = le_refl a }
value_within (sum a b) c sound n i = add_within (value_within a c sound n i) (value_within b c sound n i)
value_within (difference a b) c sound n i = sub_within (value_within a c sound n i) (value_within b c sound n i)
value_within (product a b) c sound n i = mul_within (value_within a c sound n i) (value_within b c sound n i)

-- a number that is not too large
fits : (x : ℕ) → too_large x ≡ false → x ≤ 2 ^ 62
unfolding too_large
fits x e = ltb-false (2 ^ 62) x e

-- two numbers of which neither is too large
two_fit : (x y : ℕ) → (too_large x || too_large y) ≡ false → (x ≤ 2 ^ 62) × (y ≤ 2 ^ 62)
two_fit x y e = (fits x (or_left (too_large x) (too_large y) e), fits y (or_right (too_large x) (too_large y) e))

-- an expression that the rule does not refuse: its own d and m
own_size : (a : Expression) (D n : ℕ) → exceeds_in a D n ≡ false → large_size (size a D n) ≡ false
unfolding exceeds_in
own_size (probability p) D n e = or_right (exceeds_from p D n) (large_size (size (probability p) D n)) e
own_size (constant a b) D n e = e
own_size (sum a b) D n e = or_right (exceeds_in a D n || exceeds_in b D n) (large_size (size (sum a b) D n)) e
own_size (difference a b) D n e =
    or_right (exceeds_in a D n || exceeds_in b D n) (large_size (size (difference a b) D n)) e
own_size (product a b) D n e = or_right (exceeds_in a D n || exceeds_in b D n) (large_size (size (product a b) D n)) e

-- so d and m are at most 2^62
pub size_fits : (a : Expression) (D n : ℕ) → exceeds_in a D n ≡ false →
    ((size a D n).d ≤ 2 ^ 62) × ((size a D n).m ≤ 2 ^ 62)
unfolding large_size
size_fits a D n e = two_fit (size a D n).d (size a D n).m (own_size a D n e)

-- a comparison that the rule does not refuse: its m1 × d2 and m2 × d1
pub cross_fits : (r : Relation) (a b : Expression) (D n : ℕ) → exceeds (compare r a b) D n ≡ false →
    ((size a D n).m * (size b D n).d ≤ 2 ^ 62) × ((size b D n).m * (size a D n).d ≤ 2 ^ 62)
unfolding exceeds large_cross
cross_fits r a b D n e =
    two_fit ((size a D n).m * (size b D n).d) ((size b D n).m * (size a D n).d)
    (or_right (exceeds_in a D n || exceeds_in b D n) (large_cross (size a D n) (size b D n)) e)

-- so the numerator of an expression that the rule does not refuse is at most 2^62 in size
pub top_fits : (a : Expression) (c : Chain) → Sound c → (n : ℕ) → exceeds_in a c.D n ≡ false →
    {s : Tuple} → Inside c.N n s → nat_abs (value a c n s).top ≤ 2 ^ 62
top_fits a c sound n e i = le_trans (value_within a c sound n i).top (size_fits a c.D n e).1

-- so a comparison that the rule does not refuse is decided by cross products of at most 2^62 in size
pub cross_products_fit : (r : Relation) (a b : Expression) (c : Chain) → Sound c → (n : ℕ) →
    exceeds (compare r a b) c.D n ≡ false → {s : Tuple} → Inside c.N n s →
    (nat_abs ((value a c n s).top *ℤ pos (value b c n s).bottom) ≤ 2 ^ 62) ×
    (nat_abs ((value b c n s).top *ℤ pos (value a c n s).bottom) ≤ 2 ^ 62)
cross_products_fit r a b c sound n e i =
    let p = value_within a c sound n i in
    let q = value_within b c sound n i in
    let f = cross_fits r a b c.D n e in
    (le_trans (cross_within p q) f.0, le_trans (cross_within q p) f.1)
