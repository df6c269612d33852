-- The size rule: document 01, 'Meaning', last paragraph, by the denominators of T-02. It speaks of n, D and the tree alone.
use Rattle.std.specs.Prelude.{ℕ, ◌+◌, ◌*◌, ◌^◌, Bool, false, ◌||◌, ltb}
use Rattle.meaning.specs.Tree.{Formula, always, labelled, negation, both, compare}
use Rattle.meaning.specs.Tree.{Expression, probability, constant, sum, difference, product}
use Rattle.meaning.specs.Tree.{PathFormula, next, until}
use Rattle.meaning.specs.Meaning.{denominator}

-- an expression's denominator d and bound m
pub record Size : Type 0 where
  pub d : ℕ
  pub m : ℕ

-- sum and difference: d = d1 × d2, m = m1 × d2 + m2 × d1
unfoldable pub add_s : Size → Size → Size
add_s x y = record { d = x.d * y.d; m = x.m * y.d + y.m * x.d }

-- product: d = d1 × d2, m = m1 × m2
unfoldable pub mul_s : Size → Size → Size
mul_s x y = record { d = x.d * y.d; m = x.m * y.m }

-- each expression's d and m. P: d = m = its denominator; constant a/b: d = b, m = a
unfoldable pub size : Expression → (D n : ℕ) → Size
size (probability p) D n = record { d = denominator p D n; m = denominator p D n }
size (constant a b) D n = record { d = b; m = a }
size (sum a b) D n = add_s (size a D n) (size b D n)
size (difference a b) D n = add_s (size a D n) (size b D n)
size (product a b) D n = mul_s (size a D n) (size b D n)

-- the largest number that the rule lets through
abbrev pub size_limit : ℕ
size_limit = 2 ^ 62

-- the number is above 2^62
unfoldable pub too_large : ℕ → Bool
too_large x = ltb size_limit x

-- an expression's d or m is above 2^62
unfoldable pub large_size : Size → Bool
large_size x = too_large x.d || too_large x.m

-- a comparison's m1 × d2 or m2 × d1 is above 2^62
unfoldable pub large_cross : Size → Size → Bool
large_cross x y = too_large (x.m * y.d) || too_large (y.m * x.d)

-- some d, some m, or some comparison's m1 × d2 or m2 × d1 is above 2^62
unfoldable mutual
  -- in a state formula; refusal 10 is given exactly if it is so in the body
  pub exceeds : Formula → (D n : ℕ) → Bool
  exceeds always D n = false
  exceeds (labelled l i) D n = false
  exceeds (negation f) D n = exceeds f D n
  exceeds (both f g) D n = exceeds f D n || exceeds g D n
  exceeds (compare r a b) D n = exceeds_in a D n || exceeds_in b D n || large_cross (size a D n) (size b D n)

  -- in an expression, itself among them
  pub exceeds_in : Expression → (D n : ℕ) → Bool
  exceeds_in (probability p) D n = exceeds_from p D n || large_size (size (probability p) D n)
  exceeds_in (constant a b) D n = large_size (size (constant a b) D n)
  exceeds_in (sum a b) D n = exceeds_in a D n || exceeds_in b D n || large_size (size (sum a b) D n)
  exceeds_in (difference a b) D n = exceeds_in a D n || exceeds_in b D n || large_size (size (difference a b) D n)
  exceeds_in (product a b) D n = exceeds_in a D n || exceeds_in b D n || large_size (size (product a b) D n)

  -- in the formulas of a path
  pub exceeds_from : PathFormula → (D n : ℕ) → Bool
  exceeds_from (next f) D n = exceeds f D n
  exceeds_from (until k1 k2 f g) D n = exceeds f D n || exceeds g D n
