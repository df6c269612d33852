-- The path formulas of a body: there are as many as the body has probabilities (`paths_count`), and where row 10 does not apply to it,
-- each has a denominator of at most 2^62 (`paths_fit`).
use Prim.Native.Nat.{ℕ, suc, ◌+◌}
use mathlib.Core.Bool.{Bool, true, false, not, ◌||◌}
use mathlib.Core.List.{List, [], ◌∷◌, ◌++◌}
use mathlib.Core.Path.{◌≡◌, refl, ap, ap₂, ◌∙◌}
use lib.ListN.{length, length-append}
use Rattle.counting.proofs.Laws.{left_of, right_of, and_true}
use Rattle.meaning.specs.Lists.{every}
use Rattle.meaning.specs.Tree.{Formula, always, labelled, negation, both, compare, paths_of}
use Rattle.meaning.specs.Tree.{Expression, probability, constant, sum, difference, product, paths_in}
use Rattle.meaning.specs.Tree.{PathFormula, next, until, paths_from}
use Rattle.meaning.specs.Meaning.{denominator}
use Rattle.meaning.specs.Size.{size, too_large, large_size, large_cross, exceeds, exceeds_in, exceeds_from}
use Rattle.meaning.proofs.Tests.{or_left, or_right}

-- ---- how many there are

-- the probabilities of a state formula, of an expression and of a path
mutual
  pub count_of : Formula → ℕ
  count_of always = 0
  count_of (labelled l i) = 0
  count_of (negation f) = count_of f
  count_of (both f g) = count_of f + count_of g
  count_of (compare r a b) = count_in a + count_in b

  pub count_in : Expression → ℕ
  count_in (probability p) = suc (count_from p)
  count_in (constant a b) = 0
  count_in (sum a b) = count_in a + count_in b
  count_in (difference a b) = count_in a + count_in b
  count_in (product a b) = count_in a + count_in b

  pub count_from : PathFormula → ℕ
  count_from (next f) = count_of f
  count_from (until k1 k2 f g) = count_of f + count_of g

-- the lengths of two lists, together
joined : (xs ys : List PathFormula) {m n : ℕ} → length xs ≡ m → length ys ≡ n → length (xs ++ ys) ≡ m + n
joined xs ys e f = length-append xs ys ∙ ap₂ ◌+◌ e f

mutual
  unfolding paths_of paths_in paths_from count_of count_in count_from

  pub paths_count : (f : Formula) → length (paths_of f) ≡ count_of f
  paths_count always = refl
  paths_count (labelled l i) = refl
  paths_count (negation f) = paths_count f
  paths_count (both f g) = joined (paths_of f) (paths_of g) (paths_count f) (paths_count g)
  paths_count (compare r a b) = joined (paths_in a) (paths_in b) (paths_count_in a) (paths_count_in b)

  paths_count_in : (a : Expression) → length (paths_in a) ≡ count_in a
  paths_count_in (probability p) = paths_count_from p
  paths_count_in (constant a b) = refl
  paths_count_in (sum a b) = joined (paths_in a) (paths_in b) (paths_count_in a) (paths_count_in b)
  paths_count_in (difference a b) = joined (paths_in a) (paths_in b) (paths_count_in a) (paths_count_in b)
  paths_count_in (product a b) = joined (paths_in a) (paths_in b) (paths_count_in a) (paths_count_in b)

  paths_count_from : (p : PathFormula) → length (paths_from p) ≡ suc (count_from p)
  paths_count_from (next f) = ap suc (paths_count f)
  paths_count_from (until k1 k2 f g) = ap suc (joined (paths_of f) (paths_of g) (paths_count f) (paths_count g))

-- ---- row 10 and their denominators

-- every member of two lists
every_joined : (test : PathFormula → Bool) (xs ys : List PathFormula) → every test xs ≡ true → every test ys ≡ true →
    every test (xs ++ ys) ≡ true
unfolding every
every_joined test [] ys e f = f
every_joined test (x ∷ xs) ys e f =
    and_true (left_of (test x) (every test xs) e) (every_joined test xs ys (right_of (test x) (every test xs) e) f)

module _ (D n : ℕ) where
  -- a path formula's denominator is at most 2^62
  abbrev pub small : PathFormula → Bool
  small p = not (too_large (denominator p D n))

  every_none : every small [] ≡ true
  unfolding every
  every_none = refl

  every_first : (p : PathFormula) (ps : List PathFormula) → small p ≡ true → every small ps ≡ true → every small (p ∷ ps) ≡ true
  unfolding every
  every_first p ps e f = and_true e f

  -- of a probability, d is the denominator
  own_small : (p : PathFormula) → large_size (size (probability p) D n) ≡ false → small p ≡ true
  unfolding large_size size
  own_small p e = ap not (or_left (too_large (denominator p D n)) (too_large (denominator p D n)) e)

  -- two operands of which each fits
  operands_fit : (a b : Expression) → (exceeds_in a D n ≡ false → every small (paths_in a) ≡ true) →
      (exceeds_in b D n ≡ false → every small (paths_in b) ≡ true) → (exceeds_in a D n || exceeds_in b D n) ≡ false →
      every small (paths_in a ++ paths_in b) ≡ true
  operands_fit a b first second e =
      every_joined small (paths_in a) (paths_in b) (first (or_left (exceeds_in a D n) (exceeds_in b D n) e))
      (second (or_right (exceeds_in a D n) (exceeds_in b D n) e))

  mutual
    unfolding paths_of paths_in paths_from exceeds exceeds_in exceeds_from

    pub paths_fit : (f : Formula) → exceeds f D n ≡ false → every small (paths_of f) ≡ true
    paths_fit always e = every_none
    paths_fit (labelled l i) e = every_none
    paths_fit (negation f) e = paths_fit f e
    paths_fit (both f g) e =
        every_joined small (paths_of f) (paths_of g) (paths_fit f (or_left (exceeds f D n) (exceeds g D n) e))
        (paths_fit g (or_right (exceeds f D n) (exceeds g D n) e))
    paths_fit (compare r a b) e =
        operands_fit a b (λ h. paths_fit_in a h) (λ h. paths_fit_in b h)
        (or_left (exceeds_in a D n || exceeds_in b D n) (large_cross (size a D n) (size b D n)) e)

    paths_fit_in : (a : Expression) → exceeds_in a D n ≡ false → every small (paths_in a) ≡ true
    paths_fit_in (probability p) e =
        paths_fit_from p (or_left (exceeds_from p D n) (large_size (size (probability p) D n)) e)
        (own_small p (or_right (exceeds_from p D n) (large_size (size (probability p) D n)) e))
    paths_fit_in (constant a b) e = every_none
    paths_fit_in (sum a b) e =
        operands_fit a b (λ h. paths_fit_in a h) (λ h. paths_fit_in b h)
        (or_left (exceeds_in a D n || exceeds_in b D n) (large_size (size (sum a b) D n)) e)
    paths_fit_in (difference a b) e =
        operands_fit a b (λ h. paths_fit_in a h) (λ h. paths_fit_in b h)
        (or_left (exceeds_in a D n || exceeds_in b D n) (large_size (size (difference a b) D n)) e)
    paths_fit_in (product a b) e =
        operands_fit a b (λ h. paths_fit_in a h) (λ h. paths_fit_in b h)
        (or_left (exceeds_in a D n || exceeds_in b D n) (large_size (size (product a b) D n)) e)

    paths_fit_from : (p : PathFormula) → exceeds_from p D n ≡ false → small p ≡ true → every small (paths_from p) ≡ true
    paths_fit_from (next f) e own = every_first (next f) (paths_of f) own (paths_fit f e)
    paths_fit_from (until k1 k2 f g) e own =
        every_first (until k1 k2 f g) (paths_of f ++ paths_of g) own
        (every_joined small (paths_of f) (paths_of g) (paths_fit f (or_left (exceeds f D n) (exceeds g D n) e))
        (paths_fit g (or_right (exceeds f D n) (exceeds g D n) e)))
