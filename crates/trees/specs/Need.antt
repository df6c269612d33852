-- Working: what the functions of this crate promise one another. Nothing here has to be believed.
-- How many layers of numbers the evaluation of a tree needs at once, where of two operands the one that needs more is
-- evaluated first, and an until computes in a third layer beside those of its two formulas.
use Rattle.std.specs.Prelude.{ℕ, suc, max, cond, eqb}
use Rattle.meaning.specs.Tree.{Formula, always, labelled, negation, both, compare, PathFormula, next, until}
use Rattle.meaning.specs.Tree.{Expression, probability, constant, sum, difference, product}

-- two operands: the larger need, or one more where they are equal
abbrev pub paired : ℕ → ℕ → ℕ
paired a b = cond (eqb a b) (suc a) (max a b)

-- one layer where there is no operand
unfoldable mutual
  -- how many layers a state formula needs
  pub need : Formula → ℕ
  need always = 1
  need (labelled l i) = 1
  need (negation f) = need f
  need (both f g) = paired (need f) (need g)
  need (compare r a b) = paired (need_in a) (need_in b)

  -- an expression
  pub need_in : Expression → ℕ
  need_in (probability p) = need_from p
  need_in (constant a b) = 1
  need_in (sum a b) = paired (need_in a) (need_in b)
  need_in (difference a b) = paired (need_in a) (need_in b)
  need_in (product a b) = paired (need_in a) (need_in b)

  -- a path
  pub need_from : PathFormula → ℕ
  need_from (next f) = need f
  need_from (until k1 k2 f g) = max 3 (paired (need f) (need g))
