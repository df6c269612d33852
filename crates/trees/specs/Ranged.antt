-- Working: what the functions of this crate promise one another. Nothing here has to be believed.
-- The numbers of a tree are in their ranges, in a sentence of n letters: what refusals 6 and 7 leave.
use Rattle.std.specs.Prelude.{ℕ, ◌≤◌, ◌<◌}
use Rattle.meaning.specs.Tree.{Formula, always, labelled, negation, both, compare, PathFormula, next, until}
use Rattle.meaning.specs.Tree.{Expression, probability, constant, sum, difference, product}

-- a label letter `a`..`p` with a variable 1..n; a top up to 65,535 and a bottom 1..65,535; k1 ≤ k2 ≤ 60
abbrev mutual
  -- in a state formula
  pub Ranged : ℕ → Formula → Type 0
  Ranged n always = Unit
  Ranged n (labelled l i) = (l < 16) × (1 ≤ i) × (i ≤ n)
  Ranged n (negation f) = Ranged n f
  Ranged n (both f g) = Ranged n f × Ranged n g
  Ranged n (compare r a b) = RangedIn n a × RangedIn n b

  -- in an expression
  pub RangedIn : ℕ → Expression → Type 0
  RangedIn n (probability p) = RangedFrom n p
  RangedIn n (constant a b) = (a ≤ 65535) × (1 ≤ b) × (b ≤ 65535)
  RangedIn n (sum a b) = RangedIn n a × RangedIn n b
  RangedIn n (difference a b) = RangedIn n a × RangedIn n b
  RangedIn n (product a b) = RangedIn n a × RangedIn n b

  -- in a path
  pub RangedFrom : ℕ → PathFormula → Type 0
  RangedFrom n (next f) = Ranged n f
  RangedFrom n (until k1 k2 f g) = (k1 ≤ k2) × (k2 ≤ 60) × (Ranged n f × Ranged n g)
