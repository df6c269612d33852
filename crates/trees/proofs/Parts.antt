-- The parts of a tree that stands at a place: its node, and where its operands stand.
use Prim.Native.Nat.{ℕ, ◌+◌, ◌≤◌, ◌<◌}
use mathlib.Core.List.{List}
use mathlib.Core.Path.{◌≡◌, refl}
use native.Mathlib.Omega.{arith}
use Rattle.sentence.specs.declared.Node.{Node}
use Rattle.sentence.specs.declared.Node.TheVariants.{True, Label, Not, And, Compare, Probability, Constant, Sum, Difference, Product, Next}
use Rattle.sentence.specs.declared.Node.TheVariants.{Until}
use Rattle.meaning.specs.Tree.{Formula, always, labelled, negation, both, compare, PathFormula, next, until}
use Rattle.meaning.specs.Tree.{Expression, probability, constant, sum, difference, product}
use Rattle.trees.specs.Listed.{relation_spelled}
use Rattle.trees.specs.Standing.{node_at, FormulaAt, always_at, labelled_at, negation_at, conjunction_at, compare_at}
use Rattle.trees.specs.Standing.{ExpressionAt, probability_at, constant_at, sum_at, difference_at, product_at, PathAt, next_at}
use Rattle.trees.specs.Standing.{until_at}
use Rattle.trees.proofs.Cases.{formula_place, expression_place}

module _ (nodes : List Node) (p : ℕ) where
  -- two state formulas, or two expressions, one after another behind the node
  abbrev pub FormulasBehind : Formula → Formula → ℕ → Type 0
  FormulasBehind f g q = (m : ℕ) × FormulaAt nodes (p + 1) f m × FormulaAt nodes m g q

  abbrev pub ExpressionsBehind : Expression → Expression → ℕ → Type 0
  ExpressionsBehind a b q = (m : ℕ) × ExpressionAt nodes (p + 1) a m × ExpressionAt nodes m b q

  -- the parts of a state formula
  abbrev pub FormulaParts : Formula → ℕ → Type 0
  FormulaParts always q = (node_at nodes p ≡ True) × (p + 1 ≡ q)
  FormulaParts (labelled l i) q = (node_at nodes p ≡ Label l i) × (p + 1 ≡ q)
  FormulaParts (negation f) q = (node_at nodes p ≡ Not) × FormulaAt nodes (p + 1) f q
  FormulaParts (both f g) q = (node_at nodes p ≡ And) × FormulasBehind f g q
  FormulaParts (compare r a b) q = (node_at nodes p ≡ Compare (relation_spelled r)) × ExpressionsBehind a b q

  -- of an expression
  abbrev pub ExpressionParts : Expression → ℕ → Type 0
  ExpressionParts (probability w) q = (node_at nodes p ≡ Probability) × PathAt nodes (p + 1) w q
  ExpressionParts (constant a b) q = (node_at nodes p ≡ Constant a b) × (p + 1 ≡ q)
  ExpressionParts (sum a b) q = (node_at nodes p ≡ Sum) × ExpressionsBehind a b q
  ExpressionParts (difference a b) q = (node_at nodes p ≡ Difference) × ExpressionsBehind a b q
  ExpressionParts (product a b) q = (node_at nodes p ≡ Product) × ExpressionsBehind a b q

  -- of a path
  abbrev pub PathParts : PathFormula → ℕ → Type 0
  PathParts (next f) q = (node_at nodes p ≡ Next) × FormulaAt nodes (p + 1) f q
  PathParts (until k1 k2 f g) q = (node_at nodes p ≡ Until k1 k2) × FormulasBehind f g q

  pub formula_parts : {f : Formula} {q : ℕ} → FormulaAt nodes p f q → FormulaParts f q
  formula_parts (always_at h e) = (e, refl)
  formula_parts (labelled_at h e) = (e, refl)
  formula_parts (negation_at h e w) = (e, w)
  formula_parts (conjunction_at {q = m} h e v w) = (e, (m, v, w))
  formula_parts (compare_at {q = m} h e v w) = (e, (m, v, w))

  pub expression_parts : {a : Expression} {q : ℕ} → ExpressionAt nodes p a q → ExpressionParts a q
  expression_parts (probability_at h e w) = (e, w)
  expression_parts (constant_at h e) = (e, refl)
  expression_parts (sum_at {q = m} h e v w) = (e, (m, v, w))
  expression_parts (difference_at {q = m} h e v w) = (e, (m, v, w))
  expression_parts (product_at {q = m} h e v w) = (e, (m, v, w))

  pub path_parts : {w : PathFormula} {q : ℕ} → PathAt nodes p w q → PathParts w q
  path_parts (next_at h e w) = (e, w)
  path_parts (until_at {q = m} h e v w) = (e, (m, v, w))

-- no tree goes past the last place
module _ (nodes : List Node) where
  leaf_ends : {p q : ℕ} → p < 64 → p + 1 ≡ q → q ≤ 64
  leaf_ends h e = omega arith

  mutual
    pub formula_ends : (f : Formula) (p q : ℕ) → FormulaAt nodes p f q → q ≤ 64
    formula_ends always p q h = leaf_ends (formula_place nodes p h) (formula_parts nodes p h).1
    formula_ends (labelled l i) p q h = leaf_ends (formula_place nodes p h) (formula_parts nodes p h).1
    formula_ends (negation f) p q h = formula_ends f (p + 1) q (formula_parts nodes p h).1
    formula_ends (both f g) p q h = let w = (formula_parts nodes p h).1 in formula_ends g w.0 q w.2
    formula_ends (compare r a b) p q h = let w = (formula_parts nodes p h).1 in expression_ends b w.0 q w.2

    pub expression_ends : (a : Expression) (p q : ℕ) → ExpressionAt nodes p a q → q ≤ 64
    expression_ends (probability w) p q h = path_ends w (p + 1) q (expression_parts nodes p h).1
    expression_ends (constant a b) p q h = leaf_ends (expression_place nodes p h) (expression_parts nodes p h).1
    expression_ends (sum a b) p q h = let w = (expression_parts nodes p h).1 in expression_ends b w.0 q w.2
    expression_ends (difference a b) p q h = let w = (expression_parts nodes p h).1 in expression_ends b w.0 q w.2
    expression_ends (product a b) p q h = let w = (expression_parts nodes p h).1 in expression_ends b w.0 q w.2

    pub path_ends : (w : PathFormula) (p q : ℕ) → PathAt nodes p w q → q ≤ 64
    path_ends (next f) p q h = formula_ends f (p + 1) q (path_parts nodes p h).1
    path_ends (until k1 k2 f g) p q h = let w = (path_parts nodes p h).1 in formula_ends g w.0 q w.2
