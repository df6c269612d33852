-- The tree that stands at a place, by the node at that place.
use Prim.Native.Nat.{ℕ, ◌+◌, ◌<◌}
use mathlib.Core.List.{List}
use mathlib.Core.Path.{◌≡◌, refl, sym, subst}
use Rattle.sentence.specs.declared.Node.{Node}
use Rattle.sentence.specs.declared.Node.TheVariants.{True, Label, Not, And, Compare, Probability, Constant, Sum, Difference, Product, Next}
use Rattle.sentence.specs.declared.Node.TheVariants.{Until}
use Rattle.meaning.specs.Tree.{Relation, Formula, always, labelled, negation, both, compare, PathFormula, next, until}
use Rattle.meaning.specs.Tree.{Expression, probability, constant, sum, difference, product}
use Rattle.trees.specs.Listed.{relation_spelled}
use Rattle.trees.specs.Standing.{node_at, FormulaAt, always_at, labelled_at, negation_at, conjunction_at, compare_at}
use Rattle.trees.specs.Standing.{ExpressionAt, probability_at, constant_at, sum_at, difference_at, product_at, PathAt, next_at}
use Rattle.trees.specs.Standing.{until_at}

module _ (nodes : List Node) (p : ℕ) where
  -- a state formula
  abbrev pub FormulaCase : Node → Formula → ℕ → Type 0
  FormulaCase True f q = (f ≡ always) × (q ≡ p + 1)
  FormulaCase (Label l i) f q = (f ≡ labelled l i) × (q ≡ p + 1)
  FormulaCase Not f q = (g : Formula) × (f ≡ negation g) × FormulaAt nodes (p + 1) g q
  FormulaCase And f q = (g : Formula) × (h : Formula) × (m : ℕ) × (f ≡ both g h) × FormulaAt nodes (p + 1) g m × FormulaAt nodes m h q
  FormulaCase (Compare r) f q =
      (e : Relation) × (a : Expression) × (b : Expression) × (m : ℕ) × (f ≡ compare e a b) × (r ≡ relation_spelled e)
      × ExpressionAt nodes (p + 1) a m × ExpressionAt nodes m b q
  FormulaCase _ f q = ⊥

  -- an expression
  abbrev pub ExpressionCase : Node → Expression → ℕ → Type 0
  ExpressionCase Probability f q = (w : PathFormula) × (f ≡ probability w) × PathAt nodes (p + 1) w q
  ExpressionCase (Constant a b) f q = (f ≡ constant a b) × (q ≡ p + 1)
  ExpressionCase Sum f q =
      (a : Expression) × (b : Expression) × (m : ℕ) × (f ≡ sum a b) × ExpressionAt nodes (p + 1) a m × ExpressionAt nodes m b q
  ExpressionCase Difference f q =
      (a : Expression) × (b : Expression) × (m : ℕ) × (f ≡ difference a b) × ExpressionAt nodes (p + 1) a m × ExpressionAt nodes m b q
  ExpressionCase Product f q =
      (a : Expression) × (b : Expression) × (m : ℕ) × (f ≡ product a b) × ExpressionAt nodes (p + 1) a m × ExpressionAt nodes m b q
  ExpressionCase _ f q = ⊥

  -- a path
  abbrev pub PathCase : Node → PathFormula → ℕ → Type 0
  PathCase Next f q = (g : Formula) × (f ≡ next g) × FormulaAt nodes (p + 1) g q
  PathCase (Until k1 k2) f q =
      (g : Formula) × (h : Formula) × (m : ℕ) × (f ≡ until k1 k2 g h) × FormulaAt nodes (p + 1) g m × FormulaAt nodes m h q
  PathCase _ f q = ⊥

  own_formula : {f : Formula} {q : ℕ} → FormulaAt nodes p f q → FormulaCase (node_at nodes p) f q
  own_formula (always_at h e) = subst (λ (n : Node). FormulaCase n always (p + 1)) (sym e) (refl, refl)
  own_formula (labelled_at {l = l} {i = i} h e) = subst (λ (n : Node). FormulaCase n (labelled l i) (p + 1)) (sym e) (refl, refl)
  own_formula (negation_at {q = q} {f = f} h e w) = subst (λ (n : Node). FormulaCase n (negation f) q) (sym e) (f, refl, w)
  own_formula (conjunction_at {q = q} {r = r} {f = f} {g = g} h e v w) =
      subst (λ (n : Node). FormulaCase n (both f g) r) (sym e) (f, g, q, refl, v, w)
  own_formula (compare_at {q = q} {r = r} {e = rel} {a = a} {b = b} h e v w) =
      subst (λ (n : Node). FormulaCase n (compare rel a b) r) (sym e) (rel, a, b, q, refl, refl, v, w)

  own_expression : {f : Expression} {q : ℕ} → ExpressionAt nodes p f q → ExpressionCase (node_at nodes p) f q
  own_expression (probability_at {q = q} {w = w} h e v) = subst (λ (n : Node). ExpressionCase n (probability w) q) (sym e) (w, refl, v)
  own_expression (constant_at {a = a} {b = b} h e) = subst (λ (n : Node). ExpressionCase n (constant a b) (p + 1)) (sym e) (refl, refl)
  own_expression (sum_at {q = q} {r = r} {a = a} {b = b} h e v w) =
      subst (λ (n : Node). ExpressionCase n (sum a b) r) (sym e) (a, b, q, refl, v, w)
  own_expression (difference_at {q = q} {r = r} {a = a} {b = b} h e v w) =
      subst (λ (n : Node). ExpressionCase n (difference a b) r) (sym e) (a, b, q, refl, v, w)
  own_expression (product_at {q = q} {r = r} {a = a} {b = b} h e v w) =
      subst (λ (n : Node). ExpressionCase n (product a b) r) (sym e) (a, b, q, refl, v, w)

  own_path : {f : PathFormula} {q : ℕ} → PathAt nodes p f q → PathCase (node_at nodes p) f q
  own_path (next_at {q = q} {f = f} h e w) = subst (λ (n : Node). PathCase n (next f) q) (sym e) (f, refl, w)
  own_path (until_at {q = q} {r = r} {k1 = k1} {k2 = k2} {f = f} {g = g} h e v w) =
      subst (λ (n : Node). PathCase n (until k1 k2 f g) r) (sym e) (f, g, q, refl, v, w)

  -- a state formula, by the node that the code found there
  pub formula_case : {f : Formula} {q : ℕ} (n : Node) → node_at nodes p ≡ n → FormulaAt nodes p f q → FormulaCase n f q
  formula_case {f} {q} n e w = subst (λ (n : Node). FormulaCase n f q) e (own_formula w)

  -- an expression
  pub expression_case : {f : Expression} {q : ℕ} (n : Node) → node_at nodes p ≡ n → ExpressionAt nodes p f q → ExpressionCase n f q
  expression_case {f} {q} n e w = subst (λ (n : Node). ExpressionCase n f q) e (own_expression w)

  -- a path
  pub path_case : {f : PathFormula} {q : ℕ} (n : Node) → node_at nodes p ≡ n → PathAt nodes p f q → PathCase n f q
  path_case {f} {q} n e w = subst (λ (n : Node). PathCase n f q) e (own_path w)

  -- there is a place for the node of a state formula
  pub formula_place : {f : Formula} {q : ℕ} → FormulaAt nodes p f q → p < 64
  formula_place (always_at h e) = h
  formula_place (labelled_at h e) = h
  formula_place (negation_at h e w) = h
  formula_place (conjunction_at h e v w) = h
  formula_place (compare_at h e v w) = h

  -- of an expression
  pub expression_place : {f : Expression} {q : ℕ} → ExpressionAt nodes p f q → p < 64
  expression_place (probability_at h e v) = h
  expression_place (constant_at h e) = h
  expression_place (sum_at h e v w) = h
  expression_place (difference_at h e v w) = h
  expression_place (product_at h e v w) = h

  -- of a path
  pub path_place : {f : PathFormula} {q : ℕ} → PathAt nodes p f q → p < 64
  path_place (next_at h e w) = h
  path_place (until_at h e v w) = h
