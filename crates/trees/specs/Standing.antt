-- Working: what the functions of this crate promise one another. Nothing here has to be believed.
-- A tree stands in the places of a sentence's record: from place p on its nodes, in written order, up to place q. This is
-- what the functions that walk the places say to one another; `Listed` says the same of whole lists.
use Rattle.std.specs.Prelude.{ℕ, ◌+◌, ◌<◌, List, ◌≡◌, get_or}
use Rattle.sentence.specs.declared.Kind.{Kind}
use Rattle.sentence.specs.declared.Kind.TheVariants.{State, Expression as ExpressionKind, Path as PathKind}
use Rattle.sentence.specs.declared.Node.{Node}
use Rattle.sentence.specs.declared.Node.TheVariants.{True, Label, Not, And, Compare, Probability, Constant, Sum, Difference, Product, Next}
use Rattle.sentence.specs.declared.Node.TheVariants.{Until}
use Rattle.meaning.specs.Tree.{Relation, Formula, always, labelled, negation, both, compare, PathFormula, next, until}
use Rattle.meaning.specs.Tree.{Expression, probability, constant, sum, difference, product}
use Rattle.trees.specs.Listed.{relation_spelled}

-- the trees of a kind
abbrev pub Tree : Kind → Type 0
Tree State = Formula
Tree ExpressionKind = Expression
Tree PathKind = PathFormula

-- the node at a place of the record
abbrev pub node_at : List Node → ℕ → Node
node_at nodes p = get_or nodes p True

-- one case for each node; all places are below 64
mutual
  -- the state formula stands from place p on, up to place q
  pub data FormulaAt (nodes : List Node) : ℕ → Formula → ℕ → Type 0 where
    always_at : {p : ℕ} → p < 64 → node_at nodes p ≡ True → FormulaAt nodes p always (p + 1)
    labelled_at : {p l i : ℕ} → p < 64 → node_at nodes p ≡ Label l i → FormulaAt nodes p (labelled l i) (p + 1)
    negation_at : {p q : ℕ} {f : Formula} → p < 64 → node_at nodes p ≡ Not → FormulaAt nodes (p + 1) f q → FormulaAt nodes p (negation f) q
    conjunction_at : {p q r : ℕ} {f g : Formula} → p < 64 → node_at nodes p ≡ And → FormulaAt nodes (p + 1) f q → FormulaAt nodes q g r →
        FormulaAt nodes p (both f g) r
    compare_at : {p q r : ℕ} {e : Relation} {a b : Expression} → p < 64 → node_at nodes p ≡ Compare (relation_spelled e) →
        ExpressionAt nodes (p + 1) a q → ExpressionAt nodes q b r → FormulaAt nodes p (compare e a b) r

  -- so does the expression
  pub data ExpressionAt (nodes : List Node) : ℕ → Expression → ℕ → Type 0 where
    probability_at : {p q : ℕ} {w : PathFormula} → p < 64 → node_at nodes p ≡ Probability → PathAt nodes (p + 1) w q →
        ExpressionAt nodes p (probability w) q
    constant_at : {p a b : ℕ} → p < 64 → node_at nodes p ≡ Constant a b → ExpressionAt nodes p (constant a b) (p + 1)
    sum_at : {p q r : ℕ} {a b : Expression} → p < 64 → node_at nodes p ≡ Sum → ExpressionAt nodes (p + 1) a q →
        ExpressionAt nodes q b r → ExpressionAt nodes p (sum a b) r
    difference_at : {p q r : ℕ} {a b : Expression} → p < 64 → node_at nodes p ≡ Difference → ExpressionAt nodes (p + 1) a q →
        ExpressionAt nodes q b r → ExpressionAt nodes p (difference a b) r
    product_at : {p q r : ℕ} {a b : Expression} → p < 64 → node_at nodes p ≡ Product → ExpressionAt nodes (p + 1) a q →
        ExpressionAt nodes q b r → ExpressionAt nodes p (product a b) r

  -- so does the path
  pub data PathAt (nodes : List Node) : ℕ → PathFormula → ℕ → Type 0 where
    next_at : {p q : ℕ} {f : Formula} → p < 64 → node_at nodes p ≡ Next → FormulaAt nodes (p + 1) f q → PathAt nodes p (next f) q
    until_at : {p q r k1 k2 : ℕ} {f g : Formula} → p < 64 → node_at nodes p ≡ Until k1 k2 → FormulaAt nodes (p + 1) f q →
        FormulaAt nodes q g r → PathAt nodes p (until k1 k2 f g) r
