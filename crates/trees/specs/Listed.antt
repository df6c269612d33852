-- The nodes of a tree in written order: operators first, as document 01 writes them.
use Rattle.std.specs.Prelude.{ℕ, ◌+◌, Bool, true, false, cond, List, [], ◌∷◌, ◌++◌}
use Rattle.sentence.specs.declared.Kind.{Kind}
use Rattle.sentence.specs.declared.Kind.TheVariants.{State, Expression as ExpressionKind, Path as PathKind}
use Rattle.sentence.specs.declared.Relation.TheVariants.{Less, AtMost, Equal, AtLeast, Greater}
use Rattle.sentence.specs.declared.Relation as Spelled
use Rattle.sentence.specs.declared.Node.{Node}
use Rattle.sentence.specs.declared.Node.TheVariants.{True, Label, Not, And, Compare, Probability, Constant, Sum, Difference, Product, Next}
use Rattle.sentence.specs.declared.Node.TheVariants.{Until}
use Rattle.sentence.specs.Grammar.{kind_of}
use Rattle.meaning.specs.Tree.{Relation, less, at_most, equal, at_least, greater, Formula, always, labelled, negation, both, compare}
use Rattle.meaning.specs.Tree.{Expression, probability, constant, sum, difference, product, PathFormula, next, until}

-- a tree's relation as a node has it
abbrev pub relation_spelled : Relation → Spelled.Relation
relation_spelled less = Less
relation_spelled at_most = AtMost
relation_spelled equal = Equal
relation_spelled at_least = AtLeast
relation_spelled greater = Greater

-- a node's relation as a tree has it
abbrev pub relation_read : Spelled.Relation → Relation
relation_read Less = less
relation_read AtMost = at_most
relation_read Equal = equal
relation_read AtLeast = at_least
relation_read Greater = greater

-- one node for each state formula, expression and path, the node of the whole before those of its parts
unfoldable mutual
  -- the nodes of a state formula
  pub formula_nodes : Formula → List Node
  formula_nodes always = True ∷ []
  formula_nodes (labelled l i) = Label l i ∷ []
  formula_nodes (negation f) = Not ∷ formula_nodes f
  formula_nodes (both f g) = And ∷ (formula_nodes f ++ formula_nodes g)
  formula_nodes (compare r a b) = Compare (relation_spelled r) ∷ (expression_nodes a ++ expression_nodes b)

  -- those of an expression
  pub expression_nodes : Expression → List Node
  expression_nodes (probability p) = Probability ∷ path_nodes p
  expression_nodes (constant a b) = Constant a b ∷ []
  expression_nodes (sum a b) = Sum ∷ (expression_nodes a ++ expression_nodes b)
  expression_nodes (difference a b) = Difference ∷ (expression_nodes a ++ expression_nodes b)
  expression_nodes (product a b) = Product ∷ (expression_nodes a ++ expression_nodes b)

  -- those of a path
  pub path_nodes : PathFormula → List Node
  path_nodes (next f) = Next ∷ formula_nodes f
  path_nodes (until k1 k2 f g) = Until k1 k2 ∷ (formula_nodes f ++ formula_nodes g)

-- the kind is that of paths
abbrev pub is_path : Kind → Bool
is_path State = false
is_path ExpressionKind = false
is_path PathKind = true

-- the node starts a path: it is a next or an until
abbrev pub starts_path : Node → Bool
starts_path n = is_path (kind_of n)

-- how many of the nodes start a path
unfoldable pub path_count : List Node → ℕ
path_count [] = 0
path_count (n ∷ ns) = cond (starts_path n) 1 0 + path_count ns
