-- A list of nodes that nests is the list of a tree: one thing after another, a node and what it wants. Assumes nothing.
use mathlib.Core.List.{List, [], ◌∷◌, ◌++◌, append_assoc, append-nil}
use mathlib.Core.Path.{◌≡◌, refl, ap, subst, ◌∙◌}
use Rattle.sentence.specs.Grammar.{kind_of, wants, Nests}
use Rattle.sentence.specs.Grammar.Nests.{end, node}
use Rattle.sentence.specs.declared.Kind.{Kind}
use Rattle.sentence.specs.declared.Kind.TheVariants.{State, Expression as ExpressionKind, Path as PathKind}
use Rattle.sentence.specs.declared.Relation.TheVariants.{Less, AtMost, Equal, AtLeast, Greater}
use Rattle.sentence.specs.declared.Relation as Spelled
use Rattle.sentence.specs.declared.Node.{Node}
use Rattle.sentence.specs.declared.Node.TheVariants.{True, Label, Not, And, Compare, Probability, Constant, Sum, Difference, Product, Next}
use Rattle.sentence.specs.declared.Node.TheVariants.{Until}
use Rattle.meaning.specs.Tree.{Relation, less, at_most, equal, at_least, greater, Formula, always, labelled, negation, both, compare}
use Rattle.meaning.specs.Tree.{Expression, probability, constant, sum, difference, product, next, until}
use Rattle.trees.specs.Listed.{relation_spelled, formula_nodes, expression_nodes, path_nodes}
use Rattle.trees.specs.Standing.{Tree}

-- the nodes of a tree of a kind
abbrev pub tree_nodes : (k : Kind) → Tree k → List Node
tree_nodes State f = formula_nodes f
tree_nodes ExpressionKind a = expression_nodes a
tree_nodes PathKind w = path_nodes w

-- trees of the kinds ks, one after another, and what follows each nests
pub data Trees : List Kind → List Node → Type 0 where
  none : Trees [] []
  tree : {ks : List Kind} (k : Kind) (t : Tree k) (r : List Node) → Nests ks r → Trees ks r → Trees (k ∷ ks) (tree_nodes k t ++ r)

-- a node and the trees that it wants make one tree
one : (n : Node) (j k : Kind) (ks : List Kind) {r : List Node} → Trees (k ∷ ks) r → (make : Tree k → Tree j) →
    ((t : Tree k) → tree_nodes j (make t) ≡ n ∷ tree_nodes k t) → Trees (j ∷ ks) (n ∷ r)
one n j k ks (tree _ t r h p) make e = subst (Trees (j ∷ ks)) (ap (λ (l : List Node). l ++ r) (e t)) (tree j (make t) r h p)

two : (n : Node) (j k : Kind) (ks : List Kind) {r : List Node} → Trees (k ∷ k ∷ ks) r → (make : Tree k → Tree k → Tree j) →
    ((t u : Tree k) → tree_nodes j (make t u) ≡ n ∷ (tree_nodes k t ++ tree_nodes k u)) → Trees (j ∷ ks) (n ∷ r)
two n j k ks (tree _ t _ _ (tree _ u r h p)) make e =
    subst (Trees (j ∷ ks))
    (ap (λ (l : List Node). l ++ r) (e t u) ∙ ap (λ (l : List Node). n ∷ l) (append_assoc (tree_nodes k t) (tree_nodes k u) r))
    (tree j (make t u) r h p)

-- every relation of a node is one of a comparison
pub relation_of : (r : Spelled.Relation) → (e : Relation) × (relation_spelled e ≡ r)
relation_of Less = (less, refl)
relation_of AtMost = (at_most, refl)
relation_of Equal = (equal, refl)
relation_of AtLeast = (at_least, refl)
relation_of Greater = (greater, refl)

grown : (n : Node) (ks : List Kind) {r : List Node} → Nests (wants n ++ ks) r → Trees (wants n ++ ks) r → Trees (kind_of n ∷ ks) (n ∷ r)
unfolding formula_nodes expression_nodes path_nodes
grown True ks {r} h p = tree State always r h p
grown (Label l i) ks {r} h p = tree State (labelled l i) r h p
grown Not ks h p = one Not State State ks p negation (λ t. refl)
grown And ks h p = two And State State ks p both (λ t u. refl)
grown (Compare c) ks h p =
    two (Compare c) State ExpressionKind ks p (compare (relation_of c).0)
    (λ (t u : Expression). ap (λ (x : Spelled.Relation). Compare x ∷ (expression_nodes t ++ expression_nodes u)) (relation_of c).1)
grown Probability ks h p = one Probability ExpressionKind PathKind ks p probability (λ t. refl)
grown (Constant a b) ks {r} h p = tree ExpressionKind (constant a b) r h p
grown Sum ks h p = two Sum ExpressionKind ExpressionKind ks p sum (λ t u. refl)
grown Difference ks h p = two Difference ExpressionKind ExpressionKind ks p difference (λ t u. refl)
grown Product ks h p = two Product ExpressionKind ExpressionKind ks p product (λ t u. refl)
grown Next ks h p = one Next PathKind State ks p next (λ t. refl)
grown (Until k1 k2) ks h p = two (Until k1 k2) PathKind State ks p (until k1 k2) (λ t u. refl)

-- a list that nests is the nodes of trees of those kinds
pub nests_trees : {ks : List Kind} {ns : List Node} → Nests ks ns → Trees ks ns
nests_trees end = none
nests_trees (node {n = n} {ks = ks} {ns = ns} w e rest) =
    subst (λ (k : Kind). Trees (k ∷ ks) (n ∷ ns)) e (grown n ks rest (nests_trees rest))

-- a list that nests begins with a tree of the first kind, and what follows nests
pub first_tree : {k : Kind} {ks : List Kind} {ns : List Node} → Nests (k ∷ ks) ns
    → (t : Tree k) × (r : List Node) × (ns ≡ tree_nodes k t ++ r) × Nests ks r
first_tree n = by (nests_trees n)
  where
    by : {k : Kind} {ks : List Kind} {ns : List Node} → Trees (k ∷ ks) ns
        → (t : Tree k) × (r : List Node) × (ns ≡ tree_nodes k t ++ r) × Nests ks r
    by (tree k t r h p) = (t, r, refl, h)

-- a list that nests as nothing is empty
nothing : {ns : List Node} → Nests [] ns → ns ≡ []
nothing end = refl

-- where nothing follows the first tree, the list is that of the tree
pub whole : {k : Kind} {ns : List Node} → Nests (k ∷ []) ns → (t : Tree k) × (ns ≡ tree_nodes k t)
whole {k} {ns} n =
    let s = first_tree n in
    (s.0, s.2 ∙ ap (λ (r : List Node). tree_nodes k s.0 ++ r) (nothing s.3) ∙ append-nil (tree_nodes k s.0))

-- a list that nests as one state formula is the list of a formula
pub formula_of : {ns : List Node} → Nests (State ∷ []) ns → (f : Formula) × (ns ≡ formula_nodes f)
formula_of n = whole n
