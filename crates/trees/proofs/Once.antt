-- A list of nodes begins with at most one tree. Assumes nothing.
use Prim.Native.Nat.{ℕ}
use mathlib.Core.Bool.{Bool}
use mathlib.Core.List.{List, [], ◌∷◌, ◌++◌, append_assoc}
use mathlib.Core.Path.{◌≡◌, refl, sym, ap, ap₂, subst, ◌∙◌}
use Rattle.sentence.specs.declared.Node.{Node}
use Rattle.sentence.specs.declared.Node.TheVariants.{True, Label, Not, And, Compare, Probability, Constant, Sum, Difference, Product, Next}
use Rattle.sentence.specs.declared.Node.TheVariants.{Until}
use Rattle.sentence.specs.Grammar.{Spells}
use Rattle.sentence.proofs.Once.{spelled_once}
use Rattle.meaning.specs.Tree.{Relation, less, at_most, equal, at_least, greater, Formula, always, labelled, negation, both, compare}
use Rattle.meaning.specs.Tree.{Expression, probability, constant, sum, difference, product, PathFormula, next, until}
use Rattle.trees.specs.Listed.{relation_spelled, relation_read, formula_nodes, expression_nodes, path_nodes}

-- the relation of a comparison's node is the comparison's
pub spelled_relation : (r : Relation) → relation_read (relation_spelled r) ≡ r
spelled_relation less = refl
spelled_relation at_most = refl
spelled_relation equal = refl
spelled_relation at_least = refl
spelled_relation greater = refl

-- what a tree is whose nodes, and the nodes s after them, are n and then l: by the node n
abbrev FormulaBegins : Node → List Node → Formula → List Node → Type 0
FormulaBegins True l f s = (f ≡ always) × (l ≡ s)
FormulaBegins (Label a i) l f s = (f ≡ labelled a i) × (l ≡ s)
FormulaBegins Not l f s = (g : Formula) × (f ≡ negation g) × (l ≡ formula_nodes g ++ s)
FormulaBegins And l f s = (g : Formula) × (h : Formula) × (f ≡ both g h) × (l ≡ formula_nodes g ++ (formula_nodes h ++ s))
FormulaBegins (Compare r) l f s =
    (a : Expression) × (b : Expression) × (f ≡ compare (relation_read r) a b) × (l ≡ expression_nodes a ++ (expression_nodes b ++ s))
FormulaBegins _ l f s = ⊥

abbrev ExpressionBegins : Node → List Node → Expression → List Node → Type 0
ExpressionBegins Probability l e s = (w : PathFormula) × (e ≡ probability w) × (l ≡ path_nodes w ++ s)
ExpressionBegins (Constant a b) l e s = (e ≡ constant a b) × (l ≡ s)
ExpressionBegins Sum l e s = (a : Expression) × (b : Expression) × (e ≡ sum a b) × (l ≡ expression_nodes a ++ (expression_nodes b ++ s))
ExpressionBegins Difference l e s =
    (a : Expression) × (b : Expression) × (e ≡ difference a b) × (l ≡ expression_nodes a ++ (expression_nodes b ++ s))
ExpressionBegins Product l e s =
    (a : Expression) × (b : Expression) × (e ≡ product a b) × (l ≡ expression_nodes a ++ (expression_nodes b ++ s))
ExpressionBegins _ l e s = ⊥

abbrev pub PathBegins : Node → List Node → PathFormula → List Node → Type 0
PathBegins Next l w s = (f : Formula) × (w ≡ next f) × (l ≡ formula_nodes f ++ s)
PathBegins (Until k1 k2) l w s = (f : Formula) × (g : Formula) × (w ≡ until k1 k2 f g) × (l ≡ formula_nodes f ++ (formula_nodes g ++ s))
PathBegins _ l w s = ⊥

-- a list of nodes, read as its first node and what follows
abbrev Begun : (Node → List Node → Type 0) → List Node → Type 0
Begun at [] = ⊥
Begun at (n ∷ l) = at n l

formula_begun : (f : Formula) (s : List Node) → Begun (λ n l. FormulaBegins n l f s) (formula_nodes f ++ s)
unfolding formula_nodes expression_nodes path_nodes
formula_begun always s = (refl, refl)
formula_begun (labelled l i) s = (refl, refl)
formula_begun (negation f) s = (f, refl, refl)
formula_begun (both f g) s = (f, g, refl, append_assoc (formula_nodes f) (formula_nodes g) s)
formula_begun (compare r a b) s =
    (a, b, ap (λ (x : Relation). compare x a b) (sym (spelled_relation r)), append_assoc (expression_nodes a) (expression_nodes b) s)

expression_begun : (e : Expression) (s : List Node) → Begun (λ n l. ExpressionBegins n l e s) (expression_nodes e ++ s)
unfolding formula_nodes expression_nodes path_nodes
expression_begun (probability w) s = (w, refl, refl)
expression_begun (constant a b) s = (refl, refl)
expression_begun (sum a b) s = (a, b, refl, append_assoc (expression_nodes a) (expression_nodes b) s)
expression_begun (difference a b) s = (a, b, refl, append_assoc (expression_nodes a) (expression_nodes b) s)
expression_begun (product a b) s = (a, b, refl, append_assoc (expression_nodes a) (expression_nodes b) s)

path_begun : (w : PathFormula) (s : List Node) → Begun (λ n l. PathBegins n l w s) (path_nodes w ++ s)
unfolding formula_nodes expression_nodes path_nodes
path_begun (next f) s = (f, refl, refl)
path_begun (until k1 k2 f g) s = (f, g, refl, append_assoc (formula_nodes f) (formula_nodes g) s)

formula_begins : (n : Node) (l : List Node) (f : Formula) (s : List Node) → n ∷ l ≡ formula_nodes f ++ s → FormulaBegins n l f s
formula_begins n l f s e = subst (Begun (λ n l. FormulaBegins n l f s)) (sym e) (formula_begun f s)

expression_begins : (n : Node) (l : List Node) (a : Expression) (s : List Node) → n ∷ l ≡ expression_nodes a ++ s → ExpressionBegins n l a s
expression_begins n l a s e = subst (Begun (λ n l. ExpressionBegins n l a s)) (sym e) (expression_begun a s)

pub path_begins : (n : Node) (l : List Node) (w : PathFormula) (s : List Node) → n ∷ l ≡ path_nodes w ++ s → PathBegins n l w s
path_begins n l w s e = subst (Begun (λ n l. PathBegins n l w s)) (sym e) (path_begun w s)

-- where trees of one kind are each told from others by their nodes, two of them, one after another, are too
two_once : {A : Type 0} (nodes : A → List Node) (t u : A) → ((x : A) (r s : List Node) → nodes t ++ r ≡ nodes x ++ s → (t ≡ x) × (r ≡ s)) →
    ((x : A) (r s : List Node) → nodes u ++ r ≡ nodes x ++ s → (u ≡ x) × (r ≡ s)) → (x y : A) (r s : List Node) →
    (nodes t ++ nodes u) ++ r ≡ nodes x ++ (nodes y ++ s) → (t ≡ x) × (u ≡ y) × (r ≡ s)
two_once nodes t u first second x y r s e =
    let i = first x (nodes u ++ r) (nodes y ++ s) (sym (append_assoc (nodes t) (nodes u) r) ∙ e) in
    let j = second y r s i.1 in
    (i.0, j.0, j.1)

mutual
  unfolding formula_nodes expression_nodes path_nodes

  -- equal lists begin with equal state formulas, and what follows is equal
  pub formula_once : (f g : Formula) (r s : List Node) → formula_nodes f ++ r ≡ formula_nodes g ++ s → (f ≡ g) × (r ≡ s)
  formula_once always g r s e = let b = formula_begins True r g s e in (sym b.0, b.1)
  formula_once (labelled l i) g r s e = let b = formula_begins (Label l i) r g s e in (sym b.0, b.1)
  formula_once (negation f) g r s e =
      let b = formula_begins Not (formula_nodes f ++ r) g s e in
      let i : (f ≡ b.0) × (r ≡ s) = formula_once f b.0 r s b.2 in
      (ap negation i.0 ∙ sym b.1, i.1)
  formula_once (both f h) g r s e =
      let b = formula_begins And ((formula_nodes f ++ formula_nodes h) ++ r) g s e in
      let i = two_once formula_nodes f h (λ x t u e. formula_once f x t u e) (λ x t u e. formula_once h x t u e) b.0 b.1 r s b.3 in
      (ap₂ both i.0 i.1 ∙ sym b.2, i.2)
  formula_once (compare c a d) g r s e =
      let b = formula_begins (Compare (relation_spelled c)) ((expression_nodes a ++ expression_nodes d) ++ r) g s e in
      let i = two_once expression_nodes a d
      (λ x t u e. expression_once a x t u e) (λ x t u e. expression_once d x t u e) b.0 b.1 r s b.3 in (
        ap (λ (x : Relation). compare x a d) (sym (spelled_relation c)) ∙ ap₂ (compare (relation_read (relation_spelled c))) i.0 i.1
            ∙ sym b.2,
        i.2,
      )

  -- with equal expressions
  pub expression_once : (a g : Expression) (r s : List Node) → expression_nodes a ++ r ≡ expression_nodes g ++ s → (a ≡ g) × (r ≡ s)
  expression_once (probability w) g r s e =
      let b = expression_begins Probability (path_nodes w ++ r) g s e in
      let i : (w ≡ b.0) × (r ≡ s) = path_once w b.0 r s b.2 in
      (ap probability i.0 ∙ sym b.1, i.1)
  expression_once (constant x y) g r s e = let b = expression_begins (Constant x y) r g s e in (sym b.0, b.1)
  expression_once (sum a d) g r s e =
      let b = expression_begins Sum ((expression_nodes a ++ expression_nodes d) ++ r) g s e in
      let i = two_once expression_nodes a d (λ x t u e. expression_once a x t u e) (λ x t u e. expression_once d x t u e) b.0 b.1 r s b.3 in
      (ap₂ sum i.0 i.1 ∙ sym b.2, i.2)
  expression_once (difference a d) g r s e =
      let b = expression_begins Difference ((expression_nodes a ++ expression_nodes d) ++ r) g s e in
      let i = two_once expression_nodes a d (λ x t u e. expression_once a x t u e) (λ x t u e. expression_once d x t u e) b.0 b.1 r s b.3 in
      (ap₂ difference i.0 i.1 ∙ sym b.2, i.2)
  expression_once (product a d) g r s e =
      let b = expression_begins Product ((expression_nodes a ++ expression_nodes d) ++ r) g s e in
      let i = two_once expression_nodes a d (λ x t u e. expression_once a x t u e) (λ x t u e. expression_once d x t u e) b.0 b.1 r s b.3 in
      (ap₂ product i.0 i.1 ∙ sym b.2, i.2)

  -- with equal paths
  pub path_once : (w g : PathFormula) (r s : List Node) → path_nodes w ++ r ≡ path_nodes g ++ s → (w ≡ g) × (r ≡ s)
  path_once (next f) g r s e =
      let b = path_begins Next (formula_nodes f ++ r) g s e in
      let i : (f ≡ b.0) × (r ≡ s) = formula_once f b.0 r s b.2 in
      (ap next i.0 ∙ sym b.1, i.1)
  path_once (until k1 k2 f h) g r s e =
      let b = path_begins (Until k1 k2) ((formula_nodes f ++ formula_nodes h) ++ r) g s e in
      let i = two_once formula_nodes f h (λ x t u e. formula_once f x t u e) (λ x t u e. formula_once h x t u e) b.0 b.1 r s b.3 in
      (ap₂ (until k1 k2) i.0 i.1 ∙ sym b.2, i.2)

-- a text is spelled by one prefix and one body
pub sentence_once : {text : List ℕ} {ps qs : List Bool} (f g : Formula) → Spells ps (formula_nodes f) text
    → Spells qs (formula_nodes g) text →
    (ps ≡ qs) × (f ≡ g)
sentence_once f g s t =
    let e = spelled_once s t in
    (e.0, (formula_once f g [] [] (ap (λ (l : List Node). l ++ []) e.1)).0)
