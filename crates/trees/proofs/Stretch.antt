-- Nodes stand at places of the record, one after another; then so does the tree that they list. Assumes nothing.
use Prim.Native.Nat.{ℕ, suc, ◌+◌, ◌-◌, ◌≤◌, ◌<◌}
use mathlib.Core.Bool.{Bool}
use mathlib.Core.List.{List, [], ◌∷◌, ◌++◌, append_assoc}
use mathlib.Core.Path.{◌≡◌, refl, subst}
use native.Mathlib.Omega.{arith}
use lib.ListN.{length, replicate, length-append}
use lib.Seq.{get_or-append_seam}
use Rattle.sentence.specs.Record.{record_of}
use Rattle.sentence.specs.declared.Node.{Node}
use Rattle.sentence.specs.declared.Node.TheVariants.{True}
use Rattle.meaning.specs.Tree.{Formula, always, labelled, negation, both, compare, PathFormula, next, until}
use Rattle.meaning.specs.Tree.{Expression, probability, constant, sum, difference, product}
use Rattle.trees.specs.Listed.{formula_nodes, expression_nodes, path_nodes}
use Rattle.trees.specs.Standing.{node_at, FormulaAt, always_at, labelled_at, negation_at, conjunction_at, compare_at}
use Rattle.trees.specs.Standing.{ExpressionAt, probability_at, constant_at, sum_at, difference_at, product_at, PathAt, next_at}
use Rattle.trees.specs.Standing.{until_at}

-- the nodes ns stand at the places from p on, up to q
abbrev pub Stretch : List Node → ℕ → List Node → ℕ → Type 0
Stretch nodes p [] q = p ≡ q
Stretch nodes p (n ∷ ns) q = (p < 64) × (node_at nodes p ≡ n) × Stretch nodes (p + 1) ns q

-- two lists one after the other
pub split : (nodes : List Node) (ms ns : List Node) (p q : ℕ) → Stretch nodes p (ms ++ ns) q
    → (m : ℕ) × Stretch nodes p ms m × Stretch nodes m ns q
split nodes [] ns p q h = (p, refl, h)
split nodes (m ∷ ms) ns p q h = let r = split nodes ms ns (p + 1) q h.2 in (r.0, (h.0, h.1, r.1), r.2)

module _ (nodes : List Node) where
  mutual
    unfolding formula_nodes expression_nodes path_nodes

    -- a state formula stands where its nodes do
    pub formula_stands : (f : Formula) (p q : ℕ) → Stretch nodes p (formula_nodes f) q → FormulaAt nodes p f q
    formula_stands always p q h = subst (FormulaAt nodes p always) h.2 (always_at h.0 h.1)
    formula_stands (labelled l i) p q h = subst (FormulaAt nodes p (labelled l i)) h.2 (labelled_at h.0 h.1)
    formula_stands (negation f) p q h = negation_at h.0 h.1 (formula_stands f (p + 1) q h.2)
    formula_stands (both f g) p q h =
        let s = split nodes (formula_nodes f) (formula_nodes g) (p + 1) q h.2 in
        conjunction_at h.0 h.1 (formula_stands f (p + 1) s.0 s.1) (formula_stands g s.0 q s.2)
    formula_stands (compare r a b) p q h =
        let s = split nodes (expression_nodes a) (expression_nodes b) (p + 1) q h.2 in
        compare_at h.0 h.1 (expression_stands a (p + 1) s.0 s.1) (expression_stands b s.0 q s.2)

    -- so does an expression
    pub expression_stands : (a : Expression) (p q : ℕ) → Stretch nodes p (expression_nodes a) q → ExpressionAt nodes p a q
    expression_stands (probability w) p q h = probability_at h.0 h.1 (path_stands w (p + 1) q h.2)
    expression_stands (constant a b) p q h = subst (ExpressionAt nodes p (constant a b)) h.2 (constant_at h.0 h.1)
    expression_stands (sum a b) p q h =
        let s = split nodes (expression_nodes a) (expression_nodes b) (p + 1) q h.2 in
        sum_at h.0 h.1 (expression_stands a (p + 1) s.0 s.1) (expression_stands b s.0 q s.2)
    expression_stands (difference a b) p q h =
        let s = split nodes (expression_nodes a) (expression_nodes b) (p + 1) q h.2 in
        difference_at h.0 h.1 (expression_stands a (p + 1) s.0 s.1) (expression_stands b s.0 q s.2)
    expression_stands (product a b) p q h =
        let s = split nodes (expression_nodes a) (expression_nodes b) (p + 1) q h.2 in
        product_at h.0 h.1 (expression_stands a (p + 1) s.0 s.1) (expression_stands b s.0 q s.2)

    -- so does a path
    pub path_stands : (w : PathFormula) (p q : ℕ) → Stretch nodes p (path_nodes w) q → PathAt nodes p w q
    path_stands (next f) p q h = next_at h.0 h.1 (formula_stands f (p + 1) q h.2)
    path_stands (until k1 k2 f g) p q h =
        let s = split nodes (formula_nodes f) (formula_nodes g) (p + 1) q h.2 in
        until_at h.0 h.1 (formula_stands f (p + 1) s.0 s.1) (formula_stands g s.0 q s.2)

-- a list stands in the places that hold it
laid : (front ns rest : List Node) → length front + length ns ≤ 64 →
    Stretch (front ++ (ns ++ rest)) (length front) ns (length front + length ns)
laid front [] rest h = omega arith
laid front (n ∷ ns) rest h =
    let longer : length (front ++ (n ∷ [])) ≡ length front + 1 = length-append front (n ∷ []) in
    let places : length (front ++ (n ∷ [])) + length ns ≡ length front + suc (length ns) = omega (arith, longer) in
    let h' : length (front ++ (n ∷ [])) + length ns ≤ 64 = omega (arith, longer) in
    let more : Stretch ((front ++ (n ∷ [])) ++ (ns ++ rest)) (length (front ++ (n ∷ []))) ns
    (length (front ++ (n ∷ [])) + length ns) =
    laid (front ++ (n ∷ [])) ns rest h' in (
      omega arith,
      get_or-append_seam front n (ns ++ rest) True,
      subst (λ (l : List Node). Stretch l (length front + 1) ns (length front + suc (length ns)))
          (append_assoc front (n ∷ []) (ns ++ rest))
          (subst (λ (q : ℕ). Stretch ((front ++ (n ∷ [])) ++ (ns ++ rest)) (length front + 1) ns q) places
          (subst (λ (p : ℕ). Stretch ((front ++ (n ∷ [])) ++ (ns ++ rest)) p ns
          (length (front ++ (n ∷ [])) + length ns)) longer more)),
    )

-- the record of a list of at most 64 nodes holds it from place 0 on
pub record_stretch : (ps : List Bool) (ns : List Node) → length ns ≤ 64 → Stretch (record_of ps ns).nodes 0 ns (length ns)
unfolding record_of
record_stretch ps ns h =
    let e : 0 + length ns ≡ length ns = omega arith in
    let h' : 0 + length ns ≤ 64 = omega arith in
    subst (Stretch (ns ++ replicate (64 - length ns) True) 0 ns) e (laid [] ns (replicate (64 - length ns) True) h')

-- so the formula stands there
pub record_stands : (ps : List Bool) (ns : List Node) (f : Formula) → length ns ≤ 64 → ns ≡ formula_nodes f
    → FormulaAt (record_of ps ns).nodes 0 f (length ns)
record_stands ps ns f h e =
    formula_stands (record_of ps ns).nodes f 0 (length ns)
    (subst (λ (l : List Node). Stretch (record_of ps ns).nodes 0 l (length ns)) e (record_stretch ps ns h))
