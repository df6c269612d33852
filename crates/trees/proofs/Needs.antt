-- How many layers a tree needs: at least 1, and at most 7 where it has at most 64 nodes. Assumes nothing.
use Prim.Native.Nat.{ℕ, suc, max, ◌+◌, ◌*◌, ◌^◌, ◌≤◌}
use mathlib.Core.Bool.{Bool, true, false, cond}
use mathlib.Core.List.{List, ◌++◌}
use mathlib.Core.Path.{◌≡◌, refl, sym, subst}
use native.Mathlib.Decide.{dec_le}
use native.Mathlib.Omega.{arith}
use borrow.Author.Tests.{eqb-true}
use lib.Dec.{eqb}
use lib.ListN.{length, length-append}
use lib.Pow.{pow_mono}
use Rattle.sentence.specs.declared.Node.{Node}
use Rattle.meaning.specs.Tree.{Formula, always, labelled, negation, both, compare, PathFormula, next, until}
use Rattle.meaning.specs.Tree.{Expression, probability, constant, sum, difference, product}
use Rattle.trees.specs.Listed.{formula_nodes, expression_nodes, path_nodes}
use Rattle.trees.specs.Need.{paired, need, need_in, need_from}

-- k layers are at least one, and so many nodes allow them
abbrev pub Allowed : ℕ → ℕ → Type 0
Allowed k l = (1 ≤ k) × (2 ^ k ≤ 2 * (l + 1))

larger : (a b x : ℕ) → Allowed a x → Allowed b x → Allowed (max a b) x
larger a b x p q = by (dec_le a b)
  where
    by : Dec (a ≤ b) → Allowed (max a b) x
    by (yes h) = let e : max a b ≡ b = omega arith in subst (λ (k : ℕ). Allowed k x) (sym e) q
    by (no h) = let e : max a b ≡ a = omega arith in subst (λ (k : ℕ). Allowed k x) (sym e) p

more : (a x y : ℕ) → x ≤ y → Allowed a x → Allowed a y
more a x y h p = (p.0, omega (arith, p.1))

twice : (a : ℕ) → 2 ^ suc a ≡ 2 * 2 ^ a
twice a = omega arith

-- two operands and the node before them
pair : (a b x y : ℕ) → Allowed a x → Allowed b y → Allowed (paired a b) (suc (x + y))
pair a b x y p q = by (eqb a b) refl
  where
    by : (t : Bool) → eqb a b ≡ t → Allowed (cond t (suc a) (max a b)) (suc (x + y))
    by true e =
        let same : a ≡ b = eqb-true a b e in
        let q' : 2 ^ a ≤ 2 * (y + 1) = subst (λ (k : ℕ). 2 ^ k ≤ 2 * (y + 1)) (sym same) q.1 in
        (omega arith, omega (arith, twice a, p.1, q'))
    by false e = larger a b (suc (x + y)) (more a x (suc (x + y)) (omega arith) p) (more b y (suc (x + y)) (omega arith) q)

-- the same, by the nodes of both
pair_nodes : (a b : ℕ) (ms ns : List Node) → Allowed a (length ms) → Allowed b (length ns) → Allowed (paired a b) (suc (length (ms ++ ns)))
pair_nodes a b ms ns p q =
    subst (λ (l : ℕ). Allowed (paired a b) (suc l)) (sym (length-append ms ns)) (pair a b (length ms) (length ns) p q)

-- a tree has a node
pub formula_nodes_some : (f : Formula) → 1 ≤ length (formula_nodes f)
unfolding formula_nodes
formula_nodes_some always = omega arith
formula_nodes_some (labelled l i) = omega arith
formula_nodes_some (negation f) = omega arith
formula_nodes_some (both f g) = omega arith
formula_nodes_some (compare r a b) = omega arith

mutual
  unfolding formula_nodes expression_nodes path_nodes need need_in need_from

  -- what a state formula needs, by its nodes
  pub need_allowed : (f : Formula) → Allowed (need f) (length (formula_nodes f))
  need_allowed always = (omega arith, omega arith)
  need_allowed (labelled l i) = (omega arith, omega arith)
  need_allowed (negation f) = more (need f) (length (formula_nodes f)) (suc (length (formula_nodes f))) (omega arith) (need_allowed f)
  need_allowed (both f g) =
      pair_nodes (need f) (need g) (formula_nodes f) (formula_nodes g) (need_allowed f) (need_allowed g)
  need_allowed (compare r a b) =
      pair_nodes (need_in a) (need_in b) (expression_nodes a) (expression_nodes b) (need_in_allowed a) (need_in_allowed b)

  -- an expression
  pub need_in_allowed : (a : Expression) → Allowed (need_in a) (length (expression_nodes a))
  need_in_allowed (probability w) =
      more (need_from w) (length (path_nodes w)) (suc (length (path_nodes w))) (omega arith) (need_from_allowed w)
  need_in_allowed (constant a b) = (omega arith, omega arith)
  need_in_allowed (sum a b) =
      pair_nodes (need_in a) (need_in b) (expression_nodes a) (expression_nodes b) (need_in_allowed a) (need_in_allowed b)
  need_in_allowed (difference a b) =
      pair_nodes (need_in a) (need_in b) (expression_nodes a) (expression_nodes b) (need_in_allowed a) (need_in_allowed b)
  need_in_allowed (product a b) =
      pair_nodes (need_in a) (need_in b) (expression_nodes a) (expression_nodes b) (need_in_allowed a) (need_in_allowed b)

  -- a path
  pub need_from_allowed : (w : PathFormula) → Allowed (need_from w) (length (path_nodes w))
  need_from_allowed (next f) = more (need f) (length (formula_nodes f)) (suc (length (formula_nodes f))) (omega arith) (need_allowed f)
  need_from_allowed (until k1 k2 f g) =
      let long = length-append (formula_nodes f) (formula_nodes g) in
      larger 3 (paired (need f) (need g)) (suc (length (formula_nodes f ++ formula_nodes g)))
      (omega arith, omega (arith, long, formula_nodes_some f, formula_nodes_some g))
      (pair_nodes (need f) (need g) (formula_nodes f) (formula_nodes g) (need_allowed f) (need_allowed g))

-- of at most 64 nodes none needs more than 7 layers
pub seven : (k l : ℕ) → Allowed k l → l ≤ 64 → k ≤ 7
seven k l p h = by (dec_le k 7)
  where
    by : Dec (k ≤ 7) → k ≤ 7
    by (yes y) = y
    by (no n) = let eight : 8 ≤ k = omega arith in let m : 2 ^ 8 ≤ 2 ^ k = pow_mono eight in absurd (omega (arith, p.1, m))

-- a state formula of at most 64 nodes needs at most seven layers
pub need_seven : (f : Formula) → length (formula_nodes f) ≤ 64 → need f ≤ 7
need_seven f h = seven (need f) (length (formula_nodes f)) (need_allowed f) h
