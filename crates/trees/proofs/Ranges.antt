-- A list of nodes that the grammar has and of which none is out of its range lists a tree whose numbers are in their ranges.
-- Assumes nothing.
use Prim.Native.Nat.{ℕ, ◌≤◌}
use mathlib.Core.Bool.{false, ◌||◌}
use mathlib.Core.List.{List, [], ◌∷◌, ◌++◌}
use mathlib.Core.Path.{◌≡◌}
use native.Mathlib.Omega.{arith}
use borrow.Author.Tests.{ltb-false, eqb-false}
use lib.Dec.{ltb, eqb}
use Rattle.sentence.specs.Grammar.{Writable, out_of_range, some_out_of_range, Nests}
use Rattle.sentence.specs.Grammar.Nests.{end, node}
use Rattle.sentence.specs.declared.Kind.{Kind}
use Rattle.sentence.specs.declared.Node.{Node}
use Rattle.meaning.specs.Tree.{Formula, always, labelled, negation, both, compare, PathFormula, next, until}
use Rattle.meaning.specs.Tree.{Expression, probability, constant, sum, difference, product}
use Rattle.meaning.proofs.Tests.{or_left, or_right}
use Rattle.sentence.proofs.Suiting.{label_written}
use Rattle.trees.specs.Listed.{formula_nodes, expression_nodes, path_nodes}
use Rattle.trees.specs.Ranged.{Ranged, RangedIn, RangedFrom}

-- each node is one that the grammar has, and in its range in a sentence of n letters
abbrev pub InRange : ℕ → List Node → Type 0
InRange n [] = Unit
InRange n (x ∷ ns) = Writable x × (out_of_range n x ≡ false) × InRange n ns

-- what refusals 6 and 7 leave
pub nests_in_range : {ks : List Kind} {ns : List Node} (n : ℕ) → Nests ks ns → some_out_of_range n ns ≡ false → InRange n ns
nests_in_range n end e = tt
nests_in_range n (node {n = x} {ns = ns} w k rest) e =
    (w, or_left (out_of_range n x) _ e, nests_in_range n rest (or_right (out_of_range n x) (some_out_of_range n ns) e))

in_front : (n : ℕ) (ms ns : List Node) → InRange n (ms ++ ns) → InRange n ms
in_front n [] ns h = tt
in_front n (m ∷ ms) ns h = (h.0, h.1, in_front n ms ns h.2)

behind : (n : ℕ) (ms ns : List Node) → InRange n (ms ++ ns) → InRange n ns
behind n [] ns h = h
behind n (m ∷ ms) ns h = behind n ms ns h.2

-- two trees, one after another
two_ranged : {A B : Type 0} (n : ℕ) (ms ns : List Node) → (InRange n ms → A) → (InRange n ns → B) → InRange n (ms ++ ns) → A × B
two_ranged n ms ns first second h = (first (in_front n ms ns h), second (behind n ms ns h))

constant_range : (a b : ℕ) → (ltb 65535 a || eqb b 0 || ltb 65535 b) ≡ false → (a ≤ 65535) × (1 ≤ b) × (b ≤ 65535)
constant_range a b e =
    let x : (ltb 65535 a || eqb b 0) ≡ false = or_left (ltb 65535 a || eqb b 0) (ltb 65535 b) e in
    let z : (b ≡ 0) → ⊥ = eqb-false b 0 (or_right (ltb 65535 a) (eqb b 0) x) in (
      ltb-false 65535 a (or_left (ltb 65535 a) (eqb b 0) x),
      positive b z,
      ltb-false 65535 b (or_right (ltb 65535 a || eqb b 0) (ltb 65535 b) e),
    )
  where
    positive : (x : ℕ) → ((x ≡ 0) → ⊥) → 1 ≤ x
    positive x h = omega arith

mutual
  unfolding formula_nodes expression_nodes path_nodes

  -- the numbers of a state formula are in their ranges where its nodes are
  pub formula_ranged : (f : Formula) (n : ℕ) → InRange n (formula_nodes f) → Ranged n f
  formula_ranged always n h = tt
  formula_ranged (labelled l i) n h =
      let written = label_written l i h.0 in
      (written.0, written.1, ltb-false n i h.1)
  formula_ranged (negation f) n h = formula_ranged f n h.2
  formula_ranged (both f g) n h =
      two_ranged n (formula_nodes f) (formula_nodes g) (λ h. formula_ranged f n h) (λ h. formula_ranged g n h) h.2
  formula_ranged (compare r a b) n h =
      two_ranged n (expression_nodes a) (expression_nodes b) (λ h. expression_ranged a n h) (λ h. expression_ranged b n h) h.2

  -- those of an expression
  pub expression_ranged : (a : Expression) (n : ℕ) → InRange n (expression_nodes a) → RangedIn n a
  expression_ranged (probability w) n h = path_ranged w n h.2
  expression_ranged (constant a b) n h = constant_range a b h.1
  expression_ranged (sum a b) n h =
      two_ranged n (expression_nodes a) (expression_nodes b) (λ h. expression_ranged a n h) (λ h. expression_ranged b n h) h.2
  expression_ranged (difference a b) n h =
      two_ranged n (expression_nodes a) (expression_nodes b) (λ h. expression_ranged a n h) (λ h. expression_ranged b n h) h.2
  expression_ranged (product a b) n h =
      two_ranged n (expression_nodes a) (expression_nodes b) (λ h. expression_ranged a n h) (λ h. expression_ranged b n h) h.2

  -- those of a path
  pub path_ranged : (w : PathFormula) (n : ℕ) → InRange n (path_nodes w) → RangedFrom n w
  path_ranged (next f) n h = formula_ranged f n h.2
  path_ranged (until k1 k2 f g) n h = (
    ltb-false k2 k1 (or_left (ltb k2 k1) (ltb 60 k2) h.1),
    ltb-false 60 k2 (or_right (ltb k2 k1) (ltb 60 k2) h.1),
    two_ranged n (formula_nodes f) (formula_nodes g) (λ h. formula_ranged f n h) (λ h. formula_ranged g n h) h.2,
  )
