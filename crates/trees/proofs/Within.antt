-- Each path formula of a formula has what the formula has: its numbers are in their ranges, the size rule does not refuse it,
-- and it has at most 64 nodes, so that it needs at most seven layers. Assumes nothing.
use Prim.Native.Nat.{ℕ, zero, suc, ◌^◌, ◌≤◌, ◌<◌}
use mathlib.Core.Bool.{Bool, false, ◌||◌}
use mathlib.Core.List.{List, [], ◌∷◌, ◌++◌}
use mathlib.Core.Path.{◌≡◌}
use native.Mathlib.Omega.{arith}
use lib.ListN.{length, get_or, length-append}
use Rattle.sentence.specs.declared.Node.{Node}
use Rattle.sentence.specs.declared.Node.TheVariants.{And, Compare, Sum, Difference, Product, Until}
use Rattle.meaning.specs.Tree.{Formula, always, labelled, negation, both, compare, paths_of, PathFormula, next, until, paths_from}
use Rattle.meaning.specs.Tree.{Expression, probability, constant, sum, difference, product, paths_in}
use Rattle.meaning.specs.Meaning.{denominator}
use Rattle.meaning.specs.Size.{size, large_size, large_cross, exceeds, exceeds_in, exceeds_from}
use Rattle.meaning.proofs.Tests.{or_left, or_right}
use Rattle.meaning.proofs.Bounds.{size_fits}
use Rattle.trees.specs.Listed.{relation_spelled, formula_nodes, expression_nodes, path_nodes}
use Rattle.trees.specs.Need.{need_from}
use Rattle.trees.specs.Ranged.{Ranged, RangedIn, RangedFrom}
use Rattle.trees.proofs.Needs.{seven, need_from_allowed}

-- what a path formula within a formula has, in a sentence of n letters over a chain with the sum D
pub record Inherits (n D : ℕ) (w : PathFormula) : Type 0 where
  pub ranged : RangedFrom n w
  pub fits : exceeds_from w D n ≡ false
  pub small : denominator w D n ≤ 2 ^ 62
  pub room : need_from w ≤ 7

-- what is known of a tree of any kind: its ranges, the size rule's answer, its nodes
abbrev Known : Type 0 → Bool → List Node → Type 0
Known A x ns = A × (x ≡ false) × (length ns ≤ 64)

module _ (n D : ℕ) where
  -- each of the path formulas has them
  abbrev All : List PathFormula → Type 0
  All [] = Unit
  All (w ∷ ws) = Inherits n D w × All ws

  join : (ws vs : List PathFormula) → All ws → All vs → All (ws ++ vs)
  join [] vs h k = k
  join (w ∷ ws) vs h k = (h.0, join ws vs h.1 k)

  at : (ws : List PathFormula) → All ws → (k : ℕ) (d : PathFormula) → k < length ws → Inherits n D (get_or ws k d)
  at [] h k d l = absurd (omega arith)
  at (w ∷ ws) h zero d l = h.0
  at (w ∷ ws) h (suc k) d l = at ws h.1 k d (omega arith)

  -- two trees of one kind after a node
  pair : {A B : Type 0} (x y : Bool) (m : Node) (ns ms : List Node) (ws vs : List PathFormula) →
      Known (A × B) (x || y) (m ∷ (ns ++ ms)) → (Known A x ns → All ws) → (Known B y ms → All vs) → All (ws ++ vs)
  pair x y m ns ms ws vs h first second =
      let long = length-append ns ms in
      join ws vs (first (h.0.0, or_left x y h.1, omega (arith, h.2))) (second (h.0.1, or_right x y h.1, omega (arith, h.2)))

  -- a tree of each kind of which these are known: each of its path formulas has them
  abbrev Passes : Formula → Type 0
  Passes f = Known (Ranged n f) (exceeds f D n) (formula_nodes f) → All (paths_of f)

  abbrev PassesIn : Expression → Type 0
  PassesIn a = Known (RangedIn n a) (exceeds_in a D n) (expression_nodes a) → All (paths_in a)

  abbrev PassesFrom : PathFormula → Type 0
  PassesFrom w = Known (RangedFrom n w) (exceeds_from w D n) (path_nodes w) → denominator w D n ≤ 2 ^ 62 → All (paths_from w)

  two_formulas : (m : Node) (f g : Formula) → Passes f → Passes g →
      Known (Ranged n f × Ranged n g) (exceeds f D n || exceeds g D n) (m ∷ (formula_nodes f ++ formula_nodes g))
      → All (paths_of f ++ paths_of g)
  two_formulas m f g first second h =
      pair (exceeds f D n) (exceeds g D n) m (formula_nodes f) (formula_nodes g) (paths_of f) (paths_of g) h first second

  -- with a test of the size rule on both
  two_expressions : (m : Node) (a b : Expression) (y : Bool) → PassesIn a → PassesIn b →
      Known (RangedIn n a × RangedIn n b) (exceeds_in a D n || exceeds_in b D n || y) (m ∷ (expression_nodes a ++ expression_nodes b))
      → All (paths_in a ++ paths_in b)
  two_expressions m a b y first second h =
      let x = exceeds_in a D n || exceeds_in b D n in
      pair (exceeds_in a D n) (exceeds_in b D n) m (expression_nodes a) (expression_nodes b) (paths_in a) (paths_in b)
      (h.0, or_left x y h.1, h.2) first second

  own : (w : PathFormula) → Known (RangedFrom n w) (exceeds_from w D n) (path_nodes w) → denominator w D n ≤ 2 ^ 62 → Inherits n D w
  own w h s = record { ranged = h.0; fits = h.1; small = s; room = seven (need_from w) (length (path_nodes w)) (need_from_allowed w) h.2 }

  mutual
    unfolding formula_nodes expression_nodes path_nodes paths_of paths_in paths_from exceeds exceeds_in exceeds_from size

    formula_within : (f : Formula) → Passes f
    formula_within always = λ h. tt
    formula_within (labelled l i) = λ h. tt
    formula_within (negation f) = λ h. formula_within f (h.0, h.1, omega (arith, h.2))
    formula_within (both f g) = two_formulas And f g (formula_within f) (formula_within g)
    formula_within (compare r a b) =
        two_expressions (Compare (relation_spelled r)) a b (large_cross (size a D n) (size b D n))
        (expression_within a) (expression_within b)

    expression_within : (a : Expression) → PassesIn a
    expression_within (probability w) =
        λ h. path_within w (h.0, or_left (exceeds_from w D n) (large_size (size (probability w) D n)) h.1, omega (arith, h.2))
        (size_fits (probability w) D n h.1).0
    expression_within (constant a b) = λ h. tt
    expression_within (sum a b) = two_expressions Sum a b (large_size (size (sum a b) D n)) (expression_within a) (expression_within b)
    expression_within (difference a b) =
        two_expressions Difference a b (large_size (size (difference a b) D n)) (expression_within a) (expression_within b)
    expression_within (product a b) =
        two_expressions Product a b (large_size (size (product a b) D n)) (expression_within a) (expression_within b)

    path_within : (w : PathFormula) → PassesFrom w
    path_within (next f) = λ h s. (own (next f) h s, formula_within f (h.0, h.1, omega (arith, h.2)))
    path_within (until k1 k2 f g) =
        λ h s. (own (until k1 k2 f g) h s, two_formulas (Until k1 k2) f g (formula_within f) (formula_within g) (h.0.2, h.1, h.2))

  -- the k-th path formula of a formula of at most 64 nodes
  pub path_inherits : (f : Formula) → Ranged n f → exceeds f D n ≡ false → length (formula_nodes f) ≤ 64 → (k : ℕ) (d : PathFormula)
      → k < length (paths_of f) →
      Inherits n D (get_or (paths_of f) k d)
  path_inherits f r e h k d l = at (paths_of f) (formula_within f (r, e, h)) k d l
