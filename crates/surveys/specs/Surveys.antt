-- Working: what the functions of this crate promise one another. Nothing here has to be believed.
--
-- What surveying the nodes of a tree finds: its end, and how many layers its evaluation needs.
use Rattle.std.specs.Prelude.{ℕ, ◌+◌, ◌≤◌, ◌<◌, max, true, false, List, ◌≡◌}
use Rattle.sentence.specs.declared.Node.{Node}
use Rattle.sentence.specs.declared.Node.TheVariants.{Until}
use Rattle.meaning.specs.Tree.{Formula, Expression, PathFormula}
use Rattle.trees.specs.Need.{need, need_in, need_from}
use Rattle.trees.specs.Standing.{FormulaAt, ExpressionAt, PathAt}
use Rattle.surveys.specs.declared.Extent.{Extent}
use Rattle.surveys.specs.declared.Order.{Order}

-- of whatever tree stands at the place; and bounds that hold of any nodes
pub record TreeSurveyed (nodes : List Node) (at : ℕ) (r : Extent) : Type 0 where
  pub forward : at ≤ r.next
  pub within : r.next ≤ 64
  pub few : r.layers + at ≤ r.next + 3
  pub formula : (f : Formula) (q : ℕ) → FormulaAt nodes at f q → (r.next ≡ q) × (r.layers ≡ need f)
  pub expression : (a : Expression) (q : ℕ) → ExpressionAt nodes at a q → (r.next ≡ q) × (r.layers ≡ need_in a)
  pub path : (w : PathFormula) (q : ℕ) → PathAt nodes at w q → (r.next ≡ q) × (r.layers ≡ need_from w)

-- the layers that a node with two operands needs, where these need so many: an until computes in a third
abbrev pub layers_of_two : Node → ℕ → ℕ
layers_of_two (Until k1 k2) k = max 3 k
layers_of_two _ k = k

-- the order of two trees, by what was found of both: as they stand, or crossed
pub data Chosen (at : ℕ) (one two : Extent) (r : Order) : Type 0 where
  standing : r.first ≡ at → r.then ≡ one.next → r.crossed ≡ false → two.layers ≤ one.layers → Chosen at one two r
  crossing : r.first ≡ one.next → r.then ≡ at → r.crossed ≡ true → one.layers < two.layers → Chosen at one two r

-- of whatever two trees stand at the place, one after another
pub record Ordered (nodes : List Node) (at : ℕ) (r : Order) : Type 0 where
  pub one : Extent
  pub two : Extent
  pub surveyed : TreeSurveyed nodes at one
  pub follows : TreeSurveyed nodes one.next two
  pub chosen : Chosen at one two r
