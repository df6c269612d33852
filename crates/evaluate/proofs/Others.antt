-- A node of another kind: no tree of the kind that is asked for stands there, so that its evaluation is unspecified.
use Prim.Native.Nat.{ℕ}
use mathlib.Core.List.{List}
use mathlib.Core.Path.{◌≡◌}
use Rattle.sentence.specs.declared.Kind.TheVariants.{State, Expression as ExpressionKind, Path as PathKind}
use Rattle.sentence.specs.declared.Relation.{Relation}
use Rattle.sentence.specs.declared.Node.{Node}
use Rattle.sentence.specs.declared.Node.TheVariants.{True, Label, Not, And, Compare, Probability, Constant}
use Rattle.sentence.specs.declared.Node.TheVariants.{Sum, Difference, Product, Next, Until}
use Rattle.trees.specs.Standing.{Tree, node_at, always_at, labelled_at, negation_at, conjunction_at, compare_at}
use Rattle.trees.specs.Standing.{probability_at, constant_at, sum_at, difference_at, product_at, next_at, until_at}
use Rattle.layers.specs.declared.Setting.{Setting}
use Rattle.evaluate.specs.Evaluation.{TreeAt, TreeDone}

module _ {nodes : List Node} {g : Setting} {masks : List ℕ} {rows : List (List ℕ)} {at : ℕ} {after : List ℕ} {next bottom : ℕ} where
  -- no state formula stands where the node is none of its five
  pub no_formula : (node_at nodes at ≡ True → ⊥) → ((l i : ℕ) → node_at nodes at ≡ Label l i → ⊥) → (node_at nodes at ≡ Not → ⊥) →
      (node_at nodes at ≡ And → ⊥) → ((r : Relation) → node_at nodes at ≡ Compare r → ⊥) →
      TreeDone State nodes g masks rows at after next bottom
  no_formula true' label not' and' compare' = record { each = λ c f q fixed stands fits. absurd (none f q stands) }
    where
      none : (f : Tree State) (q : ℕ) → TreeAt State nodes at f q → ⊥
      none _ _ (always_at h e) = true' e
      none _ _ (labelled_at h e) = label _ _ e
      none _ _ (negation_at h e v) = not' e
      none _ _ (conjunction_at h e v w) = and' e
      none _ _ (compare_at h e v w) = compare' _ e

  -- no expression, where it is none of its five
  pub no_expression : (node_at nodes at ≡ Probability → ⊥) → ((a b : ℕ) → node_at nodes at ≡ Constant a b → ⊥) →
      (node_at nodes at ≡ Sum → ⊥) → (node_at nodes at ≡ Difference → ⊥) → (node_at nodes at ≡ Product → ⊥) →
      TreeDone ExpressionKind nodes g masks rows at after next bottom
  no_expression probability constant sum difference product = record { each = λ c a q fixed stands fits. absurd (none a q stands) }
    where
      none : (a : Tree ExpressionKind) (q : ℕ) → TreeAt ExpressionKind nodes at a q → ⊥
      none _ _ (probability_at h e v) = probability e
      none _ _ (constant_at h e) = constant _ _ e
      none _ _ (sum_at h e v w) = sum e
      none _ _ (difference_at h e v w) = difference e
      none _ _ (product_at h e v w) = product e

  -- and no path, where it is neither of its two
  pub no_path : (node_at nodes at ≡ Next → ⊥) → ((k1 k2 : ℕ) → node_at nodes at ≡ Until k1 k2 → ⊥) →
      TreeDone PathKind nodes g masks rows at after next bottom
  no_path next' until' = record { each = λ c p q fixed stands fits. absurd (none p q stands) }
    where
      none : (p : Tree PathKind) (q : ℕ) → TreeAt PathKind nodes at p q → ⊥
      none _ _ (next_at h e v) = next' e
      none _ _ (until_at h e v w) = until' _ _ e
