-- An expression's node: what its operands are evaluated with, and what the layer and the denominator are after the call
-- at the node.
use Prim.Native.Nat.{ℕ, ◌+◌, ◌*◌, ◌≤◌}
use mathlib.Core.Bool.{false}
use mathlib.Core.List.{List}
use mathlib.Core.Path.{◌≡◌, refl, sym, ap₂, subst, transport, transport⁻¹, ◌∙◌}
use native.Mathlib.Nat.{le_trans, le_of_eq}
use native.Mathlib.Omega.{arith}
use lib.ListN.{length}
use Rattle.sentence.specs.declared.Kind.TheVariants.{Expression as ExpressionKind, Path as PathKind}
use Rattle.sentence.specs.declared.Node.{Node}
use Rattle.sentence.specs.declared.Node.TheVariants.{Probability, Constant, Sum as SumNode}
use Rattle.sentence.specs.declared.Node.TheVariants.{Difference as DifferenceNode, Product as ProductNode}
use Rattle.meaning.specs.Tree.{Expression, probability, constant}
use Rattle.meaning.specs.Size.{size_limit, size, add_s, mul_s, exceeds_in, exceeds_from, large_size}
use Rattle.meaning.proofs.Bounds.{size_fits}
use Rattle.meaning.proofs.Tests.{or_left}
use Rattle.layers.specs.Layers.{WrittenFront}
use Rattle.fractions.specs.declared.Operation.{Operation}
use Rattle.fractions.specs.declared.Operation.TheVariants.{Sum, Difference, Product}
use Rattle.fractions.specs.Operations.{combined_at, CombineFits}
use Rattle.fractions.specs.Values.{expression_of}
use Rattle.fractions.proofs.Values.{operands_small, combine_fits, combine_layer, constant_layer, probability_layer}
use Rattle.trees.specs.Need.{paired, need_in}
use Rattle.trees.specs.Ranged.{RangedIn}
use Rattle.trees.specs.Standing.{node_at, ExpressionAt}
use Rattle.trees.proofs.Cases.{ExpressionCase, expression_case}
use Rattle.layers.specs.declared.Setting.{Setting}
use Rattle.evaluate.specs.Evaluation.{TreeReady, CombinedReady, TreeDone, TreesDone, CombinedDone}
use Rattle.evaluate.proofs.Fixing.{tuple_count_power}
use Rattle.evaluate.proofs.Trees.{tree_ready, trees_ready, known, expressions_bounded, by_case}
use Rattle.evaluate.proofs.Operands.{trees_room, trees_left}

-- ---- the three operations

-- the need, the ranges and the denominator of what an operation makes of two expressions
operation_need : (op : Operation) (a b : Expression) → need_in (expression_of op a b) ≡ paired (need_in a) (need_in b)
unfolding need_in
operation_need Sum a b = refl
operation_need Difference a b = refl
operation_need Product a b = refl

operation_ranged : (op : Operation) (n : ℕ) (a b : Expression) → RangedIn n (expression_of op a b) →
    RangedIn n a × RangedIn n b
operation_ranged Sum n a b h = h
operation_ranged Difference n a b h = h
operation_ranged Product n a b h = h

operation_bottom : (op : Operation) (a b : Expression) (D n : ℕ) →
    (size (expression_of op a b) D n).d ≡ (size a D n).d * (size b D n).d
unfolding size add_s mul_s
operation_bottom Sum a b D n = refl
operation_bottom Difference a b D n = refl
operation_bottom Product a b D n = refl

-- the node of an operation
abbrev pub operation_node : Operation → Node
operation_node Sum = SumNode
operation_node Difference = DifferenceNode
operation_node Product = ProductNode

-- an operation's expression at a place, with its two operands after it
abbrev OperationCase : List Node → ℕ → Operation → Expression → ℕ → Type 0
OperationCase nodes at op f q =
    (a : Expression) × (b : Expression) × (m : ℕ) × (f ≡ expression_of op a b) × ExpressionAt nodes (at + 1) a m ×
    ExpressionAt nodes m b q

operation_case : (op : Operation) (nodes : List Node) (at : ℕ) (f : Expression) (q : ℕ) →
    ExpressionCase nodes at (operation_node op) f q → OperationCase nodes at op f q
operation_case Sum nodes at f q it = it
operation_case Difference nodes at f q it = it
operation_case Product nodes at f q it = it

-- ---- what the operands are evaluated with
module _ {nodes : List Node} {g : Setting} {masks : List ℕ} {rows : List (List ℕ)} {at : ℕ} {w : List ℕ}
    (ready : TreeReady ExpressionKind nodes g masks rows at w) where
  -- what the path of a probability asks
  pub probability_ready : node_at nodes at ≡ Probability → TreeReady PathKind nodes g masks rows (at + 1) w
  unfolding exceeds_in need_in size tree_ready
  probability_ready e =
      let it = expression_case nodes at Probability e ready.stands in
      let D = ready.chain.D in
      let n = g.variables in
      let h = known ready it.1 in
      tree_ready ready.fixed ready.few PathKind it.0 ready.end it.2 h.0
      (or_left (exceeds_from it.0 D n) (large_size (size (probability it.0) D n)) h.1) (size_fits (probability it.0) D n h.1).0 h.2

  -- what the expressions of an operation ask
  pub operation_ready : (op : Operation) → node_at nodes at ≡ operation_node op → CombinedReady op nodes g masks rows (at + 1) w
  unfolding trees_ready
  operation_ready op e =
      let it = operation_case op nodes at ready.tree ready.end (expression_case nodes at (operation_node op) e ready.stands) in
      let h = known ready it.3 in
      let small = operands_small op it.0 it.1 ready.chain.D g.variables h.1 in
      record {
        two = trees_ready ready.fixed ready.few ExpressionKind it.0 it.1 it.2 ready.end it.4 it.5
            (operation_ranged op g.variables it.0 it.1 h.0)
            small (expressions_bounded _ _ _ _ small)
            (subst (λ (k : ℕ). k * g.tuples ≤ length w) (operation_need op it.0 it.1) h.2);
        fits = h.1;
      }

-- ---- two expressions and an operation on them
module _ {op : Operation} {nodes : List Node} {g : Setting} {masks : List ℕ} {rows : List (List ℕ)} {at : ℕ} {mid : List ℕ}
    {next first second : ℕ} (done : TreesDone ExpressionKind nodes g masks rows at mid next first second) where
  -- what combining asks
  pub combining_ready : {w : List ℕ} → CombinedReady op nodes g masks rows at w → length mid ≡ length w →
      CombineFits op first second g.tuples mid
  combining_ready ready long =
      let r = ready.two in
      let h = trees_left r done in
      let room = trees_room r in
      transport⁻¹ (λ i. CombineFits op (h.1 i) (h.2 i) g.tuples mid)
      (combine_fits r.chain r.fixed.held.sound (tuple_count_power r.fixed) r.first r.second r.fits r.fits' h.3 h.4 op
      ready.fits (omega (arith, room, long)))

  -- the denominators' product is at most 2^62
  pub bottoms_small : {w : List ℕ} → CombinedReady op nodes g masks rows at w → first * second ≤ size_limit
  bottoms_small ready =
      let r = ready.two in
      let h = trees_left r done in
      let D = r.chain.D in
      let n = g.variables in
      le_trans (le_of_eq (ap₂ ◌*◌ h.1 h.2 ∙ sym (operation_bottom op r.first r.second D n)))
      (size_fits (expression_of op r.first r.second) D n ready.fits).0

  -- what the operation leaves
  pub combined_done : {after : List ℕ} → WrittenFront g.tuples (combined_at op first second g.tuples mid) mid after →
      CombinedDone op nodes g masks rows at after next (first * second)
  combined_done {after} written = record {
    each = λ c a b m q fixed p t fits.
        let small = operands_small op a b c.D g.variables fits in
        let h = done.each c a b m q fixed p t small.0 small.1 in
        let by-sizes = transport (λ i. WrittenFront g.tuples (combined_at op (h.1 i) (h.2 i) g.tuples mid) mid after) written in (
          h.0,
          ap₂ ◌*◌ h.1 h.2 ∙ sym (operation_bottom op a b c.D g.variables),
          combine_layer c fixed.held.sound (tuple_count_power fixed) a b small.0 small.1 h.3 h.4 op by-sizes,
        );
  }

-- ---- what is left, by the node at the place
module _ {nodes : List Node} {g : Setting} {masks : List ℕ} {rows : List (List ℕ)} {at : ℕ} where
  -- a probability
  pub probability_done : node_at nodes at ≡ Probability → {after : List ℕ} {next bottom : ℕ} →
      TreeDone PathKind nodes g masks rows (at + 1) after next bottom → TreeDone ExpressionKind nodes g masks rows at after next bottom
  unfolding exceeds_in size
  probability_done e done = by_case Probability e
      (λ c a q fixed stands it fits.
      let n = g.variables in
      let small = subst (λ (a : Expression). exceeds_in a c.D n ≡ false) it.1 fits in
      let h = done.each c it.0 q fixed it.2
      (or_left (exceeds_from it.0 c.D n) (large_size (size (probability it.0) c.D n)) small) in
      (probability it.0, it.1, (h.0, h.1, probability_layer it.0 c h.2)))

  -- a constant
  pub constant_done : (x y : ℕ) → node_at nodes at ≡ Constant x y → {before after : List ℕ} →
      WrittenFront g.tuples (λ k. x) before after → TreeDone ExpressionKind nodes g masks rows at after (at + 1) y
  unfolding size
  constant_done x y e written = by_case (Constant x y) e
      (λ c a q fixed stands it fits. (constant x y, it.0, (sym it.1, refl, constant_layer (tuple_count_power fixed) x y c written)))

  -- an operation
  pub operation_done : (op : Operation) → node_at nodes at ≡ operation_node op → {after : List ℕ} {next bottom : ℕ} →
      CombinedDone op nodes g masks rows (at + 1) after next bottom → TreeDone ExpressionKind nodes g masks rows at after next bottom
  operation_done op e done = by_case (operation_node op) e
      (λ c a q fixed stands found fits.
      let it = operation_case op nodes at a q found in
      let small = subst (λ (a : Expression). exceeds_in a c.D g.variables ≡ false) it.3 fits in
      (expression_of op it.0 it.1, it.3, done.each c it.0 it.1 it.2 q fixed it.4 it.5 small))
