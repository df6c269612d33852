-- A state formula's node: what its operands are evaluated with, and what the layer holds after the call at the node.
use Prim.Native.Nat.{ℕ, ◌+◌}
use mathlib.Core.Bool.{false}
use mathlib.Core.List.{List}
use mathlib.Core.Path.{◌≡◌, refl, sym, ap, subst, transport, transport⁻¹, ◌∙◌}
use native.Mathlib.Omega.{arith}
use lib.ListN.{length}
use Rattle.sentence.specs.declared.Kind.TheVariants.{State, Expression as ExpressionKind}
use Rattle.sentence.specs.declared.Relation as Spelled
use Rattle.sentence.specs.declared.Node.{Node}
use Rattle.sentence.specs.declared.Relation.TheVariants.{Less, AtMost, Equal, AtLeast, Greater}
use Rattle.sentence.specs.declared.Node.TheVariants.{True, Label, Not, And, Compare}
use Rattle.meaning.specs.Tree.{Relation, Formula, always, labelled, negation, both, compare, Expression}
use Rattle.meaning.specs.Meaning.{holds}
use Rattle.meaning.specs.Size.{exceeds}
use Rattle.layers.specs.Layers.{WrittenFront, negated_at, both_at}
use Rattle.layers.specs.Held.{LabelReady, LabelDone}
use Rattle.layers.proofs.Truth.{always_layer, negated_layer, both_layer}
use Rattle.fractions.specs.Operations.{compared_at, CompareFits}
use Rattle.fractions.proofs.Values.{sides_small, compare_fits, compare_layer}
use Rattle.trees.specs.Listed as listed
use Rattle.trees.specs.Listed.{relation_read}
use Rattle.trees.specs.Need.{need}
use Rattle.trees.specs.Standing.{node_at}
use Rattle.trees.proofs.Once.{spelled_relation}
use Rattle.trees.proofs.Cases.{formula_case}
use Rattle.layers.specs.declared.Setting.{Setting}
use Rattle.evaluate.specs.Evaluation.{TreeReady, TreesReady, TreeDone, TreesDone}
use Rattle.evaluate.proofs.Fixing.{to_chain, tuple_count_power}
use Rattle.evaluate.proofs.Trees.{tree_ready, trees_ready, tree_room, known, formulas_small, expressions_bounded, by_case}
use Rattle.evaluate.proofs.Operands.{trees_room}

-- a relation of the meaning is that of one node's relation
relation_back : (x : Spelled.Relation) → listed.relation_spelled (relation_read x) ≡ x
relation_back Less = refl
relation_back AtMost = refl
relation_back Equal = refl
relation_back AtLeast = refl
relation_back Greater = refl

pub relation_once : (r x y : Spelled.Relation) → relation_read x ≡ relation_read r → relation_read y ≡ relation_read r → x ≡ y
relation_once r x y p q = sym (relation_back x) ∙ ap listed.relation_spelled (p ∙ sym q) ∙ relation_back y

-- a comparison is one by the relation of its node
compare_is : {r : Spelled.Relation} (e : Relation) (a b : Expression) {f : Formula} → r ≡ listed.relation_spelled e →
    f ≡ compare e a b → f ≡ compare (relation_read r) a b
compare_is e a b q is = is ∙ ap (λ (e : Relation). compare e a b) (sym (ap relation_read q ∙ spelled_relation e))

module _ {nodes : List Node} {g : Setting} {masks : List ℕ} {rows : List (List ℕ)} {at : ℕ} {w : List ℕ}
    (ready : TreeReady State nodes g masks rows at w) where
  -- what a label asks
  pub label_ready : (l i : ℕ) → node_at nodes at ≡ Label l i → LabelReady g.states g.variables g.tuples l i w
  label_ready l i e =
      let range = (known ready (formula_case nodes at (Label l i) e ready.stands).0).0 in
      record {
        letter = range.0;
        some = range.1;
        bound = range.2;
        sizes = ready.fixed.sizes;
        room = tree_room ready;
      }

  -- what the formula of a not asks
  pub not_ready : node_at nodes at ≡ Not → TreeReady State nodes g masks rows (at + 1) w
  unfolding exceeds need
  not_ready e =
      let it = formula_case nodes at Not e ready.stands in
      let h = known ready it.1 in
      tree_ready ready.fixed ready.few State it.0 ready.end it.2 h.0 h.1 (omega arith) h.2

  -- what the formulas of an and ask
  pub and_ready : node_at nodes at ≡ And → TreesReady State nodes g masks rows (at + 1) w
  unfolding exceeds need
  and_ready e =
      let it = formula_case nodes at And e ready.stands in
      let h = known ready it.3 in
      trees_ready ready.fixed ready.few State it.0 it.1 it.2 ready.end it.4 it.5 h.0
      (formulas_small it.0 it.1 ready.chain.D g.variables h.1) (omega arith, omega arith) h.2

  -- what the expressions of a comparison ask
  pub compare_ready : (r : Spelled.Relation) → node_at nodes at ≡ Compare r → TreesReady ExpressionKind nodes g masks rows (at + 1) w
  unfolding need
  compare_ready r e =
      let it = formula_case nodes at (Compare r) e ready.stands in
      let h = known ready it.4 in
      let small = sides_small it.0 it.1 it.2 ready.chain.D g.variables h.1 in
      trees_ready ready.fixed ready.few ExpressionKind it.1 it.2 it.3 ready.end it.6 it.7 h.0 small (expressions_bounded _ _ _ _ small) h.2

  -- what comparing asks, of the layers and the denominators of the two expressions
  pub comparing_ready : (r : Spelled.Relation) → node_at nodes at ≡ Compare r → {mid : List ℕ} {next first second : ℕ} →
      TreesDone ExpressionKind nodes g masks rows (at + 1) mid next first second → length mid ≡ length w →
      CompareFits first second g.tuples mid
  comparing_ready r e {mid} done long =
      let it = formula_case nodes at (Compare r) e ready.stands in
      let c = ready.chain in
      let n = g.variables in
      let fits = (known ready (compare_is it.0 it.1 it.2 it.5 it.4)).1 in
      let small = sides_small (relation_read r) it.1 it.2 c.D n fits in
      let h = done.each c it.1 it.2 it.3 ready.end ready.fixed it.6 it.7 small.0 small.1 in
      let room = trees_room (compare_ready r e) in
      transport⁻¹ (λ i. CompareFits (h.1 i) (h.2 i) g.tuples mid)
      (compare_fits c ready.fixed.held.sound (tuple_count_power ready.fixed) it.1 it.2 small.0 small.1 h.3 h.4 r fits
      (omega (arith, room, long)))

-- ---- what is left, by the node at the place

-- the denominators that the code has are the sizes
compared_by : (x : Spelled.Relation) {T a a' b b' : ℕ} {mid after : List ℕ} → a ≡ a' → b ≡ b' →
    WrittenFront T (compared_at x a b T mid) mid after → WrittenFront T (compared_at x a' b' T mid) mid after
compared_by x {T} {mid = mid} {after = after} e e' = transport (λ i. WrittenFront T (compared_at x (e i) (e' i) T mid) mid after)

module _ {nodes : List Node} {g : Setting} {masks : List ℕ} {rows : List (List ℕ)} {at : ℕ} where
  -- `true`
  pub true_done : node_at nodes at ≡ True → {before after : List ℕ} → WrittenFront g.tuples (λ k. 1) before after →
      TreeDone State nodes g masks rows at after (at + 1) 1
  unfolding holds
  true_done e written = by_case True e
      (λ c f q fixed stands it fits. (always, it.0, (sym it.1, refl, always_layer (tuple_count_power fixed) written)))

  -- a label
  pub label_done : (l i : ℕ) → node_at nodes at ≡ Label l i → {after : List ℕ} → LabelDone g.states g.variables masks l i after →
      TreeDone State nodes g masks rows at after (at + 1) 1
  unfolding holds
  label_done l i e done = by_case (Label l i) e
      (λ c f q fixed stands it fits. (labelled l i, it.0, (sym it.1, refl, to_chain fixed (done.each c (fixed.labels l)))))

  -- not
  pub not_done : node_at nodes at ≡ Not → {mid after : List ℕ} {r : ℕ} → TreeDone State nodes g masks rows (at + 1) mid r 1 →
      WrittenFront g.tuples (negated_at mid) mid after → TreeDone State nodes g masks rows at after r 1
  unfolding holds exceeds
  not_done e done written = by_case Not e
      (λ c f q fixed stands it fits.
      let n = g.variables in
      let h = done.each c it.0 q fixed it.2 (subst (λ (f : Formula). exceeds f c.D n ≡ false) it.1 fits) in
      (negation it.0, it.1, (h.0, refl, negated_layer (tuple_count_power fixed) (λ t. holds it.0 c n t) h.2 written)))

  -- and
  pub and_done : node_at nodes at ≡ And → {mid after : List ℕ} {r x y : ℕ} → TreesDone State nodes g masks rows (at + 1) mid r x y →
      WrittenFront g.tuples (both_at g.tuples mid) mid after → TreeDone State nodes g masks rows at after r 1
  unfolding holds exceeds
  and_done e done written = by_case And e
      (λ c f q fixed stands it fits.
      let n = g.variables in
      let small = formulas_small it.0 it.1 c.D n (subst (λ (f : Formula). exceeds f c.D n ≡ false) it.3 fits) in
      let h = done.each c it.0 it.1 it.2 q fixed it.4 it.5 small.0 small.1 in
      let layer = both_layer (tuple_count_power fixed) (λ t. holds it.0 c n t) (λ t. holds it.1 c n t) h.3 h.4 written in
      (both it.0 it.1, it.3, (h.0, refl, layer)))

  -- a comparison
  pub compare_done : (r : Spelled.Relation) → node_at nodes at ≡ Compare r → {mid after : List ℕ} {next first second : ℕ} →
      TreesDone ExpressionKind nodes g masks rows (at + 1) mid next first second →
      WrittenFront g.tuples (compared_at r first second g.tuples mid) mid after → TreeDone State nodes g masks rows at after next 1
  compare_done r e {mid} {after} done written = by_case (Compare r) e
      (λ c f q fixed stands it fits.
      let n = g.variables in
      let is = compare_is it.0 it.1 it.2 it.5 it.4 in
      let small = sides_small (relation_read r) it.1 it.2 c.D n (subst (λ (f : Formula). exceeds f c.D n ≡ false) is fits) in
      let h = done.each c it.1 it.2 it.3 q fixed it.6 it.7 small.0 small.1 in
      let layer = compare_layer c fixed.held.sound (tuple_count_power fixed) it.1 it.2 small.0 small.1 h.3 h.4 r
      (compared_by r h.1 h.2 written) in
      (compare (relation_read r) it.1 it.2, is, (h.0, refl, layer)))
