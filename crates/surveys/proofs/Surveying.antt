-- What a survey finds of a node, from what it found of the nodes after it.
use Prim.Native.Nat.{ℕ, suc, ◌+◌, ◌≤◌, ◌<◌, max}
use mathlib.Core.Bool.{Bool, true, false, cond}
use mathlib.Core.List.{List}
use mathlib.Core.Path.{◌≡◌, refl, sym, ap, ap₂, subst, ◌∙◌}
use native.Mathlib.Omega.{arith}
use lib.Dec.{eqb}
use Rattle.sentence.specs.declared.Relation as Spelled
use Rattle.sentence.specs.declared.Node.{Node}
use Rattle.sentence.specs.declared.Node.TheVariants.{True, Label, Not, And, Compare, Probability, Constant, Sum}
use Rattle.sentence.specs.declared.Node.TheVariants.{Difference, Product, Next, Until}
use Rattle.sentence.specs.declared.Kind.{Kind}
use Rattle.sentence.specs.declared.Wants.TheVariants.{Nothing, One, Two}
use Rattle.sentence.specs.Grammar.{wants_of}
use Rattle.meaning.specs.Tree.{Formula, Expression, PathFormula}
use Rattle.trees.specs.Need.{paired, need, need_in, need_from}
use Rattle.trees.specs.Standing.{node_at, FormulaAt, ExpressionAt}
use Rattle.trees.specs.Wanted.{operand_count}
use Rattle.trees.proofs.Cases.{FormulaCase, ExpressionCase, PathCase, formula_case, expression_case, path_case}
use Rattle.surveys.specs.declared.Extent.{Extent}
use Rattle.surveys.specs.Surveys.{TreeSurveyed, layers_of_two}

-- two operands need at most one more than the larger
paired_few : (a b : ℕ) → paired a b ≤ max a b + 1
paired_few a b = go (eqb a b) refl
  where
    go : (t : Bool) → eqb a b ≡ t → cond t (suc a) (max a b) ≤ max a b + 1
    go true e = omega arith
    go false e = omega arith

-- of two trees, one after another
pub record TreesSurveyed (nodes : List Node) (at : ℕ) (r : Extent) : Type 0 where
  pub forward : at ≤ r.next
  pub within : r.next ≤ 64
  pub few : r.layers + at ≤ r.next + 4
  pub formulas : (f g : Formula) (m q : ℕ) → FormulaAt nodes at f m → FormulaAt nodes m g q →
      (r.next ≡ q) × (r.layers ≡ paired (need f) (need g))
  pub expressions : (a b : Expression) (m q : ℕ) → ExpressionAt nodes at a m → ExpressionAt nodes m b q →
      (r.next ≡ q) × (r.layers ≡ paired (need_in a) (need_in b))

-- bounds that hold of any nodes
pub record Bounded (at : ℕ) (r : Extent) : Type 0 where
  pub forward : at ≤ r.next
  pub within : r.next ≤ 64
  pub few : r.layers + at ≤ r.next + 3

module _ (nodes : List Node) (at : ℕ) (r : Extent) where
  -- by the node at the place
  by_node : (n : Node) → node_at nodes at ≡ n → Bounded at r →
      ((f : Formula) (q : ℕ) → FormulaCase nodes at n f q → (r.next ≡ q) × (r.layers ≡ need f)) →
      ((a : Expression) (q : ℕ) → ExpressionCase nodes at n a q → (r.next ≡ q) × (r.layers ≡ need_in a)) →
      ((w : PathFormula) (q : ℕ) → PathCase nodes at n w q → (r.next ≡ q) × (r.layers ≡ need_from w)) →
      TreeSurveyed nodes at r
  by_node n e b f a w = record {
    forward = b.forward;
    within = b.within;
    few = b.few;
    formula = λ x q h. f x q (formula_case nodes at n e h);
    expression = λ x q h. a x q (expression_case nodes at n e h);
    path = λ x q h. w x q (path_case nodes at n e h);
  }

  module _ (room : at < 64) where
    module _ (e : r.next ≡ at + 1) (k : r.layers ≡ 1) where
      leaf : Bounded at r
      leaf = record { forward = omega arith; within = omega arith; few = omega arith }

      surveyed_true : node_at nodes at ≡ True → TreeSurveyed nodes at r
      unfolding need
      surveyed_true n = by_node True n leaf (λ f q w. (e ∙ sym w.1, k ∙ ap need (sym w.0))) (λ a q w. absurd w)
          (λ a q w. absurd w)

      surveyed_label : (l i : ℕ) → node_at nodes at ≡ Label l i → TreeSurveyed nodes at r
      unfolding need
      surveyed_label l i n = by_node (Label l i) n leaf (λ f q w. (e ∙ sym w.1, k ∙ ap need (sym w.0)))
          (λ a q w. absurd w) (λ a q w. absurd w)

      surveyed_constant : (a b : ℕ) → node_at nodes at ≡ Constant a b → TreeSurveyed nodes at r
      unfolding need_in
      surveyed_constant a b n = by_node (Constant a b) n leaf (λ f q w. absurd w)
          (λ a q w. (e ∙ sym w.1, k ∙ ap need_in (sym w.0))) (λ a q w. absurd w)

    module _ (s : TreeSurveyed nodes (at + 1) r) where
      one : Bounded at r
      one = record { forward = omega arith; within = s.within; few = omega arith }

      surveyed_not : node_at nodes at ≡ Not → TreeSurveyed nodes at r
      unfolding need
      surveyed_not n = by_node Not n one
          (λ f q w.
          let h = s.formula w.0 q w.2 in
          (h.0, h.1 ∙ ap need (sym w.1)))
          (λ a q w. absurd w) (λ a q w. absurd w)

      surveyed_probability : node_at nodes at ≡ Probability → TreeSurveyed nodes at r
      unfolding need_in
      surveyed_probability n = by_node Probability n one (λ f q w. absurd w)
          (λ f q w.
          let h = s.path w.0 q w.2 in
          (h.0, h.1 ∙ ap need_in (sym w.1)))
          (λ a q w. absurd w)

      surveyed_next : node_at nodes at ≡ Next → TreeSurveyed nodes at r
      unfolding need_from
      surveyed_next n = by_node Next n one (λ f q w. absurd w) (λ a q w. absurd w)
          (λ f q w.
          let h = s.formula w.0 q w.2 in
          (h.0, h.1 ∙ ap need_from (sym w.1)))

    module _ (s : TreesSurveyed nodes (at + 1) r) where
      two : Bounded at r
      two = record { forward = omega arith; within = s.within; few = omega arith }

      surveyed_and : node_at nodes at ≡ And → TreeSurveyed nodes at r
      unfolding need
      surveyed_and n = by_node And n two
          (λ f q w.
          let h = s.formulas w.0 w.1 w.2 q w.4 w.5 in
          (h.0, h.1 ∙ ap need (sym w.3)))
          (λ a q w. absurd w) (λ a q w. absurd w)

      surveyed_compare : (rel : Spelled.Relation) → node_at nodes at ≡ Compare rel → TreeSurveyed nodes at r
      unfolding need
      surveyed_compare rel n = by_node (Compare rel) n two
          (λ f q w.
          let h = s.expressions w.1 w.2 w.3 q w.6 w.7 in
          (h.0, h.1 ∙ ap need (sym w.4)))
          (λ a q w. absurd w) (λ a q w. absurd w)

      surveyed_sum : node_at nodes at ≡ Sum → TreeSurveyed nodes at r
      unfolding need_in
      surveyed_sum n = by_node Sum n two (λ a q w. absurd w)
          (λ f q w.
          let h = s.expressions w.0 w.1 w.2 q w.4 w.5 in
          (h.0, h.1 ∙ ap need_in (sym w.3)))
          (λ a q w. absurd w)

      surveyed_difference : node_at nodes at ≡ Difference → TreeSurveyed nodes at r
      unfolding need_in
      surveyed_difference n = by_node Difference n two (λ a q w. absurd w)
          (λ f q w.
          let h = s.expressions w.0 w.1 w.2 q w.4 w.5 in
          (h.0, h.1 ∙ ap need_in (sym w.3)))
          (λ a q w. absurd w)

      surveyed_product : node_at nodes at ≡ Product → TreeSurveyed nodes at r
      unfolding need_in
      surveyed_product n = by_node Product n two (λ a q w. absurd w)
          (λ f q w.
          let h = s.expressions w.0 w.1 w.2 q w.4 w.5 in
          (h.0, h.1 ∙ ap need_in (sym w.3)))
          (λ a q w. absurd w)

-- an until computes in a third layer
surveyed_until : (nodes : List Node) (at : ℕ) (t r : Extent) → at < 64 → TreesSurveyed nodes (at + 1) t →
    r.next ≡ t.next → r.layers ≡ max 3 t.layers → (k1 k2 : ℕ) → node_at nodes at ≡ Until k1 k2 →
    TreeSurveyed nodes at r
unfolding need_from
surveyed_until nodes at t r room s e k k1 k2 n = by_node nodes at r (Until k1 k2) n
    (record { forward = omega arith; within = omega arith; few = omega arith })
    (λ f q w. absurd w) (λ a q w. absurd w)
    (λ f q w.
    let h = s.formulas w.0 w.1 w.2 q w.4 w.5 in
    (e ∙ h.0, k ∙ ap (max 3) h.1 ∙ ap need_from (sym w.3)))

-- two trees, one after another
surveyed_two : (nodes : List Node) (at : ℕ) (a b r : Extent) → TreeSurveyed nodes at a → TreeSurveyed nodes a.next b →
    r.next ≡ b.next → r.layers ≡ paired a.layers b.layers → TreesSurveyed nodes at r
surveyed_two nodes at a b r s t e k = record {
  forward = omega arith;
  within = omega arith;
  few =
      let p = paired_few a.layers b.layers in
      omega arith;
  formulas = λ f g m q v w.
      let x = s.formula f m v in
      let y = t.formula g q (subst (λ (m : ℕ). FormulaAt nodes m g q) (sym x.0) w) in
      (e ∙ y.0, k ∙ ap₂ paired x.1 y.1);
  expressions = λ f g m q v w.
      let x = s.expression f m v in
      let y = t.expression g q (subst (λ (m : ℕ). ExpressionAt nodes m g q) (sym x.0) w) in
      (e ∙ y.0, k ∙ ap₂ paired x.1 y.1);
}

-- ---- by what the node wants
module _ (nodes : List Node) (at : ℕ) (r : Extent) (room : at < 64) where
  -- a node that wants nothing
  pub surveyed_none : r.next ≡ at + 1 → r.layers ≡ 1 → wants_of (node_at nodes at) ≡ Nothing → TreeSurveyed nodes at r
  surveyed_none e k w = by (node_at nodes at) refl (ap operand_count w)
    where
      by : (n : Node) → node_at nodes at ≡ n → operand_count (wants_of n) ≡ 0 → TreeSurveyed nodes at r
      by True n h = surveyed_true nodes at r room e k n
      by (Label l i) n h = surveyed_label nodes at r room e k l i n
      by (Constant a b) n h = surveyed_constant nodes at r room e k a b n
      by _ n h = absurd (omega arith)

  -- a node that wants one thing
  pub surveyed_one : {k : Kind} → TreeSurveyed nodes (at + 1) r → wants_of (node_at nodes at) ≡ One k → TreeSurveyed nodes at r
  surveyed_one s w = by (node_at nodes at) refl (ap operand_count w)
    where
      by : (n : Node) → node_at nodes at ≡ n → operand_count (wants_of n) ≡ 1 → TreeSurveyed nodes at r
      by Not n h = surveyed_not nodes at r room s n
      by Probability n h = surveyed_probability nodes at r room s n
      by Next n h = surveyed_next nodes at r room s n
      by _ n h = absurd (omega arith)

  -- a node that wants two, of which these are found
  pub surveyed_both : {k : Kind} {a b : Extent} → TreeSurveyed nodes (at + 1) a → TreeSurveyed nodes a.next b → r.next ≡ b.next →
      r.layers ≡ layers_of_two (node_at nodes at) (paired a.layers b.layers) → wants_of (node_at nodes at) ≡ Two k → TreeSurveyed nodes at r
  surveyed_both {a = a} {b = b} first second e l w = by (node_at nodes at) refl (ap operand_count w) l
    where
      -- the two
      t : Extent
      t = record { next = b.next; layers = paired a.layers b.layers }

      s : TreesSurveyed nodes (at + 1) t
      s = surveyed_two nodes (at + 1) a b t first second refl refl

      -- what is found of the two is found of the node
      same : r.layers ≡ t.layers → TreesSurveyed nodes (at + 1) r
      same l = record {
        forward = let h = s.forward in omega (arith, h, e);
        within = let h = s.within in omega (arith, h, e);
        few = let h = s.few in omega (arith, h, e, l);
        formulas = λ f g m q v w. let h = s.formulas f g m q v w in (e ∙ h.0, l ∙ h.1);
        expressions = λ a b m q v w. let h = s.expressions a b m q v w in (e ∙ h.0, l ∙ h.1);
      }

      by : (n : Node) → node_at nodes at ≡ n → operand_count (wants_of n) ≡ 2 → r.layers ≡ layers_of_two n t.layers
          → TreeSurveyed nodes at r
      by And n h l = surveyed_and nodes at r room (same l) n
      by (Compare x) n h l = surveyed_compare nodes at r room (same l) x n
      by Sum n h l = surveyed_sum nodes at r room (same l) n
      by Difference n h l = surveyed_difference nodes at r room (same l) n
      by Product n h l = surveyed_product nodes at r room (same l) n
      by (Until k1 k2) n h l = surveyed_until nodes at t r room s e l k1 k2 n
      by _ n h l = absurd (omega arith)
