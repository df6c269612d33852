-- What the walk finds of a node, from what it found of the nodes after it: one law for each node (`sized_true` and so on).
use Prim.Native.Nat.{ℕ, ◌+◌, ◌*◌, ◌^◌, ◌≤◌, ◌<◌}
use mathlib.Core.Bool.{Bool, false, ◌||◌, or_assoc}
use mathlib.Core.List.{List}
use mathlib.Core.Path.{◌≡◌, refl, sym, ap, ap₂, subst, ◌∙◌}
use native.Mathlib.Omega.{arith}
use lib.ListN.{take}
use Rattle.sentence.specs.declared.Relation as Spelled
use Rattle.sentence.specs.declared.Node.{Node}
use Rattle.sentence.specs.declared.Node.TheVariants.{True, Label, Not, And, Compare, Probability, Constant}
use Rattle.sentence.specs.declared.Node.TheVariants.{Sum, Difference, Product, Next, Until}
use Rattle.sentence.specs.Grammar.{wants_of}
use Rattle.meaning.specs.Tree.{Formula, Expression, PathFormula, sum, difference, product}
use Rattle.meaning.specs.Named.{Some, count, v}
use Rattle.meaning.specs.Meaning.{steps_of, denominator}
use Rattle.meaning.proofs.Steps.{denominator_steps}
use Rattle.meaning.specs.Size.{size, add_s, mul_s, too_large, large_size, large_cross, exceeds, exceeds_in, exceeds_from}
use Rattle.trees.specs.Wanted.{operand_count}
use Rattle.trees.specs.Standing.{node_at, FormulaAt, ExpressionAt, PathAt}
use Rattle.trees.proofs.Cases.{FormulaCase, ExpressionCase, PathCase, formula_case, expression_case, path_case}
use Rattle.names.specs.Names.{names_between}
use Rattle.names.proofs.Labels.{path_names}
use Rattle.capped.specs.Capping.{capped}
use Rattle.capped.proofs.Capped.{capped_times, capped_plus, capped_too}
use Rattle.sizes.specs.declared.Measure.{Measure}
use Rattle.sizes.specs.Sizing.{unmeasured, measured, of_path, of_sum, of_product, of_comparison, path_denominator, of_probability}
use Rattle.sizes.specs.Sizing.{of_none, of_one, of_two, Sizes}

-- a product of capped numbers
prod : (x y : ℕ) {u v : ℕ} → u ≡ capped x → v ≡ capped y → capped (u * v) ≡ capped (x * y)
prod x y e f = ap₂ (λ (a b : ℕ). capped (a * b)) e f ∙ capped_times x y

-- the test for too large of a capped number
too : (x : ℕ) {u : ℕ} → u ≡ capped x → too_large u ≡ too_large x
too x e = ap too_large e ∙ capped_too x

-- two numbers are tested beside what is found of the parts
tested : {o p : Bool} (x y : ℕ) {u v : ℕ} → o ≡ p → u ≡ capped x → v ≡ capped y →
    ((o || too_large u) || too_large v) ≡ (p || (too_large x || too_large y))
tested {o} {p} x y {u} {v} e f g =
    or_assoc o (too_large u) (too_large v) ∙ ap₂ ◌||◌ e (ap₂ ◌||◌ (too x f) (too y g))

-- the same of an equal measure
pub sized_as : {nodes : List Node} {at D n : ℕ} {r r' : Measure} → r ≡ r' → Sizes nodes at D n r' → Sizes nodes at D n r
sized_as {nodes} {at} {D} {n} e s = subst (λ (r : Measure). Sizes nodes at D n r) (sym e) s

-- What is found of two trees, one after another.
pub record SizesTwo (nodes : List Node) (at D n : ℕ) (t u : Measure) : Type 0 where
  pub forward : at ≤ u.next
  pub within : u.next ≤ 64
  pub formulas : (f g : Formula) (m q : ℕ) → FormulaAt nodes at f m → FormulaAt nodes m g q →
      (u.next ≡ q) × ((t.over || u.over) ≡ (exceeds f D n || exceeds g D n))
  pub expressions : (a b : Expression) (m q : ℕ) → ExpressionAt nodes at a m → ExpressionAt nodes m b q →
      (u.next ≡ q) × ((t.over || u.over) ≡ (exceeds_in a D n || exceeds_in b D n)) × (t.d ≡ capped (size a D n).d) ×
      (t.m ≡ capped (size a D n).m) × (u.d ≡ capped (size b D n).d) × (u.m ≡ capped (size b D n).m)

module _ (nodes : List Node) (at D n : ℕ) where
  -- what is found of a formula, an expression, a path that ends at q
  abbrev OfFormula : Measure → Formula → ℕ → Type 0
  OfFormula r f q = (r.next ≡ q) × (r.over ≡ exceeds f D n) × (r.d ≡ 0) × (r.m ≡ 0)

  abbrev OfExpression : Measure → Expression → ℕ → Type 0
  OfExpression r a q =
      (r.next ≡ q) × (r.over ≡ exceeds_in a D n) × (r.d ≡ capped (size a D n).d) × (r.m ≡ capped (size a D n).m)

  abbrev OfPath : Measure → PathFormula → ℕ → Type 0
  OfPath r w q = (r.next ≡ q) × (r.over ≡ exceeds_from w D n) × (r.steps ≡ steps_of w)

  -- by the node at the place
  by_node : (r : Measure) (x : Node) → node_at nodes at ≡ x → at ≤ r.next → r.next ≤ 64 →
      ((f : Formula) (q : ℕ) → FormulaCase nodes at x f q → OfFormula r f q) →
      ((a : Expression) (q : ℕ) → ExpressionCase nodes at x a q → OfExpression r a q) →
      ((w : PathFormula) (q : ℕ) → PathCase nodes at x w q → OfPath r w q) → Sizes nodes at D n r
  by_node r x e g l f a w = record {
    forward = g;
    within = l;
    formula = λ y q h. f y q (formula_case nodes at x e h);
    expression = λ y q h. a y q (expression_case nodes at x e h);
    path = λ y q h. w y q (path_case nodes at x e h);
  }

  module _ (room : at < 64) where
    sized_true : node_at nodes at ≡ True → Sizes nodes at D n (unmeasured (at + 1) false)
    unfolding exceeds
    sized_true x = by_node (unmeasured (at + 1) false) True x (omega arith) (omega arith)
        (λ f q w. (sym w.1, ap (λ (f : Formula). exceeds f D n) (sym w.0), refl, refl))
        (λ a q w. absurd w) (λ a q w. absurd w)

    sized_label : (l i : ℕ) → node_at nodes at ≡ Label l i → Sizes nodes at D n (unmeasured (at + 1) false)
    unfolding exceeds
    sized_label l i x = by_node (unmeasured (at + 1) false) (Label l i) x (omega arith) (omega arith)
        (λ f q w. (sym w.1, ap (λ (f : Formula). exceeds f D n) (sym w.0), refl, refl))
        (λ a q w. absurd w) (λ a q w. absurd w)

    sized_constant : (a b : ℕ) → node_at nodes at ≡ Constant a b →
        Sizes nodes at D n (measured (at + 1) (capped b) (capped a) false)
    unfolding exceeds_in size large_size
    sized_constant a b x =
        by_node (measured (at + 1) (capped b) (capped a) false) (Constant a b) x (omega arith) (omega arith)
        (λ f q w. absurd w)
        (λ c q w. (
          sym w.1,
          tested {o = false} {p = false} b a refl refl refl ∙ ap (λ (c : Expression). exceeds_in c D n) (sym w.0),
          ap (λ (c : Expression). capped (size c D n).d) (sym w.0),
          ap (λ (c : Expression). capped (size c D n).m) (sym w.0),
        ))
        (λ a q w. absurd w)

    module _ (t : Measure) (s : Sizes nodes (at + 1) D n t) where
      sized_not : node_at nodes at ≡ Not → Sizes nodes at D n t
      unfolding exceeds
      sized_not x = by_node t Not x (omega arith) s.within
          (λ f q w.
          let h = s.formula w.0 q w.2 in
          (h.0, h.1 ∙ ap (λ (f : Formula). exceeds f D n) (sym w.1), h.2, h.3))
          (λ a q w. absurd w) (λ a q w. absurd w)

      -- the denominator of the path that stands there
      path_d : n ≤ 4 → (w : PathFormula) (q : ℕ) → PathAt nodes (at + 1) w q → t.next ≡ q → t.steps ≡ steps_of w →
          path_denominator nodes (at + 1) t D n ≡ capped (denominator w D n)
      unfolding v
      path_d few w q h ends steps =
          ap₂ (λ (k x : ℕ). capped (D ^ (count (take n (names_between nodes (at + 1) k)) * x))) ends steps ∙
          ap (λ (bs : Some). capped (D ^ (count bs * steps_of w))) (path_names nodes w (at + 1) q n h few) ∙
          ap capped (sym (denominator_steps w D n))

      sized_probability : n ≤ 4 → node_at nodes at ≡ Probability → Sizes nodes at D n (of_probability nodes (at + 1) t D n)
      unfolding exceeds_in size large_size
      sized_probability few x =
          by_node (of_probability nodes (at + 1) t D n) Probability x (omega arith) (omega arith) (λ f q w. absurd w)
          (λ c q w.
          let h = s.path w.0 q w.2 in
          let d = denominator w.0 D n in
          let e = path_d few w.0 q w.2 h.0 h.2 in (
            h.0,
            tested d d h.1 e e ∙ ap (λ (c : Expression). exceeds_in c D n) (sym w.1),
            e ∙ ap (λ (c : Expression). capped (size c D n).d) (sym w.1),
            e ∙ ap (λ (c : Expression). capped (size c D n).m) (sym w.1),
          ))
          (λ a q w. absurd w)

      sized_next : node_at nodes at ≡ Next → Sizes nodes at D n (of_path t.next 1 t.over)
      unfolding exceeds_from
      sized_next x =
          by_node (of_path t.next 1 t.over) Next x (omega arith) (omega arith)
          (λ f q w. absurd w) (λ a q w. absurd w)
          (λ c q w.
          let h = s.formula w.0 q w.2 in (
            h.0,
            h.1 ∙ ap (λ (c : PathFormula). exceeds_from c D n) (sym w.1),
            ap (λ (c : PathFormula). steps_of c) (sym w.1),
          ))

    module _ (t u : Measure) (s : SizesTwo nodes (at + 1) D n t u) where
      sized_and : node_at nodes at ≡ And → Sizes nodes at D n (unmeasured u.next (t.over || u.over))
      unfolding exceeds
      sized_and x = by_node (unmeasured u.next (t.over || u.over)) And x (omega arith) (omega arith)
          (λ f q w.
          let h = s.formulas w.0 w.1 w.2 q w.4 w.5 in
          (h.0, h.1 ∙ ap (λ (f : Formula). exceeds f D n) (sym w.3), refl, refl))
          (λ a q w. absurd w) (λ a q w. absurd w)

      sized_compare : (c : Spelled.Relation) → node_at nodes at ≡ Compare c → Sizes nodes at D n (of_comparison t u)
      unfolding exceeds large_cross
      sized_compare c x = by_node (of_comparison t u) (Compare c) x (omega arith) (omega arith)
          (λ f q w.
          let h = s.expressions w.1 w.2 w.3 q w.6 w.7 in
          let a = size w.1 D n in
          let b = size w.2 D n in (
            h.0,
            tested (a.m * b.d) (b.m * a.d) h.1 (prod a.m b.d h.3 h.4)
                (prod b.m a.d h.5 h.2) ∙
                ap (λ (f : Formula). exceeds f D n) (sym w.4),
            refl,
            refl,
          ))
          (λ a q w. absurd w) (λ a q w. absurd w)

      sized_until : (k1 k2 : ℕ) → node_at nodes at ≡ Until k1 k2 → Sizes nodes at D n (of_path u.next k2 (t.over || u.over))
      unfolding exceeds_from
      sized_until k1 k2 x =
          by_node (of_path u.next k2 (t.over || u.over)) (Until k1 k2) x (omega arith) (omega arith)
          (λ f q w. absurd w) (λ a q w. absurd w)
          (λ c q w.
          let h = s.formulas w.0 w.1 w.2 q w.4 w.5 in (
            h.0,
            h.1 ∙ ap (λ (c : PathFormula). exceeds_from c D n) (sym w.3),
            ap (λ (c : PathFormula). steps_of c) (sym w.3),
          ))

      -- what is found of an expression that is made of two others, from its d and m
      made_of_two : (d m : ℕ) (make : Expression → Expression → Expression) →
          ((a b : Expression) →
          exceeds_in (make a b) D n ≡ (exceeds_in a D n || exceeds_in b D n || large_size (size (make a b) D n))) →
          ((a b : Expression) (p q : ℕ) → ExpressionAt nodes (at + 1) a p → ExpressionAt nodes p b q →
          (d ≡ capped (size (make a b) D n).d) × (m ≡ capped (size (make a b) D n).m)) →
          (c : Expression) (q : ℕ) →
          (a : Expression) × (b : Expression) × (p : ℕ) × (c ≡ make a b) × ExpressionAt nodes (at + 1) a p ×
          ExpressionAt nodes p b q → OfExpression (measured u.next d m (t.over || u.over)) c q
      unfolding large_size
      made_of_two d m make exceeding found c q (a, b, p, is, v, w) =
          let h = s.expressions a b p q v w in
          let g = found a b p q v w in (
            h.0,
            tested _ _ h.1 g.0 g.1 ∙ sym (exceeding a b) ∙ ap (λ (c : Expression). exceeds_in c D n) (sym is),
            g.0 ∙ ap (λ (c : Expression). capped (size c D n).d) (sym is),
            g.1 ∙ ap (λ (c : Expression). capped (size c D n).m) (sym is),
          )

      -- a sum and a difference have one size
      sum_sizes : (a b : Expression) (p q : ℕ) → ExpressionAt nodes (at + 1) a p → ExpressionAt nodes p b q →
          ((of_sum t u).d ≡ capped (add_s (size a D n) (size b D n)).d) ×
          ((of_sum t u).m ≡ capped (add_s (size a D n) (size b D n)).m)
      unfolding add_s
      sum_sizes a b p q v w =
          let h = s.expressions a b p q v w in
          let x = size a D n in
          let y = size b D n in (
            prod x.d y.d h.2 h.4,
            ap₂ (λ (i j : ℕ). capped (i + j)) (prod x.m y.d h.3 h.4) (prod y.m x.d h.5 h.2) ∙
                capped_plus (x.m * y.d) (y.m * x.d),
          )

      sized_sum : node_at nodes at ≡ Sum → Sizes nodes at D n (of_sum t u)
      unfolding exceeds_in size
      sized_sum x = by_node (of_sum t u) Sum x (omega arith) (omega arith) (λ f q w. absurd w)
          (made_of_two (of_sum t u).d (of_sum t u).m sum (λ a b. refl) sum_sizes) (λ a q w. absurd w)

      sized_difference : node_at nodes at ≡ Difference → Sizes nodes at D n (of_sum t u)
      unfolding exceeds_in size
      sized_difference x = by_node (of_sum t u) Difference x (omega arith) (omega arith) (λ f q w. absurd w)
          (made_of_two (of_sum t u).d (of_sum t u).m difference (λ a b. refl) sum_sizes) (λ a q w. absurd w)

      sized_product : node_at nodes at ≡ Product → Sizes nodes at D n (of_product t u)
      unfolding exceeds_in size mul_s
      sized_product x = by_node (of_product t u) Product x (omega arith) (omega arith) (λ f q w. absurd w)
          (made_of_two (of_product t u).d (of_product t u).m product (λ a b. refl)
          (λ a b p q v w.
          let h = s.expressions a b p q v w in (
            prod (size a D n).d (size b D n).d h.2 h.4,
            prod (size a D n).m (size b D n).m h.3 h.5,
          )))
          (λ a q w. absurd w)

-- two trees, one after another
sized_two : {nodes : List Node} {at D n : ℕ} {a b : Measure} → Sizes nodes at D n a → Sizes nodes a.next D n b →
    SizesTwo nodes at D n a b
sized_two {nodes} s t = record {
  forward = omega arith;
  within = t.within;
  formulas = λ f g m q v w.
      let x = s.formula f m v in
      let y = t.formula g q (subst (λ (m : ℕ). FormulaAt nodes m g q) (sym x.0) w) in
      (y.0, ap₂ ◌||◌ x.1 y.1);
  expressions = λ f g m q v w.
      let x = s.expression f m v in
      let y = t.expression g q (subst (λ (m : ℕ). ExpressionAt nodes m g q) (sym x.0) w) in
      (y.0, ap₂ ◌||◌ x.1 y.1, x.2, x.3, y.2, y.3);
}

-- ---- by how many things the node wants

module _ {nodes : List Node} {at D n : ℕ} (room : at < 64) where
  -- a node that wants nothing
  pub sized_none : (x : Node) → node_at nodes at ≡ x → operand_count (wants_of x) ≡ 0 → Sizes nodes at D n (of_none x at)
  sized_none True e w = sized_true nodes at D n room e
  sized_none (Label l i) e w = sized_label nodes at D n room l i e
  sized_none (Constant a b) e w = sized_constant nodes at D n room a b e
  sized_none _ e w = absurd (omega arith)

  -- a node that wants one thing
  pub sized_one : n ≤ 4 → (x : Node) → node_at nodes at ≡ x → operand_count (wants_of x) ≡ 1 → {t : Measure} →
      Sizes nodes (at + 1) D n t → Sizes nodes at D n (of_one nodes at x t D n)
  sized_one few Not e w {t} s = sized_not nodes at D n room t s e
  sized_one few Probability e w {t} s = sized_probability nodes at D n room t s few e
  sized_one few Next e w {t} s = sized_next nodes at D n room t s e
  sized_one few _ e w s = absurd (omega arith)

  -- a node that wants two
  pub sized_both : (x : Node) → node_at nodes at ≡ x → operand_count (wants_of x) ≡ 2 → {t u : Measure} →
      Sizes nodes (at + 1) D n t → Sizes nodes t.next D n u → Sizes nodes at D n (of_two x t u)
  sized_both And e w {t} {u} s s' = sized_and nodes at D n room t u (sized_two s s') e
  sized_both (Compare c) e w {t} {u} s s' = sized_compare nodes at D n room t u (sized_two s s') c e
  sized_both Sum e w {t} {u} s s' = sized_sum nodes at D n room t u (sized_two s s') e
  sized_both Difference e w {t} {u} s s' = sized_difference nodes at D n room t u (sized_two s s') e
  sized_both Product e w {t} {u} s s' = sized_product nodes at D n room t u (sized_two s s') e
  sized_both (Until k1 k2) e w {t} {u} s s' = sized_until nodes at D n room t u (sized_two s s') k1 k2 e
  sized_both _ e w s s' = absurd (omega arith)
