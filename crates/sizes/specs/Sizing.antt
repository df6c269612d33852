-- Working: what the functions of this crate promise one another. Nothing here has to be believed.
--
-- What the size rule's walk finds of the trees that stand in the places of a record. A number above 2^62 is kept as
-- 2^62 + 1: it is too large, and so is whatever it is a factor or a summand of, unless the other factor is 0.
use Rattle.std.specs.Prelude.{ℕ, ◌+◌, ◌*◌, ◌^◌, ◌≤◌, Bool, false, ◌||◌, List, ◌≡◌, take}
use Rattle.sentence.specs.declared.Node.{Node}
use Rattle.sentence.specs.declared.Node.TheVariants.{Compare, Probability, Constant, Sum, Difference, Product, Next, Until}
use Rattle.meaning.specs.Tree.{Formula, Expression, PathFormula}
use Rattle.meaning.specs.Named.{count}
use Rattle.meaning.specs.Meaning.{steps_of}
use Rattle.meaning.specs.Size.{size, too_large, exceeds, exceeds_in, exceeds_from}
use Rattle.trees.specs.Standing.{FormulaAt, ExpressionAt, PathAt}
use Rattle.capped.specs.Capping.{capped}
use Rattle.names.specs.Names.{names_between}
use Rattle.sizes.specs.declared.Measure.{Measure}

-- ---- what is found of a node, from what was found of its parts

-- a formula has no d, no m and no steps
abbrev pub unmeasured : (next : ℕ) → Bool → Measure
unmeasured next over = record { next = next; d = 0; m = 0; steps = 0; over = over }

-- an expression's d and m, tested beside what was found of its parts
abbrev pub measured : (next d m : ℕ) → Bool → Measure
measured next d m over = record { next = next; d = d; m = m; steps = 0; over = over || too_large d || too_large m }

-- a path's steps; the probability of the path is tested, not the path
abbrev pub of_path : (next steps : ℕ) → Bool → Measure
of_path next steps over = record { next = next; d = 0; m = 0; steps = steps; over = over }

-- a sum or a difference: d1 × d2 and m1 × d2 + m2 × d1
abbrev pub of_sum : Measure → Measure → Measure
of_sum a b =
    measured b.next (capped (a.d * b.d)) (capped (capped (a.m * b.d) + capped (b.m * a.d))) (a.over || b.over)

-- a product: d1 × d2 and m1 × m2
abbrev pub of_product : Measure → Measure → Measure
of_product a b = measured b.next (capped (a.d * b.d)) (capped (a.m * b.m)) (a.over || b.over)

-- a comparison: m1 × d2 and m2 × d1 are tested
abbrev pub of_comparison : Measure → Measure → Measure
of_comparison a b =
    unmeasured b.next (a.over || b.over || too_large (capped (a.m * b.d)) || too_large (capped (b.m * a.d)))

-- the denominator of a path that stands at a place: D to the power of the variables that its nodes name times its steps
abbrev pub path_denominator : List Node → ℕ → Measure → (D n : ℕ) → ℕ
path_denominator nodes at t D n = capped (D ^ (count (take n (names_between nodes at t.next)) * t.steps))

-- the probability of the path: that as d and as m
abbrev pub of_probability : List Node → ℕ → Measure → (D n : ℕ) → Measure
of_probability nodes at t D n = measured t.next (path_denominator nodes at t D n) (path_denominator nodes at t D n) t.over

-- ---- by how many things the node wants

-- a node that wants nothing
abbrev pub of_none : Node → (at : ℕ) → Measure
of_none (Constant a b) at = measured (at + 1) (capped b) (capped a) false
of_none _ at = unmeasured (at + 1) false

-- the node at a place that wants one thing, from what was found of that
abbrev pub of_one : List Node → (at : ℕ) → Node → Measure → (D n : ℕ) → Measure
of_one nodes at Probability t D n = of_probability nodes (at + 1) t D n
of_one nodes at Next t D n = of_path t.next 1 t.over
of_one nodes at _ t D n = t

-- a node that wants two things, from what was found of both
abbrev pub of_two : Node → Measure → Measure → Measure
of_two (Compare c) a b = of_comparison a b
of_two Sum a b = of_sum a b
of_two Difference a b = of_sum a b
of_two Product a b = of_product a b
of_two (Until k1 k2) a b = of_path b.next k2 (a.over || b.over)
of_two _ a b = unmeasured b.next (a.over || b.over)

-- ---- what the walk finds

-- What is found of the tree at a place, whatever kind it is. The bounds hold of any nodes. Unspecified where no tree
-- stands.
pub record Sizes (nodes : List Node) (at D n : ℕ) (r : Measure) : Type 0 where
  pub forward : at ≤ r.next
  pub within : r.next ≤ 64
  pub formula : (f : Formula) (q : ℕ) → FormulaAt nodes at f q →
      (r.next ≡ q) × (r.over ≡ exceeds f D n) × (r.d ≡ 0) × (r.m ≡ 0)
  pub expression : (a : Expression) (q : ℕ) → ExpressionAt nodes at a q →
      (r.next ≡ q) × (r.over ≡ exceeds_in a D n) × (r.d ≡ capped (size a D n).d) × (r.m ≡ capped (size a D n).m)
  pub path : (w : PathFormula) (q : ℕ) → PathAt nodes at w q →
      (r.next ≡ q) × (r.over ≡ exceeds_from w D n) × (r.steps ≡ steps_of w)
