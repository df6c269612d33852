-- A path's node: what its formulas are evaluated with, and what the layer and the denominator are after the call at the
-- node.
use Prim.Native.Nat.{ℕ, ◌+◌, ◌*◌, ◌^◌, ◌≤◌, max}
use mathlib.Core.Bool.{false}
use mathlib.Core.List.{List}
use mathlib.Core.Path.{◌≡◌, refl, sym, ap, ap₂, subst, ◌∙◌}
use native.Mathlib.Nat.{le_trans, le_of_eq, mul-one}
use native.Mathlib.Omega.{arith}
use lib.ListN.{length}
use lib.Seq.{get_or-drop}
use Rattle.sentence.specs.declared.Kind.TheVariants.{State, Path as PathKind}
use Rattle.sentence.specs.declared.Node.{Node}
use Rattle.sentence.specs.declared.Node.TheVariants.{Next, Until}
use Rattle.meaning.specs.Chain.{Chain}
use Rattle.meaning.specs.Tree.{Formula, PathFormula, next, until}
use Rattle.meaning.specs.Named.{Some, count, named, v}
use Rattle.meaning.proofs.Named.{named_length}
use Rattle.meaning.specs.Meaning.{holds, denominator}
use Rattle.meaning.specs.Size.{size_limit, exceeds_from}
use Rattle.layers.specs.Held.{most_variables}
use Rattle.steps.specs.Steps.{StepFits}
use Rattle.untils.specs.Untils.{UntilFits}
use Rattle.steps.proofs.Joint.{stepped_by}
use Rattle.untils.proofs.Repeating.{repeated_by}
use Rattle.untils.proofs.Paths.{truth_small, next_layer, until_layer}
use Rattle.trees.specs.Need.{paired, need, need_from}
use Rattle.trees.specs.Standing.{node_at, PathAt}
use Rattle.trees.proofs.Cases.{path_case}
use Rattle.trees.proofs.Parts.{path_ends}
use Rattle.names.proofs.Labels.{path_names, path_forward}
use Rattle.layers.specs.declared.Setting.{Setting}
use Rattle.evaluate.specs.Evaluation.{Fixed, Evaluated, EvaluatedTwo, TreeReady, TreesReady, TreeDone, TreesDone}
use Rattle.path_steps.specs.Within.{named_at, NextFits, NextTaken, WindowFits, WindowTaken}
use Rattle.evaluate.proofs.Needing.{room_of}
use Rattle.evaluate.proofs.Fixing.{to_chain, to_setting, tuple_count_power}
use Rattle.evaluate.proofs.Trees.{tree_ready, trees_ready, tree_room, known, formulas_small, by_case}
use Rattle.evaluate.proofs.Operands.{trees_left}

-- the variables that step are those that occur in whatever path stands at the places
those_of : (nodes : List Node) (g : Setting) (at : ℕ) → g.variables ≤ most_variables → {r q : ℕ} (p p' : PathFormula) →
    PathAt nodes at p q → r ≡ q → p ≡ p' → named_at nodes g at r ≡ named p' g.variables
those_of nodes g at few {r} {q} p p' stands ends e =
    ap (λ (x : ℕ). named_at nodes g at x) ends ∙
    path_names nodes p at q g.variables stands few ∙
    ap (λ (p : PathFormula). named p g.variables) e

module _ {nodes : List Node} {g : Setting} {masks : List ℕ} {rows : List (List ℕ)} {at : ℕ} {w : List ℕ}
    (ready : TreeReady PathKind nodes g masks rows at w) where
  -- the chain's D is the setting's, so the path's denominator is at most 2^62 by it
  setting_small : (p : PathFormula) → ready.tree ≡ p → denominator p g.d g.variables ≤ size_limit
  setting_small p e =
      le_trans (le_of_eq (ap (λ (D : ℕ). denominator p D g.variables) (sym ready.fixed.sums)))
      (subst (λ (p : PathFormula). denominator p ready.chain.D g.variables ≤ size_limit) e ready.small)

  -- its nodes stand at the places from `at` on, and the variables that they name are those that occur in it
  path_starts : {r : ℕ} → r ≡ ready.end → at ≤ r
  path_starts ends = let h = path_forward nodes ready.tree at ready.end ready.stands in omega (arith, ends)

  path_within : {r : ℕ} → r ≡ ready.end → r ≤ 64
  path_within ends = let h = path_ends nodes ready.tree at ready.end ready.stands in omega (arith, ends)

  path_named : {r : ℕ} (p : PathFormula) → ready.tree ≡ p → r ≡ ready.end → named_at nodes g at r ≡ named p g.variables
  path_named p e ends = those_of nodes g at ready.few ready.tree p ready.stands ends e

  module _ (e : node_at nodes at ≡ Next) where
    -- what the formula of a next asks
    pub next_ready : TreeReady State nodes g masks rows (at + 1) w
    unfolding exceeds_from need_from
    next_ready =
        let it = path_case nodes at Next e ready.stands in
        let h = known ready it.1 in
        tree_ready ready.fixed ready.few State it.0 ready.end it.2 h.0 h.1 (omega arith) h.2

    -- what the step of a next asks of the formula's layer
    pub stepping_ready : {mid : List ℕ} {r : ℕ} → TreeDone State nodes g masks rows (at + 1) mid r 1 → length mid ≡ length w →
        NextFits nodes g rows at r mid
    unfolding exceeds_from denominator v
    stepping_ready {mid} {r} done long =
        let c = ready.chain in
        let n = g.variables in
        let it = path_case nodes at Next e ready.stands in
        let p = next it.0 in
        let h = done.each c it.0 ready.end ready.fixed it.2 (known ready it.1).1 in
        let those = path_named p it.1 h.0 in
        let count-tuples = tuple_count_power ready.fixed in
        let weighed = ready.fixed.weighed in
        let room = tree_room ready in
        record {
          forward = path_starts h.0;
          within = path_within h.0;
          weighed = weighed;
          step = subst (λ (bs : Some). StepFits rows g.states n bs g.tuples mid) (sym those) (record {
            chain = c;
            holds = ready.fixed.held;
            weighed = omega (arith, ready.fixed.sums);
            sizes = ready.fixed.sizes;
            few = ready.few;
            each = named_length p n;
            room = omega arith;
            bound = 1;
            small = λ k l. truth_small (λ t. holds it.0 c n t) h.2 k (omega arith);
            fits = le_trans (le_of_eq (mul-one (c.D ^ v p n)))
                (subst (λ (p : PathFormula). denominator p c.D n ≤ size_limit) it.1 ready.small);
          });
          fits = le_trans (le_of_eq (ap (λ (bs : Some). g.d ^ count bs) those)) (setting_small p it.1);
        }

  module _ (k1 k2 : ℕ) (e : node_at nodes at ≡ Until k1 k2) where
    -- what the formulas of an until ask
    pub until_ready : TreesReady State nodes g masks rows (at + 1) w
    unfolding exceeds_from need_from
    until_ready =
        let it = path_case nodes at (Until k1 k2) e ready.stands in
        let h = known ready it.3 in
        let layers = paired (need it.0) (need it.1) in
        trees_ready ready.fixed ready.few State it.0 it.1 it.2 ready.end it.4 it.5 h.0.2
        (formulas_small it.0 it.1 ready.chain.D g.variables h.1) (omega arith, omega arith)
        (room_of {k = layers} {m = max 3 layers} g.tuples (omega arith) h.2)

    -- the window's ends
    window : (k1 ≤ k2) × (k2 ≤ 60)
    window =
        let range = (known ready (path_case nodes at (Until k1 k2) e ready.stands).3).0 in
        (range.0, range.1)

    -- room for a third layer
    three_room : g.tuples + g.tuples + g.tuples ≤ length w
    unfolding need_from
    three_room =
        let it = path_case nodes at (Until k1 k2) e ready.stands in
        let p = room_of {k = 3} {m = max 3 (paired (need it.0) (need it.1))} g.tuples (omega arith) (known ready it.3).2 in
        omega arith

    -- what an until asks of the two layers
    pub taking_ready : {mid : List ℕ} {r x y : ℕ} → TreesDone State nodes g masks rows (at + 1) mid r x y → length mid ≡ length w →
        WindowFits nodes g rows k1 k2 at r mid
    unfolding denominator v until_ready trees_ready
    taking_ready {mid} {r} done long =
        let c = ready.chain in
        let n = g.variables in
        let it = path_case nodes at (Until k1 k2) e ready.stands in
        let p = until k1 k2 it.0 it.1 in
        let h = trees_left until_ready done in
        let those = path_named p it.3 h.0 in
        let count-tuples = tuple_count_power ready.fixed in
        let room = three_room in
        record {
          forward = path_starts h.0;
          within = path_within h.0;
          last = window.1;
          until = subst (λ (bs : Some). UntilFits rows g.states n bs (count bs) g.tuples g.d k1 k2 mid) (sym those) (record {
            chain = c;
            holds = ready.fixed.held;
            weighed = ready.fixed.weighed;
            sums = ready.fixed.sums;
            sizes = ready.fixed.sizes;
            room = omega arith;
            ones = λ k l. le_trans (le_of_eq (sym (get_or-drop g.tuples mid k 0)))
                (truth_small (λ t. holds it.1 c n t) h.4 k (omega arith));
            window = window.0;
            few = ready.few;
            each = named_length p n;
            counted = refl;
            fits = setting_small p it.3;
          });
        }

-- ---- what is left, by the node at the place
module _ {nodes : List Node} {g : Setting} {masks : List ℕ} {rows : List (List ℕ)} {at : ℕ} {mid after : List ℕ} {r b : ℕ} where
  -- of a next, by what is left of its formula
  next_left : {c : Chain} → Fixed c masks rows g → (f : Formula) (q : ℕ) → named_at nodes g at r ≡ named (next f) g.variables →
      Evaluated State g c f q mid r 1 → NextTaken nodes g rows at r mid after b → Evaluated PathKind g c (next f) q after r b
  unfolding denominator v
  next_left fixed f q those h taken = (
    h.0,
    taken.bottom ∙ ap₂ (λ (D : ℕ) (bs : Some). D ^ count bs) (sym fixed.sums) those,
    to_chain fixed (next_layer fixed.held f (to_setting fixed h.2) (stepped_by those taken.stepped)),
  )

  -- of an until, by what is left of its two
  until_left : {c : Chain} {x y : ℕ} → Fixed c masks rows g → (k1 k2 : ℕ) (f h : Formula) (q : ℕ) →
      named_at nodes g at r ≡ named (until k1 k2 f h) g.variables → EvaluatedTwo State g c f h q mid r x y →
      WindowTaken nodes g rows k1 k2 at r mid after b → Evaluated PathKind g c (until k1 k2 f h) q after r b
  unfolding denominator v
  until_left fixed k1 k2 f h q those two taken = (
    two.0,
    taken.bottom ∙ ap₂ (λ (D : ℕ) (bs : Some). D ^ (count bs * k2)) (sym fixed.sums) those,
    to_chain fixed (until_layer fixed.held f (to_setting fixed two.3) h (to_setting fixed two.4) fixed.sums
        (repeated_by those taken.taken)),
  )

  module _ (few : g.variables ≤ most_variables) where
    -- next
    pub next_done : node_at nodes at ≡ Next → TreeDone State nodes g masks rows (at + 1) mid r 1 → NextTaken nodes g rows at r mid after b →
        TreeDone PathKind nodes g masks rows at after r b
    unfolding exceeds_from
    next_done e done taken = by_case Next e
        (λ c p q fixed stands it fits.
        let small = subst (λ (p : PathFormula). exceeds_from p c.D g.variables ≡ false) it.1 fits in
        let h = done.each c it.0 q fixed it.2 small in
        let those = those_of nodes g at few p (next it.0) stands h.0 it.1 in
        (next it.0, it.1, next_left fixed it.0 q those h taken))

    -- until
    pub until_done : (k1 k2 : ℕ) {x y : ℕ} → node_at nodes at ≡ Until k1 k2 → TreesDone State nodes g masks rows (at + 1) mid r x y →
        WindowTaken nodes g rows k1 k2 at r mid after b → TreeDone PathKind nodes g masks rows at after r b
    unfolding exceeds_from
    until_done k1 k2 e done taken = by_case (Until k1 k2) e
        (λ c p q fixed stands it fits.
        let small = formulas_small it.0 it.1 c.D g.variables
        (subst (λ (p : PathFormula). exceeds_from p c.D g.variables ≡ false) it.3 fits) in
        let h = done.each c it.0 it.1 it.2 q fixed it.4 it.5 small.0 small.1 in
        let those = those_of nodes g at few p (until k1 k2 it.0 it.1) stands h.0 it.3 in
        (until k1 k2 it.0 it.1, it.3, until_left fixed k1 k2 it.0 it.1 q those h taken))
