-- Evaluation meets its contracts, node by node: what the operands are evaluated with, and what the call at the node
-- leaves, are laws about lists and records. The measure is the number of places left, counted four times.
use native.Mathlib.Omega.{arith}
use Rattle.fractions.specs.declared.Operation.TheVariants.{Sum, Difference, Product}
use Rattle.evaluate.proofs.Trees.{next_fits, to_operand, to_operands, to_operation, tree_room}
use Rattle.evaluate.proofs.Expressions.{probability_ready, operation_ready, combining_ready, bottoms_small, combined_done}
use Rattle.evaluate.proofs.Expressions.{probability_done, constant_done, operation_done}
use Rattle.evaluate.proofs.Formulas.{label_ready, not_ready, and_ready, compare_ready, comparing_ready}
use Rattle.evaluate.proofs.Formulas.{true_done, label_done, not_done, and_done, compare_done}
use Rattle.evaluate.proofs.Operands.{trees_inside, trees_room, comes_first, comes_then, both_run, both_room}
use Rattle.evaluate.proofs.Operands.{trees_standing, trees_exchanged}
use Rattle.evaluate.proofs.Others.{no_formula, no_expression, no_path}
use Rattle.evaluate.proofs.Pathways.{next_ready, stepping_ready, until_ready, taking_ready, next_done, until_done}
use Rattle.evaluate.proofs.Places.{small_fits, room_kept}
use Rattle.evaluate.proofs.nodes.+nodes.Goals as goal

-- ---- two expressions, and what an operation makes of them

pub combined-combine-requires : goal.combined-combine-requires
combined-combine-requires t c = combining_ready c.operands.ensures c.requires c.operands.auto.work

pub combined-overflow_mul-result : goal.combined-overflow_mul-result
combined-overflow_mul-result t c = small_fits _ (bottoms_small c.operands.ensures c.requires)

pub combined-returns : goal.combined-returns
combined-returns t c = combined_done c.operands.ensures c.combine.ensures

-- ---- an expression

pub expression-overflow_add-result : goal.expression-overflow_add-result
expression-overflow_add-result t c = next_fits c.requires

pub expression-overflow_add-at-in-Sum : goal.expression-overflow_add-at-in-Sum
expression-overflow_add-at-in-Sum t c = next_fits c.requires

pub expression-overflow_add-at-in-Difference : goal.expression-overflow_add-at-in-Difference
expression-overflow_add-at-in-Difference t c = next_fits c.requires

pub expression-overflow_add-at-in-Product : goal.expression-overflow_add-at-in-Product
expression-overflow_add-at-in-Product t c = next_fits c.requires

pub expression-path-requires : goal.expression-path-requires
expression-path-requires t c = (to_operand c.requires c.decreases, probability_ready c.requires c.in-Probability.is)

pub expression-constant-requires : goal.expression-constant-requires
expression-constant-requires t c = tree_room c.requires

pub expression-combined-requires : goal.expression-combined-requires
expression-combined-requires t c = (to_operation c.requires c.decreases, operation_ready c.requires Sum c.in-Sum.is)

pub expression-combined-requires-in-Difference : goal.expression-combined-requires-in-Difference
expression-combined-requires-in-Difference t c =
    (to_operation c.requires c.decreases, operation_ready c.requires Difference c.in-Difference.is)

pub expression-combined-requires-in-Product : goal.expression-combined-requires-in-Product
expression-combined-requires-in-Product t c = (to_operation c.requires c.decreases, operation_ready c.requires Product c.in-Product.is)

pub expression-returns-in-Probability : goal.expression-returns-in-Probability
expression-returns-in-Probability t c = probability_done c.in-Probability.is c.path.ensures

pub expression-returns-in-Constant : goal.expression-returns-in-Constant
expression-returns-in-Constant t c = constant_done c.in-Constant.top c.in-Constant.bottom c.in-Constant.is c.constant.ensures

pub expression-returns-in-Sum : goal.expression-returns-in-Sum
expression-returns-in-Sum t c = operation_done Sum c.in-Sum.is c.combined.ensures

pub expression-returns-in-Difference : goal.expression-returns-in-Difference
expression-returns-in-Difference t c = operation_done Difference c.in-Difference.is c.combined-in-Difference.ensures

pub expression-returns-in-Product : goal.expression-returns-in-Product
expression-returns-in-Product t c = operation_done Product c.in-Product.is c.combined-in-Product.ensures

pub expression-returns-in_default : goal.expression-returns-in_default
expression-returns-in_default t c =
    let arm = c.in_default in
    no_expression arm.not-Probability arm.not-Constant arm.not-Sum arm.not-Difference arm.not-Product

-- ---- a path

pub path-state_formula-next-requires : goal.path-state_formula-next-requires
path-state_formula-next-requires t c = (to_operand c.requires c.decreases, next_ready c.requires c.in-Next.is)

pub path-next_within-bottom-requires : goal.path-next_within-bottom-requires
path-next_within-bottom-requires t c =
    stepping_ready c.requires c.in-Next.is c.state_formula-next.ensures c.state_formula-next.auto.work

pub path-operands-requires : goal.path-operands-requires
path-operands-requires t c =
    (to_operands c.requires c.decreases, until_ready c.requires c.in-Until.from c.in-Until.to c.in-Until.is)

pub path-until_within-bottom-requires : goal.path-until_within-bottom-requires
path-until_within-bottom-requires t c =
    taking_ready c.requires c.in-Until.from c.in-Until.to c.in-Until.is c.operands.ensures c.operands.auto.work

pub path-returns-in-Next : goal.path-returns-in-Next
path-returns-in-Next t c =
    next_done c.requires.few c.in-Next.is c.state_formula-next.ensures c.next_within-bottom.ensures

pub path-returns-in-Until : goal.path-returns-in-Until
path-returns-in-Until t c =
    until_done c.requires.few c.in-Until.from c.in-Until.to c.in-Until.is c.operands.ensures c.until_within-bottom.ensures

pub path-returns-in_default : goal.path-returns-in_default
path-returns-in_default t c = no_path c.in_default.not-Next c.in_default.not-Until

-- ---- a state formula

pub state_formula-always-requires : goal.state_formula-always-requires
state_formula-always-requires t c = tree_room c.requires

pub state_formula-overflow_add-result : goal.state_formula-overflow_add-result
state_formula-overflow_add-result t c = next_fits c.requires

pub state_formula-label-requires : goal.state_formula-label-requires
state_formula-label-requires t c = label_ready c.requires c.in-Label.l c.in-Label.i c.in-Label.is

pub state_formula-state_formula-next-requires : goal.state_formula-state_formula-next-requires
state_formula-state_formula-next-requires t c = (to_operand c.requires c.decreases, not_ready c.requires c.in-Not.is)

pub state_formula-negated-requires : goal.state_formula-negated-requires
state_formula-negated-requires t c = room_kept (tree_room c.requires) c.state_formula-next.auto.work

pub state_formula-operands-requires : goal.state_formula-operands-requires
state_formula-operands-requires t c = (to_operands c.requires c.decreases, and_ready c.requires c.in-And.is)

pub state_formula-both-requires : goal.state_formula-both-requires
state_formula-both-requires t c = room_kept (trees_room (and_ready c.requires c.in-And.is)) c.operands.auto.work

pub state_formula-operands-requires-in-Compare : goal.state_formula-operands-requires-in-Compare
state_formula-operands-requires-in-Compare t c =
    (to_operands c.requires c.decreases, compare_ready c.requires c.in-Compare.relation c.in-Compare.is)

pub state_formula-compare-requires : goal.state_formula-compare-requires
state_formula-compare-requires t c =
    comparing_ready c.requires c.in-Compare.relation c.in-Compare.is c.operands-in-Compare.ensures c.operands-in-Compare.auto.work

pub state_formula-returns-in-True : goal.state_formula-returns-in-True
state_formula-returns-in-True t c = true_done c.in-True.is c.always.ensures

pub state_formula-returns-in-Label : goal.state_formula-returns-in-Label
state_formula-returns-in-Label t c = label_done c.in-Label.l c.in-Label.i c.in-Label.is c.label.ensures

pub state_formula-returns-in-Not : goal.state_formula-returns-in-Not
state_formula-returns-in-Not t c = not_done c.in-Not.is c.state_formula-next.ensures c.negated.ensures

pub state_formula-returns-in-And : goal.state_formula-returns-in-And
state_formula-returns-in-And t c = and_done c.in-And.is c.operands.ensures c.both.ensures

pub state_formula-returns-in-Compare : goal.state_formula-returns-in-Compare
state_formula-returns-in-Compare t c =
    compare_done c.in-Compare.relation c.in-Compare.is c.operands-in-Compare.ensures c.compare.ensures

pub state_formula-returns-in_default : goal.state_formula-returns-in_default
state_formula-returns-in_default t c =
    let arm = c.in_default in
    no_formula arm.not-True arm.not-Label arm.not-Not arm.not-And arm.not-Compare

-- ---- two trees, one after another

pub operands-order_of-order-requires : goal.operands-order_of-order-requires
operands-order_of-order-requires t c = trees_inside c.requires

pub operands-tree-one-requires : goal.operands-tree-one-requires
operands-tree-one-requires t c = comes_first c.requires c.order_of-order.ensures c.decreases

pub operands-tree-other-requires : goal.operands-tree-other-requires
operands-tree-other-requires t c =
    comes_then c.requires c.order_of-order.ensures c.decreases c.tree-one.new.work c.tree-one.auto.work (grind arith) (grind arith)

pub operands-swap-requires : goal.operands-swap-requires
operands-swap-requires t c =
    both_room
    (both_run c.requires c.order_of-order.ensures c.tree-one.ensures c.tree-other.ensures c.tree-one.auto.work c.tree-other.auto.work
    (grind arith) (grind arith))

pub operands-returns-then-order : goal.operands-returns-then-order
operands-returns-then-order t c =
    trees_exchanged
    (both_run c.requires c.order_of-order.ensures c.tree-one.ensures c.tree-other.ensures c.tree-one.auto.work c.tree-other.auto.work
    (grind arith) (grind arith))
    c.if-order.true c.swap.ensures

pub operands-returns : goal.operands-returns
operands-returns t c =
    trees_standing
    (both_run c.requires c.order_of-order.ensures c.tree-one.ensures c.tree-other.ensures c.tree-one.auto.work c.tree-other.auto.work
    (grind arith) (grind arith))
    c.if-order.false
