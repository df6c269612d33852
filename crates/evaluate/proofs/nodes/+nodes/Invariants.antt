-- Evaluation meets its contracts, node by node: what the operands are evaluated with, and what the call at the node
-- leaves, are laws about lists and records. The measure is the number of places left, counted four times.
use Prim.Native.Nat.{◌+◌, ◌-◌, ◌*◌}
use Rattle.evaluate.proofs.nodes.+nodes.Given as goal

abbrev pub decreases-combined : goal.decreases-combined
decreases-combined l = 4 * (64 - l.at) + 3

abbrev pub decreases-expression : goal.decreases-expression
decreases-expression l = 4 * (64 - l.at)

abbrev pub decreases-operands : goal.decreases-operands
decreases-operands l = 4 * (64 - l.at) + 2

abbrev pub decreases-path : goal.decreases-path
decreases-path l = 4 * (64 - l.at)

abbrev pub decreases-state_formula : goal.decreases-state_formula
decreases-state_formula l = 4 * (64 - l.at)

abbrev pub decreases-tree : goal.decreases-tree
decreases-tree l = 4 * (64 - l.at) + 1
