-- `names::is_named` meets its contract. The invariant: no node passed is a label of the variable.
use mathlib.Core.Bool.{false}
use mathlib.Core.Path.{◌≡◌}
use lib.ListN.{take}
use Rattle.std.specs.List.{list_any}
use Rattle.names.specs.Names.{mentions}
use Rattle.names.proofs.is_named.Given as goal

abbrev pub invariant-loop-at : goal.invariant-loop-at
invariant-loop-at l = list_any (mentions l.variable) (take l.at l.nodes) ≡ false
