-- `codes::codes_of` meets its contract: the codes are filled from the front.
use mathlib.Core.List.{[]}
use lib.ListN.{get_or}
use Rattle.counting.proofs.Laws.{Filled}
use Rattle.sentence.specs.declared.Node.TheVariants.{True}
use Rattle.codes.specs.Codes.{code_of_node}
use Rattle.codes.proofs.codes_of.Given as goal

abbrev pub invariant-loop-i : goal.invariant-loop-i
invariant-loop-i l = Filled 64 (λ i. code_of_node (get_or l.nodes i True)) [] l.i l.codes
