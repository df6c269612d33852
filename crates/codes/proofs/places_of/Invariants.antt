-- `codes::places_of` meets its contract: the places are filled from the front.
use mathlib.Core.List.{[]}
use lib.ListN.{get_or}
use Rattle.counting.proofs.Laws.{Filled}
use Rattle.sentence.specs.declared.Node.TheVariants.{True}
use Rattle.codes.specs.Codes.{node_of_code}
use Rattle.codes.proofs.places_of.Given as goal

abbrev pub invariant-loop-place : goal.invariant-loop-place
invariant-loop-place l = Filled 64 (λ i. node_of_code (get_or l.codes i [])) True l.place l.nodes
