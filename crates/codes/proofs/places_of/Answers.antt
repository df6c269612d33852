-- `codes::places_of` meets its contract: the places are filled from the front.
use native.Mathlib.Omega.{arith}
use Rattle.counting.proofs.Laws.{filled_next, filled_all}
use Rattle.codes.proofs.places_of.Goals as goal

pub loop-place-preserved : goal.loop-place-preserved
loop-place-preserved c = filled_next c.loop-place.invariant (omega arith) c.node_of_code.ensures

pub returns : goal.returns
returns c = filled_all c.loop-place.invariant (omega arith)
