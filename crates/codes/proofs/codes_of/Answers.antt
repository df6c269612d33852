-- `codes::codes_of` meets its contract: the codes are filled from the front.
use native.Mathlib.Omega.{arith}
use Rattle.counting.proofs.Laws.{filled_all}
use Rattle.codes.proofs.codes_of.Goals as goal

pub returns : goal.returns
returns c = filled_all c.loop-i.invariant (omega arith)
