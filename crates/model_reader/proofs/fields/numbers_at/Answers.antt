-- `model_reader::fields::numbers_at` meets its contract: the numbers are filled from the front.
use mathlib.Core.Path.{refl}
use native.Mathlib.Omega.{arith}
use Rattle.counting.proofs.Laws.{filled_none, filled_next, filled_all}
use Rattle.model_reader.proofs.fields.numbers_at.Goals as goal

pub loop-k-init : goal.loop-k-init
loop-k-init c = filled_none refl

pub loop-k-preserved : goal.loop-k-preserved
loop-k-preserved c = filled_next c.loop-k.invariant (omega arith) c.two_at.ensures

pub returns : goal.returns
returns c = filled_all c.loop-k.invariant (omega arith)
