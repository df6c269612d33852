-- `layers::periods::bits` meets its contract: one stretch a state.
use native.Mathlib.Omega.{arith}
use Rattle.layers.proofs.Repeats.{stretches_next, stretches_all}
use Rattle.layers.proofs.periods.bits.Goals as goal

pub loop-s-preserved : goal.loop-s-preserved
loop-s-preserved c = stretches_next c.loop-s.invariant c.bit_of.ensures c.stretch.ensures

pub returns : goal.returns
returns c = stretches_all c.loop-s.invariant (omega arith)
