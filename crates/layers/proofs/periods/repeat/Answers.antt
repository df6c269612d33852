-- `layers::periods::repeat` meets its contract: what is read is one of the first numbers, or repeats one.
use native.Mathlib.Omega.{arith}
use Rattle.layers.proofs.Written.{writing_next}
use Rattle.layers.proofs.Repeats.{repeated_at}
use Rattle.layers.proofs.periods.repeat.Goals as goal

pub loop-k-preserved : goal.loop-k-preserved
loop-k-preserved c =
    let h = c.loop-k.invariant in
    writing_next h (omega arith) (omega arith) (repeated_at c.requires.0 h)
