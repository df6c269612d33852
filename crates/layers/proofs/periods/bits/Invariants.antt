-- `layers::periods::bits` meets its contract: one stretch a state.
use Rattle.layers.proofs.Repeats.{Stretches}
use Rattle.layers.proofs.periods.bits.Given as goal

abbrev pub invariant-loop-s : goal.invariant-loop-s
invariant-loop-s l = Stretches l.masks l.l l.stride l.initial.work l.s l.work
