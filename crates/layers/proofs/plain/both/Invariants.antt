-- `layers::plain::both` meets its contract: what is read has not been written yet.
use Rattle.layers.specs.Layers.{both_at}
use Rattle.layers.proofs.Written.{Writing}
use Rattle.layers.proofs.plain.both.Given as goal

abbrev pub invariant-loop-k : goal.invariant-loop-k
invariant-loop-k l = Writing 0 l.tuples (both_at l.tuples l.initial.work) l.initial.work l.k l.work
