-- `layers::plain::negated` meets its contract: what is read has not been written yet.
use Rattle.layers.specs.Layers.{negated_at}
use Rattle.layers.proofs.Written.{Writing}
use Rattle.layers.proofs.plain.negated.Given as goal

abbrev pub invariant-loop-k : goal.invariant-loop-k
invariant-loop-k l = Writing 0 l.tuples (negated_at l.initial.work) l.initial.work l.k l.work
