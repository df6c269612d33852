-- `fractions::codes::make` meets its contract: what is read has not been written yet.
use Rattle.fractions.specs.Operations.{made_at}
use Rattle.layers.proofs.Written.{Writing}
use Rattle.fractions.proofs.codes.make.Given as goal

abbrev pub invariant-loop-k : goal.invariant-loop-k
invariant-loop-k l = Writing 0 l.tuples (made_at l.making l.d1 l.d2 l.tuples l.initial.work) l.initial.work l.k l.work
