-- `untils::choose` meets its contract: what is read has not been written yet.
use Prim.Native.Nat.{◌+◌}
use Rattle.untils.specs.Untils.{choice_at}
use Rattle.layers.proofs.Written.{Writing}
use Rattle.untils.proofs.choose.Given as goal

abbrev pub invariant-loop-k : goal.invariant-loop-k
invariant-loop-k l =
    Writing (l.tuples + l.tuples) l.tuples (choice_at l.opened l.all l.tuples l.initial.work) l.initial.work l.k l.work
