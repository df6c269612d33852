-- `layers::periods::repeat` meets its contract: what is read is one of the first numbers, or repeats one.
use Prim.Native.Nat.{◌-◌, ◌%◌}
use lib.ListN.{get_or}
use Rattle.layers.proofs.Written.{Writing}
use Rattle.layers.proofs.periods.repeat.Given as goal

abbrev pub invariant-loop-k : goal.invariant-loop-k
invariant-loop-k l = Writing l.few (l.all - l.few) (λ k. get_or l.initial.work (k % l.few) 0) l.initial.work l.k l.work
