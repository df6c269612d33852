-- `model_reader::fields::numbers_at` meets its contract: the numbers are filled from the front.
use Prim.Native.Nat.{◌+◌, ◌*◌}
use Rattle.counting.proofs.Laws.{Filled}
use Rattle.model.specs.Layout.{two_at}
use Rattle.model_reader.proofs.fields.numbers_at.Given as goal

abbrev pub invariant-loop-k : goal.invariant-loop-k
invariant-loop-k l = Filled 32 (λ k. two_at l.file l.block (l.from + 2 * k)) 0 l.k l.numbers
