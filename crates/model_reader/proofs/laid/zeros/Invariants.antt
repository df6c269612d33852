-- `model_reader::laid::zeros` meets its contract. The invariant: the bytes passed are zero.
use Prim.Native.Nat.{◌+◌}
use lib.Dec.{eqb}
use Rattle.counting.proofs.Laws.{Passed}
use Rattle.block.specs.Block.{byte_of}
use Rattle.model_reader.proofs.laid.zeros.Given as goal

abbrev pub invariant-loop-k : goal.invariant-loop-k
invariant-loop-k l = Passed l.count (λ k. eqb (byte_of l.file l.block (l.from + k)) 0) l.k
