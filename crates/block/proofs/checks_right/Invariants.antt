-- `block::checks_right` meets its contract. The invariant: the checks of the blocks passed are right.
use Rattle.counting.proofs.Laws.{Passed}
use Rattle.block.specs.Block.{byte_of, blocks_in, check_right}
use Rattle.block.proofs.checks_right.Given as goal

abbrev pub invariant-loop-i : goal.invariant-loop-i
invariant-loop-i l = Passed (blocks_in l.file) (λ k. check_right (byte_of l.file k)) l.i
