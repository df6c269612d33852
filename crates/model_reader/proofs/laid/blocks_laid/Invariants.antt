-- `model_reader::laid::blocks_laid` meets its contract. The invariant: the blocks passed stand as the layout has them.
use lib.Dec.{eqb}
use Rattle.counting.specs.Below.{every_below}
use Rattle.counting.proofs.Laws.{Passed}
use Rattle.block.specs.Block.{byte_of}
use Rattle.model.specs.Layout.{fields_of, content_byte}
use Rattle.model_reader.proofs.laid.blocks_laid.Given as goal

abbrev pub invariant-loop-i : goal.invariant-loop-i
invariant-loop-i l = Passed l.count (λ i. every_below 510 (λ j. eqb (byte_of l.file i j) (content_byte (fields_of l.file) i j))) l.i
