-- `operator` meets its contract: a byte that is none of the operators' is the text of no node. Assumes nothing.
use Rattle.std.proofs.Common.{arith}
use Rattle.sentence_scan.proofs.NodeAt.{no_operator}
use Rattle.sentence_scan.proofs.operator.Goals as goal

pub returns-in_default : goal.returns-in_default
returns-in_default c =
    no_operator c.args.byte (
    record {
      truth = grind arith;
      negation = grind arith;
      conjunction = grind arith;
      less = grind arith;
      at_most = grind arith;
      equal = grind arith;
      at_least = grind arith;
      greater = grind arith;
      probability = grind arith;
      sum = grind arith;
      difference = grind arith;
      product = grind arith;
      next = grind arith;
    }
    )
