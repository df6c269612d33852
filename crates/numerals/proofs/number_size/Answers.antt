-- `number_size` meets its contract: each range of numbers has its size. Assumes nothing.
use Rattle.std.proofs.Common.{arith}
use Rattle.numerals.proofs.Numbers.{size_1, size_2, size_3, size_4, size_5}
use Rattle.numerals.proofs.number_size.Goals as goal

pub returns-in-0-to-9 : goal.returns-in-0-to-9
returns-in-0-to-9 c = (size_1 _ (omega arith), omega arith)

pub returns-in-10-to-99 : goal.returns-in-10-to-99
returns-in-10-to-99 c = (size_2 _ (omega arith) (omega arith), omega arith)

pub returns-in-100-to-999 : goal.returns-in-100-to-999
returns-in-100-to-999 c = (size_3 _ (omega arith) (omega arith), omega arith)

pub returns-in-1000-to-9999 : goal.returns-in-1000-to-9999
returns-in-1000-to-9999 c = (size_4 _ (omega arith) (omega arith), omega arith)

pub returns-in_default : goal.returns-in_default
returns-in_default c = (size_5 _ (omega arith), omega arith)
