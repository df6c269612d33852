-- `model_writer::byte_of_two` meets its contract, by the test.
use mathlib.Core.Bool.{Bool, cond}
use mathlib.Core.Path.{ap, sym, ◌∙◌}
use borrow.Author.Tests.{lt-ltb, le-ltb}
use Rattle.block.specs.Block.{low_byte, high_byte}
use Rattle.model_writer.proofs.Bytes.{low_of_two, high_of_two}
use Rattle.model_writer.proofs.byte_of_two.Goals as goal

pub returns-then-k-lt1 : goal.returns-then-k-lt1
returns-then-k-lt1 c =
    low_of_two c.args.x c.to_le_bytes.ensures ∙
    sym (ap (λ (b : Bool). cond b (low_byte c.args.x) (high_byte c.args.x)) (lt-ltb _ 1 c.if-k-lt1.true))

pub returns-else-k-lt1 : goal.returns-else-k-lt1
returns-else-k-lt1 c =
    high_of_two c.args.x c.to_le_bytes.ensures ∙
    sym (ap (λ (b : Bool). cond b (low_byte c.args.x) (high_byte c.args.x)) (le-ltb _ 1 c.if-k-lt1.false))
