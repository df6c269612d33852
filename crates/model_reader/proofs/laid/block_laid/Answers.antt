-- `model_reader::laid::block_laid` meets its contract: block 0 is the head.
use Prim.Native.Nat.{ℕ}
use mathlib.Core.Path.{ap, sym, ◌∙◌}
use lib.Dec.{eqb}
use Rattle.counting.specs.Below.{every_below}
use Rattle.block.specs.Block.{byte_of}
use Rattle.model.specs.Layout.{fields_of, content_byte}
use Rattle.model_reader.proofs.laid.block_laid.Goals as goal

pub returns-then-i-eq0 : goal.returns-then-i-eq0
returns-then-i-eq0 c =
    let file = c.args.file.now in
    c.head_laid.ensures ∙
    ap (λ (i : ℕ). every_below 510 (λ j. eqb (byte_of file i j) (content_byte (fields_of file) i j))) (sym c.if-i-eq0.true)
