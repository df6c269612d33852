-- `model_reader::laid::head_laid` meets its contract, by the test of block 0.
use Prim.Native.Nat.{ℕ}
use mathlib.Core.Bool.{◌&&◌}
use mathlib.Core.Path.{ap, ap₂, ◌∙◌}
use lib.Dec.{eqb}
use Rattle.model.proofs.Standing.{head_test}
use Rattle.model_reader.proofs.laid.head_laid.Goals as goal

pub returns : goal.returns
returns c =
    let file = c.args.file.now in
    ap₂ ◌&&◌
    (ap (λ (x : ℕ). eqb x 1) c.block_byte.ensures)
    c.zeros.ensures ∙
    head_test file (λ k. (c.type_inv.file k).fits)
