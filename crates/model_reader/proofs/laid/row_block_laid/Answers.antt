-- `model_reader::laid::row_block_laid` meets its contract, by the test of a row block: its zeros start at byte 450, or in block 5 at
-- byte 258.
use Prim.Native.Nat.{ℕ}
use mathlib.Core.Bool.{◌&&◌}
use mathlib.Core.Path.{◌≡◌, ap, ap₂, ◌∙◌}
use native.Mathlib.Omega.{arith}
use lib.Dec.{eqb}
use Rattle.block.specs.Block.{byte_of}
use Rattle.model.proofs.Standing.{row_test}
use Rattle.model_reader.proofs.laid.row_block_laid.Goals.{After-block_byte-2}
use Rattle.model_reader.proofs.laid.row_block_laid.Goals as goal

-- the two marks, of the block in the file
marked : (c : After-block_byte-2) →
    let a = c.args in
    (eqb c.block_byte.result 2 && eqb c.block_byte-2.result a.i) ≡
    (eqb (byte_of a.file.now a.i 0) 2 && eqb (byte_of a.file.now a.i 1) a.i)
marked c =
    let a = c.args in
    ap₂ ◌&&◌
    (ap (λ (x : ℕ). eqb x 2) c.block_byte.ensures)
    (ap (λ (x : ℕ). eqb x a.i) c.block_byte-2.ensures)

pub returns-then-i-lt5 : goal.returns-then-i-lt5
returns-then-i-lt5 c =
    let a = c.args in
    ap₂ ◌&&◌ (marked (goal.at.returns-then-i-lt5 c).After-block_byte-2) c.zeros.ensures ∙
    row_test a.file.now (λ k. (c.type_inv.file k).fits) a.i 450
    (omega arith) (omega arith) (omega arith) (λ j h l. omega arith) (λ j h l. omega arith)

pub returns-else-i-lt5 : goal.returns-else-i-lt5
returns-else-i-lt5 c =
    let a = c.args in
    ap₂ ◌&&◌ (marked (goal.at.returns-else-i-lt5 c).After-block_byte-2) c.zeros-else-i-lt5.ensures ∙
    row_test a.file.now (λ k. (c.type_inv.file k).fits) a.i 258
    (omega arith) (omega arith) (omega arith) (λ j h l. omega arith) (λ j h l. omega arith)
