-- `model_reader::laid::zeros` meets its contract. The invariant: the bytes passed are zero.
use Prim.Native.Nat.{ℕ}
use mathlib.Core.Path.{ap, sym, ◌∙◌}
use native.Mathlib.Omega.{arith}
use lib.Dec.{eqb}
use borrow.Author.Tests.{eq-eqb, ne_eqb}
use Rattle.counting.proofs.Laws.{passed_none, passed_next, passed_all, failed_at}
use Rattle.model_reader.proofs.laid.zeros.Goals as goal

pub loop-k-init : goal.loop-k-init
loop-k-init c = passed_none

pub returns-then-block_byte-ne0 : goal.returns-then-block_byte-ne0
returns-then-block_byte-ne0 c = failed_at c.loop-k.invariant (omega arith)
    (ap (λ (x : ℕ). eqb x 0) (sym c.block_byte.ensures) ∙ ne_eqb _ _ c.if-block_byte-ne0.true)

pub loop-k-preserved : goal.loop-k-preserved
loop-k-preserved c = passed_next c.loop-k.invariant (omega arith)
    (ap (λ (x : ℕ). eqb x 0) (sym c.block_byte.ensures) ∙ eq-eqb _ _ c.if-block_byte-ne0.false)

pub returns : goal.returns
returns c = passed_all c.loop-k.invariant (omega arith)
