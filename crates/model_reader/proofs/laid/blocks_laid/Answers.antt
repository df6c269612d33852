-- `model_reader::laid::blocks_laid` meets its contract. The invariant: the blocks passed stand as the layout has them.
use mathlib.Core.Path.{sym, ◌∙◌}
use native.Mathlib.Omega.{arith}
use Rattle.counting.proofs.Laws.{passed_none, passed_next, passed_all, failed_at}
use Rattle.model_reader.proofs.laid.blocks_laid.Goals as goal

pub loop-i-init : goal.loop-i-init
loop-i-init c = passed_none

pub returns-then-not-block_laid : goal.returns-then-not-block_laid
returns-then-not-block_laid c = failed_at c.loop-i.invariant (omega arith)
    (sym c.block_laid.ensures ∙ c.if-not-block_laid.true)

pub loop-i-preserved : goal.loop-i-preserved
loop-i-preserved c = passed_next c.loop-i.invariant (omega arith)
    (sym c.block_laid.ensures ∙ c.if-not-block_laid.false)

pub returns : goal.returns
returns c = passed_all c.loop-i.invariant (omega arith)
