-- `Page::write_content` meets its contract: the bytes are written from the front.
use native.Mathlib.Omega.{arith}
use Rattle.counting.proofs.Laws.{fronted_none, fronted_next, fronted_all}
use Rattle.model_writer.proofs.Page.write_content.Goals as goal

pub loop-j-init : goal.loop-j-init
loop-j-init c = fronted_none

pub loop-j-preserved : goal.loop-j-preserved
loop-j-preserved c = fronted_next c.loop-j.invariant (omega arith) (omega arith) c.content_byte.ensures

pub shape_of-out : goal.shape_of-out
shape_of-out c = c.loop-j.invariant.long

pub returns : goal.returns
returns c = fronted_all c.loop-j.invariant (omega arith)
