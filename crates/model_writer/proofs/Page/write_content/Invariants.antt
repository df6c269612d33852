-- `Page::write_content` meets its contract: the bytes are written from the front.
use Rattle.counting.proofs.Laws.{Fronted}
use Rattle.model.specs.Layout.{content_byte}
use Rattle.model_writer.proofs.Page.write_content.Given as goal

abbrev pub invariant-loop-j : goal.invariant-loop-j
invariant-loop-j l = Fronted 510 (content_byte l.self.model.now l.i) l.initial.out l.j l.out
