-- `judged` meets its contract: the first bytes of the files are as good as all. Assumes nothing.
use Rattle.twolsken.proofs.AnySize.{buffers_so}
use Rattle.twolsken.proofs.judged.Goals as goal

pub returns : goal.returns
returns c = buffers_so c.requires.0 c.requires.2 c.answer.ensures
