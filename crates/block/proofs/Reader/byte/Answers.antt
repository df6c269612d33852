-- `Reader::byte` meets its contract: byte j of the file from the block on is byte j of the block.
use mathlib.Core.Path.{◌∙◌}
use Rattle.block.proofs.Laws.{part_byte}
use Rattle.block.proofs.Reader.byte.Goals as goal

pub returns : goal.returns
returns c =
    let r = c.args.self in
    c.byte_at.ensures ∙ part_byte r.file.now r.block c.args.j c.from_block.ensures
