-- `block::check_of` meets its contract, by what `weighed` ensures of the block's part of the file: byte j of the part is byte j of the
-- block.
use Rattle.block.proofs.Laws.{part_check}
use Rattle.block.proofs.check_of.Goals as goal

pub returns : goal.returns
returns c =
    let a = c.args in
    part_check a.file.now a.block c.from_block.ensures c.weighed.ensures
