-- `block::from_block` meets its contract: where the file ends before the block, nothing is left of it.
use Prim.Native.Nat.{◌*◌, ◌≤◌}
use mathlib.Core.Path.{sym, ◌∙◌}
use native.Mathlib.Omega.{arith}
use lib.ListN.{length, drop_of_length-le}
use Rattle.counting.proofs.Laws.{tail_lent as rest_of}
use Rattle.block.proofs.from_block.Goals as goal

pub returns-then-length-block : goal.returns-then-length-block
returns-then-length-block c =
    let file = c.args.file.now in
    let all : length file ≤ length file = omega arith in
    let past : length file ≤ 512 * c.args.block = omega arith in
    rest_of (length file) file ∙ drop_of_length-le file all ∙ sym (drop_of_length-le file past)

pub returns : goal.returns
returns c = rest_of (512 * c.args.block) c.args.file.now
