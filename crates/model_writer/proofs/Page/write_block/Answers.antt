-- `Page::write_block` meets its contract: the content, then its check.
use Prim.Native.Nat.{ℕ}
use mathlib.Core.Path.{ap₂, ◌∙◌}
use lib.ListN.{set}
use Rattle.model.proofs.Written.{block_written}
use Rattle.model_writer.proofs.Bytes.{byte_0, byte_1}
use Rattle.model_writer.proofs.Page.write_block.Goals as goal

pub returns : goal.returns
returns c =
    let a = c.args in
    let w = c.write_content in
    let check = c.check_of-check.result in
    let bytes = c.to_le_bytes.ensures in
    ap₂ (λ (low high : ℕ). set (set w.new.out 510 low) 511 high) (byte_0 check bytes) (byte_1 check bytes) ∙
    block_written a.self.model.now a.i a.out.now w.new.out check c.requires.1 w.auto.out w.ensures c.check_of-check.ensures
