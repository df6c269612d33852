-- `Page::write_blocks` meets its contract: the blocks are written one after another.
use Prim.Native.Nat.{◌≤◌}
use mathlib.Core.Path.{◌≡◌}
use lib.ListN.{length}
use Rattle.refusal.specs.Answers.{at_front}
use Rattle.model.specs.Layout.{blocks_below}
use Rattle.model_writer.proofs.Page.write_blocks.Given as goal

abbrev pub invariant-loop-i : goal.invariant-loop-i
invariant-loop-i l =
    (l.i ≤ l.count) × (length l.out ≡ length l.initial.out) ×
    (l.out ≡ at_front (blocks_below l.self.model.now l.i) l.initial.out)
