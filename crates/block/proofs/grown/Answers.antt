-- `block::grown` meets its contract: written out, so that an edit of the code is refused here and not at a caller.
use Prim.Native.Nat.{ℕ, ◌+◌}
use mathlib.Core.Path.{ap}
use Rattle.block.proofs.grown.Goals as goal

pub returns : goal.returns
returns c =
    let wider = c in
    let t = wider.args.t in
    let same = wider.from.ensures in
    record {
      plain = ap (λ (b : ℕ). t.plain + b) same;
      weighed = ap (λ (b : ℕ). t.weighed + (t.plain + b)) same;
    }
