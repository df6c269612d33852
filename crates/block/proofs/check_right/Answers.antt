-- `block::check_right` meets its contract, by what `check_of` and `block_byte` ensure.
use Prim.Native.Nat.{ℕ}
use mathlib.Core.Bool.{Bool, ◌&&◌}
use mathlib.Core.Path.{ap₂, ◌∙◌}
use lib.Dec.{eqb}
use Rattle.block.specs.Block.{low_byte, high_byte}
use Rattle.block.proofs.check_right.Goals as goal

pub returns : goal.returns
returns c =
    let check = c.check_of-check.ensures in
    let low = c.from.ensures ∙ c.block_byte.ensures in
    let high = c.from-2.ensures ∙ c.block_byte-2.ensures in
    ap₂ (λ (a b : Bool). a && b) (ap₂ (λ (b k : ℕ). eqb b (low_byte k)) low check) (ap₂ (λ (b k : ℕ). eqb b (high_byte k)) high check)
