-- `block::weighed` meets its contract. The invariant: the bytes from `i` on are in the two totals (Backwards), which are small: each byte
-- adds at most 255 to the first, and the first, at most 510 × 255, to the second.
use Prim.Native.Nat.{◌+◌, ◌-◌}
use mathlib.Core.Path.{◌≡◌}
use native.Mathlib.Omega.{arith}
use lib.ListN.{get_or}
use Rattle.block.proofs.Backwards.{backwards_none, backwards_next, backwards_all}
use Rattle.block.proofs.weighed.Goals as goal

pub loop-i-init : goal.loop-i-init
loop-i-init c = (omega arith, omega arith, omega arith, backwards_none 510 (λ j. get_or c.args.bytes.now j 0))

pub grown-totals-requires : goal.grown-totals-requires
grown-totals-requires c =
    let inv = c.loop-i.invariant in
    (omega (arith, inv.1), omega (arith, inv.1, inv.2))

pub loop-i-preserved : goal.loop-i-preserved
loop-i-preserved c =
    let turn = c.loop-i in
    let b = c.byte_at in
    let g = c.grown-totals.ensures in
    let grew : c.grown-totals.result.plain ≡ turn.totals.plain + b.result = g.plain in
    let weighed : c.grown-totals.result.weighed ≡ turn.totals.weighed + (turn.totals.plain + b.result) = g.weighed in
    let here : turn.i ≡ turn.i - 1 + 1 = omega arith in (
      omega arith,
      omega arith,
      omega (arith, turn.invariant.1, turn.invariant.2),
      backwards_next 510 (λ j. get_or c.args.bytes.now j 0) here (rw b.ensures at grew)
          (rw b.ensures at weighed) turn.invariant.3,
    )

pub returns : goal.returns
returns c =
    let done : c.loop-i.i ≡ 0 = omega arith in
    backwards_all 510 (λ j. get_or c.args.bytes.now j 0) c.loop-i.totals.plain
    c.loop-i.totals.weighed (rw done at c.loop-i.invariant.3)
