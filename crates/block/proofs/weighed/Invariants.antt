-- `block::weighed` meets its contract. The invariant: the bytes from `i` on are in the two totals (Backwards), which are small: each byte
-- adds at most 255 to the first, and the first, at most 510 × 255, to the second.
use Prim.Native.Nat.{◌+◌, ◌*◌, ◌≤◌}
use lib.ListN.{get_or}
use Rattle.block.proofs.Backwards.{Backwards}
use Rattle.block.proofs.weighed.Given as goal

abbrev pub invariant-loop-i : goal.invariant-loop-i
invariant-loop-i l =
    (l.i ≤ 510) × (l.totals.plain + 255 * l.i ≤ 130050) × (l.totals.weighed + 130050 * l.i ≤ 66325500) ×
    Backwards 510 (λ j. get_or l.bytes j 0) l.i l.totals.plain l.totals.weighed
