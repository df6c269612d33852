-- `groups::grouping::group_count` meets its contract. The invariant: the count is one more than the largest number passed.
use Prim.Native.Nat.{◌≤◌}
use mathlib.Core.Path.{◌≡◌}
use lib.ListN.{length}
use Rattle.groups.specs.Groups.{group_of, over_all}
use Rattle.groups.proofs.grouping.group_count.Given as goal

abbrev pub invariant-loop-g : goal.invariant-loop-g
invariant-loop-g l = (l.g-index ≤ length l.grouping) × (l.count ≡ over_all l.g-index (group_of l.grouping)) × (l.count ≤ 256)
