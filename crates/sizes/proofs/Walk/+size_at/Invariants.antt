-- `Walk::size_at` meets its contract, by what the node wants. The measure is the number of places left.
use Prim.Native.Nat.{◌-◌}
use Rattle.sizes.proofs.Walk.+size_at.Given as goal

abbrev pub decreases-size_at : goal.decreases-size_at
decreases-size_at l = 64 - l.at
