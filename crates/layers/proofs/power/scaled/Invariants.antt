-- `layers::power::scaled` meets its contract: the powers on the way are no larger than the last.
use Prim.Native.Nat.{◌*◌, ◌^◌}
use mathlib.Core.Path.{◌≡◌}
use Rattle.layers.proofs.power.scaled.Given as goal

abbrev pub invariant-loop : goal.invariant-loop
invariant-loop l = l.product ≡ l.x * l.d ^ l.counter
