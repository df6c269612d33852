-- `power` meets its contract. The invariant: the number is the power so far, capped.
use Prim.Native.Nat.{◌^◌}
use mathlib.Core.Path.{◌≡◌}
use Rattle.capped.specs.Capping.{capped}
use Rattle.capped.proofs.power.Given as goal

abbrev pub invariant-loop : goal.invariant-loop
invariant-loop l = l.r ≡ capped (l.base ^ l.counter)
