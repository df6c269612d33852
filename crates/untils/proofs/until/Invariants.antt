-- `untils::until` meets its contract: the invariant is the layer with so many steps left.
use Prim.Native.Nat.{◌-◌}
use lib.ListN.{length}
use Rattle.untils.proofs.Untils.{Untiling}
use Rattle.untils.proofs.until.Given as goal

abbrev pub invariant-loop-moment : goal.invariant-loop-moment
invariant-loop-moment l =
    Untiling l.rows.weights l.rows.states (length l.moving) l.moving l.tuples l.window.d l.window.k1 l.window.k2 l.initial.work l.all
    (l.window.k2 - l.moment) l.work
