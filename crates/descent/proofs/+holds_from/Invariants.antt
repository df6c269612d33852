-- `holds_from` meets its contract. The invariant of its loop: no state passed decides the letter. The measure is the number of
-- letters left.
use Prim.Native.Nat.{ℕ, ◌+◌, ◌*◌, ◌<◌}
use mathlib.Core.Bool.{not}
use mathlib.Core.List.{map}
use mathlib.Core.Path.{◌≡◌}
use lib.ListN.{length}
use Rattle.meaning.specs.Tree.{letter_of}
use Rattle.descent.specs.Descent.{descended}
use Rattle.descent.proofs.+holds_from.Given as goal

abbrev pub decreases-holds_from : goal.decreases-holds_from
decreases-holds_from l = length l.letters.now

abbrev pub invariant-loop-s : goal.invariant-loop-s
invariant-loop-s l = (k : ℕ) → k < l.s → descended l.states (map letter_of l.rest) (l.base * l.states + k) l.layer ≡ not l.exists
