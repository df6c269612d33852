-- `question::area_needed` meets its contract: eight layers of T numbers.
use mathlib.Core.Path.{ap}
use native.Mathlib.Omega.{arith}
use Prim.Native.Nat.{ℕ, ◌*◌}
use Rattle.meaning.specs.Chain.{tuple_count}
use Rattle.question.specs.Contract.{area_needed}
use Rattle.question.proofs.Pair.{states_few, letters_few}
use Rattle.question.proofs.area_needed.Goals as goal

pub tuple_count-requires : goal.tuple_count-requires
tuple_count-requires c =
    let read = c.requires.read in
    let low = letters_few read.sentence in
    (states_few read.model, omega (arith, low))

pub returns : goal.returns
unfolding area_needed tuple_count
returns c = ap (λ (t : ℕ). 8 * t) c.tuple_count.ensures
