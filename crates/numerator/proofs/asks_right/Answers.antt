-- `numerator::asks_right` meets its contract: whether a place is found says whether there is such a path formula.
use mathlib.Core.Bool.{Bool, ◌&&◌}
use mathlib.Core.Path.{ap₂, ◌∙◌}
use native.Mathlib.Omega.{arith}
use Rattle.question.proofs.Pair.{count_few}
use Rattle.numerator.proofs.Asking.{place_there}
use Rattle.numerator.proofs.asks_right.Goals as goal

pub shared_ref_as_front-path_place : goal.shared_ref_as_front-path_place
shared_ref_as_front-path_place c = let few = count_few c.requires.read.sentence in omega (arith, few)

pub returns : goal.returns
returns c = record {
  each = λ text b. ap₂ (λ (x y : Bool). x && y) c.tuple_right.ensures (c.is_some.ensures ∙ place_there b c.path_place-at.ensures);
}
