-- `model_reader::length_right` meets its contract as it stands.
use mathlib.Core.Path.{refl}
use Rattle.model.specs.Rules.{length_right}
use Rattle.model_reader.proofs.length_right.Goals as goal

pub returns : goal.returns
unfolding length_right
returns c = refl
