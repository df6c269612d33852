-- `model_reader::fields::fields_of` meets its contract, field by field.
use mathlib.Core.Path.{◌∙◌}
use Rattle.model.specs.Layout.{fields_of}
use Rattle.model_reader.proofs.fields.fields_of.Goals as goal

pub returns : goal.returns
unfolding fields_of
returns c =
    let n = c.from.ensures ∙ c.block_byte.ensures in
    let a = c.from-2.ensures ∙ c.block_byte-2.ensures in
    let version = c.from-3.ensures ∙ c.block_byte-3.ensures in
    λ i. record {
      n = n i;
      a = a i;
      d = c.four_at.ensures i;
      version = version i;
      masks = c.numbers_at.ensures i;
      weights = c.weights_at.ensures i;
    }
