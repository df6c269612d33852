-- `fractions::compare` meets its contract: the relation of the two cross products.
use mathlib.Core.Path.{◌∙◌}
use Rattle.meaning.specs.Meaning.{related, compared}
use Rattle.trees.specs.Listed.{relation_read}
use Rattle.fractions.proofs.Operands.{crosses_back}
use Rattle.fractions.proofs.compare.Goals as goal

pub returns : goal.returns
unfolding compared
returns c =
    c.relate.ensures ∙
    crosses_back (related (relation_read c.args.relation)) c.requires c.ranges.a c.ranges.b
    c.cross.ensures c.cross-2.ensures
