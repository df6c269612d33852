-- `layers::plain::labelled` meets its contract: the bits of all states, again and again.
use Rattle.layers.proofs.Repeats.{bits_repeated}
use Rattle.layers.proofs.plain.labelled.Goals as goal

pub returns : goal.returns
returns c =
    bits_repeated c.args.masks.now c.args.l c.requires.1 c.requires.3 c.requires.4 c.bits.ensures
    c.repeat.ensures
