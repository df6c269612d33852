-- `fractions::codes::made` meets its contract: what is decoded, made of and coded is read back as it is.
use mathlib.Core.Path.{sym, subst}
use Rattle.fractions.specs.Codes.{Small}
use Rattle.fractions.proofs.Magnitude.{decoded_reads}
use Rattle.fractions.proofs.Operands.{back, operated_small, fits_as}
use Rattle.fractions.proofs.codes.made.Goals as goal

pub code-requires : goal.code-requires
code-requires c =
    let one = decoded_reads c.ranges.x c.decode-a.ensures in
    let two = decoded_reads c.ranges.y c.decode-b.ensures in
    let small = operated_small c.in-Operated.op (fits_as c.args.d1 c.args.d2 c.in-Operated.is one two c.requires) in
    subst Small (sym (back c.operate.ensures small.size)) small
