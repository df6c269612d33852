-- `two_numbers` meets its contract: NumberAt joins what `number` answers. Assumes nothing.
use Rattle.numerals.proofs.NumberAt.{numbers_second}
use Rattle.numerals.proofs.two_numbers.Goals as goal

pub returns-in_err-second : goal.returns-in_err-second
returns-in_err-second c =
    rw c.from_residual-in_err-second.ensures
    (numbers_second c.args.text.now c.args.middle c.args.close c.in_ok-first.first c.in_ok-first.rest.now c.requires.0
    c.in_ok-first.ensures c.in_err-second.ensures)
