-- `more_digits` meets its contract: each front of the text is a case of NumberAt. Assumes nothing.
use Rattle.std.proofs.Common.{arith}
use Rattle.std.proofs.lemmas.List.{nil_from_length}
use Rattle.numerals.specs.Working.{NoDigit}
use Rattle.numerals.proofs.NumberAt.{ended, same_front, shifted, sixth, unclosed}
use Rattle.numerals.proofs.+more_digits.Goals as goal

pub returns-in_err-first : goal.returns-in_err-first
returns-in_err-first t c =
    rw c.from_residual.ensures
    (ended c.args.value c.args.close (nil_from_length c.args.text.now c.in_err-first.ensures.cases) c.requires.1 c.requires.2)

pub returns-then-value-ge10000 : goal.returns-then-value-ge10000
returns-then-value-ge10000 t c =
    sixth c.args.value c.args.close c.in_ok-first.ensures.cases.0 c.if-value-ge10000.true c.requires.1 c.requires.2 (omega arith)
    (omega arith)

pub returns-else-value-ge10000 : goal.returns-else-value-ge10000
returns-else-value-ge10000 t c =
    same_front c.args.close c.more_digits.result
    (shifted c.args.value c.in_ok-first.ensures.cases.0 c.requires.0 c.if-value-ge10000.false (omega arith) (omega arith))
    c.more_digits.ensures

pub returns-in_default-2 : goal.returns-in_default-2
returns-in_default-2 t c =
    let other : NoDigit c.in_ok-first.first.now = grind arith in
    unclosed c.args.value c.args.close c.in_ok-first.ensures.cases.0 c.requires.1 c.requires.2 other (λ e. absurd (omega arith))
