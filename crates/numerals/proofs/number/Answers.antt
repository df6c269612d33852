-- `number` meets its contract: each front of the text is a case of NumberAt. Assumes nothing.
use Rattle.std.proofs.Common.{rules, ℕ, List, ◌≡◌, arith, ap, ◌∙◌, ◌∷◌}
use Rattle.numerals.specs.Working.{NoDigit}
use Rattle.numerals.proofs.NumberAt.{same_front, first_digit, zero_open, zero_closed, no_first}
use Rattle.numerals.proofs.number.Goals as goal

pub returns-in_err-after-in-48 : goal.returns-in_err-after-in-48
returns-in_err-after-in-48 c =
    let differs : (rest : List ℕ) → c.in_ok-first.rest.now ≡ c.args.close ∷ rest → ⊥ = search rules in
    rw c.from_residual-in_err-after-in-48.ensures
    (zero_open c.args.close (c.in_ok-first.ensures.cases.0 ∙ ap (λ b. b ∷ c.in_ok-first.rest.now) c.in-48.is) differs)

pub returns-in_ok-after-in-48 : goal.returns-in_ok-after-in-48
returns-in_ok-after-in-48 c =
    zero_closed c.args.close (c.in_ok-first.ensures.cases.0 ∙ ap (λ b. b ∷ c.in_ok-first.rest.now) c.in-48.is) c.in_ok-after-in-48.ensures

pub returns-in-49-to-57 : goal.returns-in-49-to-57
returns-in-49-to-57 c =
    same_front c.args.close c.more_digits.result (first_digit c.in_ok-first.ensures.cases.0 (omega arith) (omega arith))
    c.more_digits.ensures

pub returns-in_default : goal.returns-in_default
returns-in_default c =
    let other : NoDigit c.in_ok-first.first.now = grind arith in
    no_first c.args.close c.in_ok-first.ensures.cases.0 other
