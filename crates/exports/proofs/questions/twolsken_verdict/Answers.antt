-- `exports::questions::twolsken_verdict` meets its contract, by what verdict ensures of its answer.
use mathlib.Core.Path.{sym, ap, ◌∙◌}
use Rattle.exports.specs.Questions.{verdict_code}
use Rattle.exports.proofs.questions.twolsken_verdict.Goals as goal

pub returns-in-Ok-true : goal.returns-in-Ok-true
unfolding verdict_code
returns-in-Ok-true c =
    let e = rw c.in-Ok-true.field-0-test at c.in-Ok-true.is in
    record { answer = c.verdict.result; ensures = c.verdict.ensures; coded = sym (ap verdict_code e) }

pub returns-in-Ok-false : goal.returns-in-Ok-false
unfolding verdict_code
returns-in-Ok-false c =
    let e = rw c.in-Ok-false.field-0-test at c.in-Ok-false.is in
    record { answer = c.verdict.result; ensures = c.verdict.ensures; coded = sym (ap verdict_code e) }

pub returns-in-Err : goal.returns-in-Err
unfolding verdict_code
returns-in-Err c =
    record {
      answer = c.verdict.result;
      ensures = c.verdict.ensures;
      coded = c.from-in-Err.ensures ∙ c.from.ensures ∙ sym (ap verdict_code c.in-Err.is);
    }
