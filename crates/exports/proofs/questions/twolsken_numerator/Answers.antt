-- `exports::questions::twolsken_numerator` meets its contract, by what numerator ensures of its answer.
use mathlib.Core.Path.{sym, ap, ◌∙◌}
use Rattle.refusal.specs.Answers.{number_in, reply_of}
use Rattle.refusal.proofs.Ensuring.{filled_given, filled_refused}
use Rattle.exports.specs.Questions.{values_of}
use Rattle.exports.proofs.questions.twolsken_numerator.Goals as goal

pub returns-in-Ok : goal.returns-in-Ok
returns-in-Ok c =
    let e = ap reply_of c.in-Ok.is in
    record {
      counted = c.numerator.result;
      answer = c.numerator.ensures;
      answered = sym (ap number_in e);
      value_left = sym (filled_given values_of e _);
    }

pub returns-in-Err : goal.returns-in-Err
returns-in-Err c =
    let e = ap reply_of c.in-Err.is in
    record {
      counted = c.numerator.result;
      answer = c.numerator.ensures;
      answered = c.from-in-Err.ensures ∙ c.from.ensures ∙ sym (ap number_in e);
      value_left = sym (filled_refused values_of e _);
    }
