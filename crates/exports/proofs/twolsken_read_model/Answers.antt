-- `exports::twolsken_read_model` meets its contract, by what read model ensures.
use mathlib.Core.Path.{ap, sym, ◌∙◌}
use Rattle.refusal.specs.Answers.{number_in, reply_of}
use Rattle.refusal.proofs.Ensuring.{filled_given, filled_refused}
use Rattle.model.specs.declared.Model.{Model}
use Rattle.exports.specs.Models.{head_of}
use Rattle.exports.proofs.twolsken_read_model.Goals as goal

pub returns-in-Err : goal.returns-in-Err
returns-in-Err c =
    let e = ap reply_of c.in-Err.is in
    record {
      read = c.read_model.result;
      answer = c.read_model.ensures;
      answered = c.from-in-Err.ensures ∙ c.from.ensures ∙ sym (ap number_in e);
      head_left = sym (filled_refused head_of e _);
      masks_left = sym (filled_refused (λ (m : Model). m.masks) e _);
      weights_left = sym (filled_refused (λ (m : Model). m.weights) e _);
    }

pub returns-in-Ok : goal.returns-in-Ok
returns-in-Ok c =
    let e = ap reply_of c.in-Ok.is in
    record {
      read = c.read_model.result;
      answer = c.read_model.ensures;
      answered = sym (ap number_in e);
      head_left = sym (filled_given head_of e _);
      masks_left = sym (filled_given (λ (m : Model). m.masks) e _);
      weights_left = sym (filled_given (λ (m : Model). m.weights) e _);
    }
