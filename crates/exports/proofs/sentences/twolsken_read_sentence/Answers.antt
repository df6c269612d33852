-- `exports::sentences::twolsken_read_sentence` meets its contract, by what read sentence ensures.
use mathlib.Core.Path.{ap, sym, ◌∙◌}
use Rattle.refusal.specs.Answers.{number_in, reply_of}
use Rattle.refusal.proofs.Ensuring.{filled_given, filled_refused}
use Rattle.sentence.specs.declared.Sentence.{Sentence}
use Rattle.codes.specs.Codes.{sentence_head, letter_codes, codes_of}
use Rattle.exports.proofs.sentences.twolsken_read_sentence.Goals as goal

pub returns-in-Err : goal.returns-in-Err
returns-in-Err c =
    let e = ap reply_of c.in-Err.is in
    record {
      read = c.read_sentence.result;
      answer = c.read_sentence.ensures;
      answered = c.from-in-Err.ensures ∙ c.from.ensures ∙ sym (ap number_in e);
      head_left = sym (filled_refused sentence_head e _);
      exists_left = sym (filled_refused (λ (s : Sentence). letter_codes s.exists) e _);
      codes_left = sym (filled_refused (λ (s : Sentence). codes_of s.nodes) e _);
    }

pub returns-in-Ok : goal.returns-in-Ok
returns-in-Ok c =
    let e = ap reply_of c.in-Ok.is in
    record {
      read = c.read_sentence.result;
      answer = c.read_sentence.ensures;
      answered = sym (ap number_in e);
      head_left = sym (filled_given sentence_head e _);
      exists_left = c.letter_codes.ensures ∙ sym (filled_given (λ (s : Sentence). letter_codes s.exists) e _);
      codes_left = c.codes_of.ensures ∙ sym (filled_given (λ (s : Sentence). codes_of s.nodes) e _);
    }
