-- `exports::sentences::twolsken_write_sentence` meets its contract, by what write sentence ensures of its answer: the record that is
-- written is that of the lent parts.
use mathlib.Core.Bool.{Bool}
use mathlib.Core.List.{List}
use mathlib.Core.Path.{ap₂, subst}
use Rattle.sentence.specs.declared.Node.{Node}
use Rattle.sentence.specs.declared.Sentence.{Sentence}
use Rattle.exports.specs.Sentences.{ExportedWriteSentence}
use Rattle.exports.proofs.sentences.twolsken_write_sentence.Goals as goal

pub returns : goal.returns
returns c =
    let a = c.args in
    let w = c.write_sentence in
    let same = ap₂ {C = Sentence}
    (λ (exists : List Bool) (nodes : List Node). record { letters = a.letters; exists = exists; count = a.count; nodes = nodes })
    c.letters_of.ensures c.places_of.ensures in
    subst (λ (s : Sentence). ExportedWriteSentence s a.out.now w.new.out c.answer_code.result) same
    (record { answer = w.result; ensures = w.ensures; coded = c.answer_code.ensures })
