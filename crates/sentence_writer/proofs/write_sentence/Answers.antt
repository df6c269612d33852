-- `write_sentence` meets its contract: what is decided is written. Assumes nothing.
use Rattle.std.proofs.Common.{rules, arith, ◌≡◌, Err}
use Rattle.sentence.specs.Grammar.{sentence_text}
use Rattle.sentence.specs.Record.{prefix_of, nodes_of}
use Rattle.sentence.proofs.Unique.{all_writable}
use Rattle.sentence_writer.proofs.WriteAll.{answer_refused, answer_wrote}
use Rattle.sentence_writer.proofs.write_sentence.Goals as goal

pub returns-in_err-size : goal.returns-in_err-size
returns-in_err-size c =
    let refused : c.from_residual.result ≡ Err c.in_err-size.field-0.0 = search rules in
    rw refused (answer_refused c.args.out.now c.in_err-size.ensures)

pub text_of-text-requires : goal.text_of-text-requires
text_of-text-requires c =
    let k = c.in_ok-size.ensures in
    (all_writable k.spells.nests, omega (arith, k.sized, k.short))

pub returns : goal.returns
returns c =
    let text : c.copy_from_slice.new.self ≡ sentence_text (prefix_of c.args.s.now) (nodes_of c.args.s.now) = search rules in
    answer_wrote c.args.out.now c.in_ok-size.ensures text
