-- `read_sentence` meets its contract: each way out is a case of ReadAll. Assumes nothing.
use Rattle.std.proofs.Common.{rules, arith, ◌≡◌, Err}
use Rattle.refusal.specs.declared.Refusal.TheVariants.{Grammar}
use Rattle.sentence_reader.specs.Working.{IsSentence, NoSentence}
use Rattle.sentence_reader.proofs.ReadAll.{answer_outside, answer_long, answer_range, answer_many, answer_done}
use Rattle.sentence_reader.proofs.read_sentence.Goals as goal

pub returns-then-text-gt-TEXT_BYTES : goal.returns-then-text-gt-TEXT_BYTES
returns-then-text-gt-TEXT_BYTES c = answer_long (omega arith)

pub returns-in_err-prefix : goal.returns-in_err-prefix
returns-in_err-prefix c =
    let none : NoSentence c.args.text.now = search rules in
    let refused : c.from_residual.result ≡ Err Grammar = search rules in
    rw refused (answer_outside none)

pub returns-then-fault : goal.returns-then-fault
returns-then-fault c =
    let is : IsSentence c.args.text.now c.in_ok-prefix.prefix c.parts.new.body = search rules in
    answer_range is (omega arith) c.if-fault.true

pub returns-then-count-gt-NODES : goal.returns-then-count-gt-NODES
returns-then-count-gt-NODES c =
    let is : IsSentence c.args.text.now c.in_ok-prefix.prefix c.parts.new.body = search rules in
    answer_many is (omega arith) c.if-fault.false (omega (arith, c.if-count-gt-NODES.true))

pub returns : goal.returns
returns c =
    let is : IsSentence c.args.text.now c.in_ok-prefix.prefix c.parts.new.body = search rules in
    answer_done is (omega arith) c.if-fault.false (omega (arith, c.if-count-gt-NODES.false))
