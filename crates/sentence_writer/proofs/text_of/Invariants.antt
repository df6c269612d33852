-- What is written and what is left are the whole; each node that is left has a text. Assumes nothing.
use Rattle.std.proofs.Common.{◌≡◌, ◌++◌, map, drop}
use Rattle.sentence.specs.Grammar.{letter_byte, body_text, sentence_text}
use Rattle.sentence.specs.Working.{AllWritable}
use Rattle.sentence_writer.proofs.text_of.Given as goal

abbrev pub invariant-loop-exists : goal.invariant-loop-exists
invariant-loop-exists l = l.text ++ map letter_byte (drop l.exists-index l.letters) ≡ map letter_byte l.letters

abbrev pub invariant-loop-node : goal.invariant-loop-node
invariant-loop-node l = record {
  writable : AllWritable (drop l.node-index l.nodes);
  whole : l.text ++ body_text (drop l.node-index l.nodes) ≡ sentence_text l.letters l.nodes;
}
