-- The size so far and that of the text that is left are the whole. Assumes nothing.
use Rattle.std.proofs.Common.{◌≡◌, ◌+◌, ◌*◌, ◌≤◌, length, drop}
use Rattle.sentence.specs.Grammar.{body_text}
use Rattle.sentence_survey.proofs.text_size.Given as goal

abbrev pub invariant-loop-node : goal.invariant-loop-node
invariant-loop-node l = record {
  whole : l.size + length (body_text (drop l.node-index l.nodes)) ≡ length (body_text l.nodes);
  small : l.size ≤ 14 * l.node-index;
}
