-- A writer's code tells its answer: no file has more than 3,072 bytes and no text more than 400, so that no code is both a size and a
-- refusal (`model_told`, `merge_told`, `sentence_told`).
use Prim.Native.Nat.{ℕ, ◌≤◌, ◌<◌}
use mathlib.Core.Bool.{true}
use mathlib.Core.List.{List}
use mathlib.Core.Path.{◌≡◌, sym, ap, ◌∙◌}
use native.Mathlib.Decide.{dec_lt}
use native.Mathlib.Omega.{arith}
use lib.ListN.{length}
use Rattle.std.specs.Prelude.{Result, Ok, Err}
use Rattle.refusal.specs.declared.Refusal.{Refusal}
use Rattle.refusal.specs.Rows.{Row, first, Ascending}
use Rattle.refusal.specs.Answers.{gives, Ensured, refused, answered, TextAtFront, Writes}
use Rattle.refusal.proofs.Ensuring.{right_of}
use Rattle.refusal.proofs.Listed.{list_number, none_applies}
use Rattle.model.specs.declared.Model.{Model}
use Rattle.model.specs.Layout.{fields_of, blocks, file_of}
use Rattle.model.specs.Rules.{fields_right}
use Rattle.model.specs.Contract.{record_number, WriteModelEnsures}
use Rattle.model.proofs.Answer.{record_rows_ascend}
use Rattle.model.proofs.Rightness.{states_few}
use Rattle.model.proofs.Theorems.{record_accepted}
use Rattle.model.proofs.Written.{length_blocks}
use Rattle.sentence.specs.Grammar.{Spells}
use Rattle.sentence.specs.Record.{prefix_of, nodes_of}
use Rattle.sentence_writer.specs.Contract.{WriteRow, unspelled, WriteSentenceEnsures}
use Rattle.sentence.specs.declared.Sentence.{Sentence}
use Rattle.codes.specs.Codes.{code_of}
use Rattle.codes.proofs.Told.{Short, answer_told}
use Rattle.chain.proofs.Accepted.{fields_are_right}
use Rattle.groups.specs.Groups.{merged_model}
use Rattle.merge.specs.Contract.{merge_number, MergeEnsures}
use Rattle.merge.proofs.Merging.{fields_merged}
use Rattle.merge.proofs.Numbers.{merge_rows_ascend}
use Rattle.merge.proofs.Theorems.{mergeable}
use Rattle.exports.specs.Models.{ExportedWriteModel, ExportedMerge}
use Rattle.exports.specs.Sentences.{ExportedWriteSentence}

-- the size that a writer tells is that of the text it was to write, and no row applies
wrote : {rows : List Row} {text before after : List ℕ} {size : ℕ} → Ascending 0 rows → Writes rows text before after (Ok size) →
    (first rows ≡ 0) × (size ≡ length text)
wrote ascending writes =
    let free = sym (list_number ascending writes.ensured) in
    let right = right_of (none_applies ascending free) writes.ensured in
    (free, cc right.1 ∙ right.2.sized ∙ ap length right.2.asked)

-- a file has at most six blocks
file_few : (m : Model) → fields_right m ≡ true → length (file_of m) ≤ 3072
file_few m fields = omega (arith, states_few m fields, length_blocks m (blocks m.n))

-- what write model writes is short
model_short : (m : Model) (before : List ℕ) (w : Result ℕ Refusal) (after : List ℕ) →
    WriteModelEnsures m before after w → Short w
unfolding record_number
model_short m before (Ok size) after writes =
    let told = wrote (record_rows_ascend m (length before)) writes in
    omega (arith, told.1, file_few m (record_accepted m (length before) told.0).fields)
model_short m before (Err refusal) after writes = tt

-- what merge writes is short
merge_short : (file grouping before : List ℕ) (w : Result ℕ Refusal) (after : List ℕ) →
    MergeEnsures file grouping before after w → Short w
unfolding merge_number
merge_short file grouping before (Ok size) after writes =
    let told = wrote (merge_rows_ascend file grouping (length before)) writes in
    let m = mergeable file grouping (length before) told.0 in
    let right = fields_merged (fields_of file) grouping (fields_are_right file m.accepted) m.grouped in
    omega (arith, told.1, file_few (merged_model (fields_of file) grouping) right)
merge_short file grouping before (Err refusal) after writes = tt

-- what write sentence writes is short: a record spells one text, and it is refused where that has more than 400 bytes
sentence_short : (s : Sentence) (before : List ℕ) (w : Result ℕ Refusal) (after : List ℕ) → WriteSentenceEnsures s before w after → Short w
sentence_short s before (Ok size) after writes = by writes.ensured
  where
    by : Ensured (WriteRow s (length before)) (TextAtFront (Spells (prefix_of s) (nodes_of s)) before) before (gives size) after →
        Short (Ok size)
    by (refused {n = n} e left row least) =
        let z : ◌≡◌ {A = ℕ} 0 1 = cc in
        absurd (omega arith)
    by (answered {v = told} e right none) =
        let same : size ≡ told = cc in
        let few = fits (dec_lt 400 (length right.text)) in
        omega (arith, same, right.sized, few)
      where
        fits : Dec (400 < length right.text) → length right.text ≤ 400
        fits (yes more) =
            absurd (none 6 (unspelled (λ t p short. omega (arith, ap length (p.text ∙ sym right.asked.text)))))
        fits (no less) = omega arith
sentence_short s before (Err refusal) after writes = tt

-- who is given an answer's code is given that answer
module _ {before after : List ℕ} (a : Result ℕ Refusal) (short : Short a) where
  pub model_told : (m : Model) → ExportedWriteModel m before after (code_of a) →
      WriteModelEnsures m before after a
  model_told m = answer_told _ (model_short m before) a short

  pub merge_told : (file grouping : List ℕ) → ExportedMerge file grouping before after (code_of a) →
      MergeEnsures file grouping before after a
  merge_told file grouping = answer_told _ (merge_short file grouping before) a short

  pub sentence_told : (s : Sentence) → ExportedWriteSentence s before after (code_of a) → WriteSentenceEnsures s before a after
  sentence_told s = answer_told _ (sentence_short s before) a short
