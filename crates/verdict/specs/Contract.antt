-- Document 01, 'Calls and refusal numbers', for verdict: its rows, and what the call answers and leaves.
use Rattle.std.specs.Prelude.{ℕ, Bool, List, map, ◌≡◌, length, Result}
use Rattle.refusal.specs.Rows.{OneLast}
use Rattle.refusal.specs.declared.Refusal.{Refusal}
use Rattle.refusal.specs.Answers.{reply_of, Ensured}
use Rattle.model.specs.Layout.{fields_of}
use Rattle.meaning.specs.Tree.{letter_of}
use Rattle.meaning.specs.Meaning.{verdict}
use Rattle.chain.specs.Of.{chain_of}
use Rattle.question.specs.Contract.{QuestionRow, SentenceOf, needed, AreaShort, cleared}

-- the rows: those of the question, and row 1 where none of them applies and the area is too short
abbrev pub VerdictRow : (file text : List ℕ) → ℕ → ℕ → Type 0
VerdictRow file text room = OneLast (QuestionRow file text) (AreaShort file text room)

-- the correct result of verdict: 'holds' exactly if the sentence holds; the numbers of the area that it needs are zero afterwards
pub record Judges (file text before : List ℕ) (holds : Bool) (after : List ℕ) : Type 0 where
  pub sentence : SentenceOf text
  pub meant : holds ≡ verdict (chain_of (fields_of file)) (map letter_of sentence.prefix) sentence.body
  pub left : after ≡ cleared (needed file sentence) before

-- what verdict ensures of the model file, the sentence text, the work area before and after, and what it answers
pub record VerdictEnsures (file text before : List ℕ) (answer : Result Bool Refusal) (after : List ℕ) : Type 0 where
  pub ensured : Ensured (VerdictRow file text (length before)) (Judges file text before) before (reply_of answer) after
