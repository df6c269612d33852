-- Document 01, 'Calls and refusal numbers', for write sentence: its rows, and what the call ensures.
use Rattle.std.specs.Prelude.{ℕ, ◌≤◌, ◌<◌, true, List, ◌≡◌, length, Result}
use Rattle.refusal.specs.declared.Refusal.{Refusal}
use Rattle.refusal.specs.Answers.{reply_of, TextAtFront, Ensured}
use Rattle.sentence.specs.Grammar.{Spells, some_out_of_range}
use Rattle.sentence.specs.Record.{prefix_of, nodes_of}
use Rattle.sentence.specs.declared.Sentence.{Sentence}

-- the rows of write sentence, for a record and an output of `room` bytes
pub data WriteRow (s : Sentence) (room : ℕ) : ℕ → Type 0 where
  counted : 64 < s.count → WriteRow s room 6
  lettered : 4 < s.letters → WriteRow s room 6
  unspelled : ((t : List ℕ) → Spells (prefix_of s) (nodes_of s) t → length t ≤ 400 → ⊥) → WriteRow s room 6
  range : some_out_of_range s.letters (nodes_of s) ≡ true → WriteRow s room 7
  short : {t : List ℕ} → Spells (prefix_of s) (nodes_of s) t → room < length t → WriteRow s room 14

-- what write sentence ensures of the record, the output before and after, and what it answers: the text that the record's
-- prefix and nodes spell stands at the front
pub record WriteSentenceEnsures (s : Sentence) (before : List ℕ) (answer : Result ℕ Refusal) (after : List ℕ) : Type 0 where
  pub ensured : Ensured (WriteRow s (length before)) (TextAtFront (Spells (prefix_of s) (nodes_of s)) before)
      before (reply_of answer) after
