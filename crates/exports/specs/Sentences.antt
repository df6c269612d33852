-- Read sentence and write sentence as other languages see them: the contracts of both calls.
use Rattle.std.specs.Prelude.{ℕ, List, ◌≡◌, Result}
use Rattle.refusal.specs.declared.Refusal.{Refusal}
use Rattle.refusal.specs.Answers.{number_in, filled, reply_of}
use Rattle.sentence_reader.specs.Contract.{ReadSentenceEnsures}
use Rattle.sentence_writer.specs.Contract.{WriteSentenceEnsures}
use Rattle.sentence.specs.declared.Sentence.{Sentence}
use Rattle.codes.specs.Codes.{Coded, code_of, sentence_head, letter_codes, codes_of}

-- read sentence, exported: the number of what read sentence answers, and the parts of its record
pub record ExportedReadSentence (text : List ℕ) (head exists : List ℕ) (codes : List (List ℕ)) (head' exists' : List ℕ)
    (codes' : List (List ℕ)) (r : ℕ) : Type 0 where
  pub read : Result Sentence Refusal
  pub answer : ReadSentenceEnsures text read
  pub answered : r ≡ number_in (reply_of read)
  pub head_left : head' ≡ filled sentence_head (reply_of read) head
  pub exists_left : exists' ≡ filled (λ s. letter_codes s.exists) (reply_of read) exists
  pub codes_left : codes' ≡ filled (λ s. codes_of s.nodes) (reply_of read) codes

-- write sentence, exported
abbrev pub ExportedWriteSentence : Sentence → (before after : List ℕ) → ℕ → Type 0
ExportedWriteSentence s before = Coded code_of (WriteSentenceEnsures s before)
