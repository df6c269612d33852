-- Working: what the functions of this crate promise one another. Nothing here has to be believed.
-- The parts of the writer, said over the grammar.
use Rattle.std.specs.Prelude.{ℕ, ◌≤◌, ◌≡◌, length, Result, MatchResult}
use Rattle.refusal.specs.Answers.{number_of}
use Rattle.refusal.specs.declared.Refusal.{Refusal}
use Rattle.sentence.specs.Grammar.{Spells, sentence_text}
use Rattle.sentence.specs.Record.{prefix_of, nodes_of}
use Rattle.sentence.specs.declared.Sentence.{Sentence}
use Rattle.sentence_writer.specs.Contract.{WriteRow}

-- no row applies to the record and an output of `room` bytes: the record has a text, of this size, and there is room for it
pub record Cleared (s : Sentence) (room size : ℕ) : Type 0 where
  pub spells : Spells (prefix_of s) (nodes_of s) (sentence_text (prefix_of s) (nodes_of s))
  pub sized : size ≡ length (sentence_text (prefix_of s) (nodes_of s))
  pub lettered : s.letters ≤ 4
  pub counted : s.count ≤ 64
  pub short : size ≤ 400
  pub fits : size ≤ room
  pub free : (m : ℕ) → WriteRow s room m → ⊥

-- the refusal's row applies to them, and no row with a smaller number does
pub record Refuses (s : Sentence) (room : ℕ) (refusal : Refusal) : Type 0 where
  pub row : WriteRow s room (number_of refusal)
  pub least : (m : ℕ) → WriteRow s room m → number_of refusal ≤ m

-- what is decided before anything is written
abbrev pub Decision : Sentence → ℕ → Result ℕ Refusal → Type 0
Decision s room answer = MatchResult answer (Cleared s room) (Refuses s room)
