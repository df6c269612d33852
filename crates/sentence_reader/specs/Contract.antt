-- Document 01, 'Calls and refusal numbers', for read sentence: its rows, and what the call ensures.
use Rattle.std.specs.Prelude.{ℕ, ◌<◌, Bool, true, List, ◌≡◌, length, Result}
use Rattle.refusal.specs.Answers.{Reads}
use Rattle.refusal.specs.declared.Refusal.{Refusal}
use Rattle.sentence.specs.Grammar.{Spells, some_out_of_range}
use Rattle.sentence.specs.Record.{record_of}
use Rattle.sentence.specs.declared.Node.{Node}
use Rattle.sentence.specs.declared.Sentence.{Sentence}

-- the rows of read sentence: `ReadRow t n` says that the row with the number n applies to the text t
pub data ReadRow (t : List ℕ) : ℕ → Type 0 where
  outside : ((ps : List Bool) (ns : List Node) → Spells ps ns t → ⊥) → ReadRow t 6
  long : 400 < length t → ReadRow t 6
  range : {ps : List Bool} {ns : List Node} → Spells ps ns t → some_out_of_range (length ps) ns ≡ true → ReadRow t 7
  many : {ps : List Bool} {ns : List Node} → Spells ps ns t → 64 < length ns → ReadRow t 8

-- the correct result of read sentence: the record of the prefix and the nodes that spell the text
pub record Spelled (t : List ℕ) (s : Sentence) : Type 0 where
  pub prefix : List Bool
  pub nodes : List Node
  pub spells : Spells prefix nodes t
  pub fields : s ≡ record_of prefix nodes

-- what read sentence ensures of the text t and what it answers: the record of the prefix and the nodes that spell it
abbrev pub ReadSentenceEnsures : List ℕ → Result Sentence Refusal → Type 0
ReadSentenceEnsures t = Reads (ReadRow t) (Spelled t)
