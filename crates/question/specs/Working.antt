-- Working: what the functions of this crate promise one another. Nothing here has to be believed.
use Rattle.std.specs.Prelude.{ℕ, ◌^◌, ◌≤◌, Bool, false, List, ◌≡◌, Result, Ok, Err}
use Rattle.refusal.specs.declared.Refusal.{Refusal}
use Rattle.refusal.specs.Answers.{number_in, number_of, reply_of}
use Rattle.refusal.specs.Rows.{Decided}
use Rattle.model.specs.declared.Model.{Model}
use Rattle.model.specs.Layout.{fields_of}
use Rattle.model.specs.Contract.{file_number}
use Rattle.sentence.specs.declared.Sentence.{Sentence}
use Rattle.sentence.specs.Grammar.{Spells}
use Rattle.sentence_reader.specs.Contract.{ReadRow}
use Rattle.sentence.specs.Record.{record_of}
use Rattle.meaning.specs.Tree.{Formula}
use Rattle.meaning.specs.Size.{exceeds}
use Rattle.layers.specs.declared.Setting.{Setting}
use Rattle.trees.specs.Listed.{formula_nodes}
use Rattle.chain.specs.Of.{chain_of}
use Rattle.question.specs.declared.Question.{Question}
use Rattle.question.specs.Contract.{QuestionRow, area_needed}

-- the file is accepted and m is its model
pub record FileOfModel (file : List ℕ) (m : Model) : Type 0 where
  pub accepted : file_number file ≡ 0
  pub fields : m ≡ fields_of file

-- the text is accepted and s is its sentence
pub record TextOfSentence (text : List ℕ) (s : Sentence) : Type 0 where
  pub prefix : List Bool
  pub body : Formula
  pub spelled : Spells prefix (formula_nodes body) text
  pub clean : (m : ℕ) → ReadRow text m → ⊥
  pub fields : s ≡ record_of prefix (formula_nodes body)

-- m and s are a file's model and a text's sentence
pub record BothRead (m : Model) (s : Sentence) : Type 0 where
  pub file : List ℕ
  pub text : List ℕ
  pub model : FileOfModel file m
  pub sentence : TextOfSentence text s

-- what the rows give, of whatever file and text m and s are read from
pub record Late (m : Model) (s : Sentence) (answer : Result Unit Refusal) : Type 0 where
  pub each : (file text : List ℕ) → FileOfModel file m → TextOfSentence text s →
      Decided (QuestionRow file text) (number_in (reply_of answer))

-- none of the question's rows applies to the pair
pub record Ready (m : Model) (s : Sentence) : Type 0 where
  pub read : BothRead m s
  pub small : exceeds read.sentence.body m.d s.letters ≡ false
  pub few : m.n ^ s.letters ≤ 1024

-- none of the rows applies to the file and the text, the model and the sentence are theirs, and so many numbers of the work area are needed
pub record Answerable (file text : List ℕ) (q : Question) : Type 0 where
  pub none : (k : ℕ) → QuestionRow file text k → ⊥
  pub model : FileOfModel file q.model
  pub sentence : TextOfSentence text q.sentence
  pub ready : Ready q.model q.sentence
  pub area : q.area ≡ area_needed (chain_of q.model) q.sentence.letters

-- the refusal that the rows give of the file and the text, and where they give none what is left to answer
abbrev pub QuestionOf : (file text : List ℕ) → Result Question Refusal → Type 0
QuestionOf file text (Ok q) = Answerable file text q
QuestionOf file text (Err refusal) = Decided (QuestionRow file text) (number_of refusal)

-- the setting of the pair: N, n, T and D
pub record SettingOf (m : Model) (s : Sentence) (g : Setting) : Type 0 where
  pub states : g.states ≡ m.n
  pub variables : g.variables ≡ s.letters
  pub tuples : g.tuples ≡ m.n ^ s.letters
  pub d : g.d ≡ m.d
