-- Document 01, 'Calls and refusal numbers': the rows 2 to 11, which verdict and numerator share, and what row 1 is given for (document
-- 02, T-07). A question is a model file, a sentence text and a work area.
use Rattle.std.specs.Prelude.{ℕ, ◌*◌, ◌<◌, Bool, true, false, List, ◌++◌, ◌≡◌, ltb, length, drop, replicate}
use Rattle.refusal.specs.Rows.{Applies}
use Rattle.model.specs.Layout.{fields_of}
use Rattle.model.specs.Contract.{file_rows}
use Rattle.sentence.specs.declared.Node.{Node}
use Rattle.sentence.specs.declared.Node.TheVariants.{True, Label, Not, And, Compare, Probability}
use Rattle.sentence.specs.declared.Node.TheVariants.{Constant, Sum, Difference, Product, Next, Until}
use Rattle.sentence.specs.Grammar.{Spells}
use Rattle.sentence_reader.specs.Contract.{ReadRow}
use Rattle.meaning.specs.Lists.{every}
use Rattle.meaning.specs.Chain.{Chain, tuple_count}
use Rattle.meaning.specs.Tree.{Formula}
use Rattle.meaning.specs.Size.{exceeds}
use Rattle.trees.specs.Listed.{formula_nodes}
use Rattle.chain.specs.Of.{chain_of}

-- a node's label letter, if it has one, is below A
abbrev pub label_right : ℕ → Node → Bool
label_right a True = true
label_right a (Label l v) = ltb l a
label_right a Not = true
label_right a And = true
label_right a (Compare r) = true
label_right a Probability = true
label_right a (Constant t b) = true
label_right a Sum = true
label_right a Difference = true
label_right a Product = true
label_right a Next = true
label_right a (Until k1 k2) = true

-- the sentence of a text: the prefix and the body that spell it. Every node list of the grammar is that of a tree, and of one only
-- (`formula_of` and `sentence_once` of the crate `trees`)
pub record SentenceOf (text : List ℕ) : Type 0 where
  pub prefix : List Bool
  pub body : Formula
  pub spelled : Spells prefix (formula_nodes body) text

-- the rows but row 1: `QuestionRow file text n` says that the row with the number n applies to the model file and the sentence text
pub data QuestionRow (file text : List ℕ) : ℕ → Type 0 where
  model : {n : ℕ} → Applies n (file_rows file) → QuestionRow file text n
  sentence : {n : ℕ} → ReadRow text n → QuestionRow file text n
  labels : (s : SentenceOf text) → every (label_right (fields_of file).a) (formula_nodes s.body) ≡ false → QuestionRow file text 9
  size : (s : SentenceOf text) → exceeds s.body (fields_of file).d (length s.prefix) ≡ true → QuestionRow file text 10
  tuples : (s : SentenceOf text) → 1024 < tuple_count (chain_of (fields_of file)) (length s.prefix) → QuestionRow file text 11

-- how many numbers of the work area a sentence of n letters needs on a chain: 8 × T
unfoldable pub area_needed : Chain → ℕ → ℕ
area_needed c n = 8 * tuple_count c n

-- the same of the sentence of a text, on the chain of a file
abbrev pub needed : List ℕ → {text : List ℕ} → SentenceOf text → ℕ
needed file s = area_needed (chain_of (fields_of file)) (length s.prefix)

-- what row 1 is given for: the work area, of `room` numbers, is shorter than the text's sentence needs on the file's chain
pub record AreaShort (file text : List ℕ) (room : ℕ) : Type 0 where
  pub sentence : SentenceOf text
  pub short : room < needed file sentence

-- after an answer the first n numbers of the work area are zero, the others unchanged
unfoldable pub cleared : ℕ → List ℕ → List ℕ
cleared n before = replicate n 0 ++ drop n before
