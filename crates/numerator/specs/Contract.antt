-- Document 01, 'Calls and refusal numbers', for numerator: its rows, and what the call answers and leaves.
use Rattle.std.specs.Prelude.{ℕ, ◌≤◌, false, List, ◌≡◌, length, get_or, Result}
use Rattle.refusal.specs.Rows.{OneLast}
use Rattle.refusal.specs.declared.Refusal.{Refusal}
use Rattle.refusal.specs.Answers.{reply_of, Ensured}
use Rattle.model.specs.Layout.{fields_of}
use Rattle.meaning.specs.Tree.{Formula, always, PathFormula, next, paths_of}
use Rattle.meaning.specs.Meaning.{numerator, denominator}
use Rattle.chain.specs.Of.{chain_of}
use Rattle.paths.specs.Tuples.{members_below}
use Rattle.question.specs.Contract.{QuestionRow, SentenceOf, needed, AreaShort, cleared}
use Rattle.numerator.specs.declared.Ratio.{Ratio}

-- the path formula with a number, counted from 0 in written order (where there is none, row 15 applies)
unfoldable pub numbered : Formula → ℕ → PathFormula
numbered f path = get_or (paths_of f) path (next always)

-- the rows but row 1: those of the question, and row 15, where the tuple's length is not n, a member is not below N, or there is no
-- such path formula
pub data AskedRow (file text tuple : List ℕ) (path : ℕ) : ℕ → Type 0 where
  question : {n : ℕ} → QuestionRow file text n → AskedRow file text tuple path n
  long : (s : SentenceOf text) → (length tuple ≡ length s.prefix → ⊥) → AskedRow file text tuple path 15
  member : members_below (fields_of file).n tuple ≡ false → AskedRow file text tuple path 15
  missing : (s : SentenceOf text) → length (paths_of s.body) ≤ path → AskedRow file text tuple path 15

-- the rows: those, and row 1 where none of them applies and the area is too short
abbrev pub NumeratorRow : (file text tuple : List ℕ) → (path room : ℕ) → ℕ → Type 0
NumeratorRow file text tuple path room = OneLast (AskedRow file text tuple path) (AreaShort file text room)

-- the correct result of numerator: the numerator of the path formula at the tuple, and its denominator; the numbers of the area that
-- it needs are zero afterwards
pub record Counts (file text tuple : List ℕ) (path : ℕ) (before : List ℕ) (values : Ratio) (after : List ℕ) : Type 0 where
  pub sentence : SentenceOf text
  pub top : values.numerator ≡ numerator (numbered sentence.body path) (chain_of (fields_of file)) (length sentence.prefix) tuple
  pub bottom : values.denominator ≡ denominator (numbered sentence.body path) (fields_of file).d (length sentence.prefix)
  pub left : after ≡ cleared (needed file sentence) before

-- what numerator ensures of the model file, the sentence text, the tuple, the path formula's number, the work area before and
-- after, and what it answers
pub record NumeratorEnsures (file text tuple : List ℕ) (path : ℕ) (before : List ℕ) (answer : Result Ratio Refusal) (after : List ℕ) :
    Type 0 where
  pub ensured : Ensured (NumeratorRow file text tuple path (length before)) (Counts file text tuple path before) before
      (reply_of answer) after
