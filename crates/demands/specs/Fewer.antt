-- T-02 of document 02, variables that a path never looks at: of the calls, beside the meaning in which all n variables step.
use Rattle.std.specs.Prelude.{ℕ, ◌*◌, ◌≤◌, true, List, map, ◌≡◌, length}
use Rattle.std.specs.Prelude.{Bool, Result}
use Rattle.refusal.specs.declared.Refusal.{Refusal}
use Rattle.refusal.specs.Answers.{reply_of, gives}
use Rattle.model.specs.Layout.{fields_of}
use Rattle.model.specs.Contract.{file_number}
use Rattle.meaning.specs.Chain.{Chain, Tuple, Inside}
use Rattle.meaning.specs.Tree.{PathFormula, letter_of}
use Rattle.meaning.specs.Named.{v}
use Rattle.meaning.specs.Meaning.{numerator, denominator}
use Rattle.unchanged.specs.Base as Base
use Rattle.unchanged.specs.Unchanged.{shrunk, Unchanged}
use Rattle.question.specs.Contract.{QuestionRow, SentenceOf, AreaShort}
use Rattle.verdict.specs.Contract.{VerdictEnsures}
use Rattle.numerator.specs.declared.Ratio.{Ratio}
use Rattle.numerator.specs.Contract.{NumeratorRow, NumeratorEnsures, numbered}
use Rattle.demands.specs.Demands.{chain_in}

-- the base's numerator and denominator are these two times the power of D of the variables that the path formula does not name
pub record SameFraction (c : Chain) (p : PathFormula) (n : ℕ) (tuple : Tuple) (top bottom : ℕ) : Type 0 where
  pub numerators : Base.numerator p c n tuple ≡ top * shrunk p c.D n
  pub denominators : Base.denominator p c.D n ≡ bottom * shrunk p c.D n

-- the rows but row 1 of a question before T-02: the same but for row 10, which went by the denominators of all n variables
pub data BaseRow (file text : List ℕ) : ℕ → Type 0 where
  same : {n : ℕ} → QuestionRow file text n → (n ≡ 10 → ⊥) → BaseRow file text n
  size : (s : SentenceOf text) → Base.exceeds s.body (fields_of file).d (length s.prefix) ≡ true → BaseRow file text 10

-- Of whatever verdict and numerator answer, beside the meaning over all n variables (`Base`):
pub record FewerVariables : Type 0 where
  -- on the chain of every accepted file no value and no verdict has changed, and row 10 refuses no body that it did not;
  pub values : (file : List ℕ) → file_number file ≡ 0 → (n : ℕ) → Unchanged (chain_in file) n
  -- every verdict that was given is still given, where the work area is long enough;
  pub still_given : {file text before after : List ℕ} {a : Result Bool Refusal} → VerdictEnsures file text before a after →
      ((n : ℕ) → BaseRow file text n → ⊥) → (AreaShort file text (length before) → ⊥) →
      (s : SentenceOf text) × (reply_of a ≡ gives (Base.verdict (chain_in file) (map letter_of s.prefix) s.body))
  -- the two numbers of numerator, times one power of D, are the base's;
  pub fractions : {file text tuple before after : List ℕ} {path : ℕ} {a : Result Ratio Refusal} →
      NumeratorEnsures file text tuple path before a after → ((n : ℕ) → NumeratorRow file text tuple path (length before) n → ⊥) →
      (s : SentenceOf text) × (x : Ratio) × (reply_of a ≡ gives x) × SameFraction (chain_in file) (numbered s.body path)
      (length s.prefix) tuple x.numerator x.denominator
  -- and where no variable occurs in a path formula, they are 0 or 1, and 1.
  pub none_named : (file : List ℕ) → file_number file ≡ 0 → (p : PathFormula) (n : ℕ) → v p n ≡ 0 → {tuple : Tuple} →
      Inside (chain_in file).N n tuple → (numerator p (chain_in file) n tuple ≤ 1) × (denominator p (chain_in file).D n ≡ 1)
