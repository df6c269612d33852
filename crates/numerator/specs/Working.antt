-- Working: what the functions of this crate promise one another. Nothing here has to be believed.
use Rattle.std.specs.Prelude.{ℕ, Bool, true, ◌&&◌, List, ◌≡◌, ltb, length}
use Rattle.model.specs.declared.Model.{Model}
use Rattle.sentence.specs.declared.Sentence.{Sentence}
use Rattle.meaning.specs.Tree.{Formula, paths_of}
use Rattle.meaning.specs.Meaning.{numerator, denominator}
use Rattle.chain.specs.Of.{chain_of}
use Rattle.paths.specs.Tuples.{tuple_right}
use Rattle.question.specs.Working.{TextOfSentence, Ready}
use Rattle.numerator.specs.declared.Ratio.{Ratio}
use Rattle.numerator.specs.Contract.{numbered}

-- the tuple and the number are right for a body
abbrev pub asks_right : Model → Sentence → Formula → List ℕ → ℕ → Bool
asks_right m s f tuple number = tuple_right s.letters m.n tuple && ltb number (length (paths_of f))

-- a pair to which no row of the question applies, with such a tuple and number
pub record Asked (m : Model) (s : Sentence) (tuple : List ℕ) (number : ℕ) : Type 0 where
  pub ready : Ready m s
  pub right : asks_right m s ready.read.sentence.body tuple number ≡ true

-- whether the tuple and the number are right, of whatever text the sentence is read from
pub record Right (m : Model) (s : Sentence) (tuple : List ℕ) (number : ℕ) (r : Bool) : Type 0 where
  pub each : (text : List ℕ) (b : TextOfSentence text s) → r ≡ asks_right m s b.body tuple number

-- the numerator and the denominator, of whatever text the sentence is read from
pub record CountedSo (m : Model) (s : Sentence) (tuple : List ℕ) (number : ℕ) (r : Ratio) : Type 0 where
  pub each : (text : List ℕ) (b : TextOfSentence text s) →
      (r.numerator ≡ numerator (numbered b.body number) (chain_of m) s.letters tuple) ×
      (r.denominator ≡ denominator (numbered b.body number) m.d s.letters)
