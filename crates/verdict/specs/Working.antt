-- Working: what the functions of this crate promise one another. Nothing here has to be believed.
use Rattle.std.specs.Prelude.{ℕ, Bool, List, map, ◌≡◌}
use Rattle.model.specs.declared.Model.{Model}
use Rattle.sentence.specs.declared.Sentence.{Sentence}
use Rattle.meaning.specs.Tree.{letter_of}
use Rattle.meaning.specs.Meaning.{verdict}
use Rattle.chain.specs.Of.{chain_of}
use Rattle.question.specs.Working.{TextOfSentence}

-- the verdict, of whatever text the sentence is read from
pub record Judged (m : Model) (s : Sentence) (r : Bool) : Type 0 where
  pub each : (text : List ℕ) (b : TextOfSentence text s) → r ≡ verdict (chain_of m) (map letter_of b.prefix) b.body
