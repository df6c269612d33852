-- Verdict and numerator as other languages see them: the contracts of both calls, with the code of a verdict.
use Rattle.std.specs.Prelude.{ℕ, Bool, true, false, List, [], ◌∷◌, ◌≡◌, Result, Ok, Err}
use Rattle.refusal.specs.declared.Refusal.{Refusal}
use Rattle.refusal.specs.Answers.{number_of, number_in, filled, reply_of}
use Rattle.verdict.specs.Contract.{VerdictEnsures}
use Rattle.numerator.specs.declared.Ratio.{Ratio}
use Rattle.numerator.specs.Contract.{NumeratorEnsures}
use Rattle.codes.specs.Codes.{Coded}

-- the code of what verdict answers: 256 for 'holds', 257 for 'fails', or the refusal's number, which is below both
unfoldable pub verdict_code : Result Bool Refusal → ℕ
verdict_code (Ok true) = 256
verdict_code (Ok false) = 257
verdict_code (Err refusal) = number_of refusal

-- verdict, exported
abbrev pub ExportedVerdict : (file text before after : List ℕ) → ℕ → Type 0
ExportedVerdict file text before = Coded verdict_code (VerdictEnsures file text before)

-- the two numbers of a numerator call
abbrev pub values_of : Ratio → List ℕ
values_of ratio = ratio.numerator ∷ ratio.denominator ∷ []

-- numerator, exported: it returns 0 or the refusal's number, and ensures what numerator ensures. `value` and `value'` are the two
-- numbers lent for the numerator and the denominator, before and after
pub record ExportedNumerator (file text tuple : List ℕ) (path : ℕ) (before value after value' : List ℕ) (r : ℕ) : Type 0 where
  pub counted : Result Ratio Refusal
  pub answer : NumeratorEnsures file text tuple path before counted after
  pub answered : r ≡ number_in (reply_of counted)
  pub value_left : value' ≡ filled values_of (reply_of counted) value
