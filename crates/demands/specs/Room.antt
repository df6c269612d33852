-- T-07 of document 02, room by the model: of whatever verdict and numerator answer, and of the work area that they leave.
use Rattle.std.specs.Prelude.{ℕ, ◌≤◌, ◌<◌, List, ◌↔◌, ◌≡◌, length, get_or}
use Rattle.std.specs.Prelude.{Bool, Result}
use Rattle.refusal.specs.declared.Refusal.{Refusal}
use Rattle.refusal.specs.Answers.{reply_of, Reply, gives, refuses}
use Rattle.question.specs.Contract.{QuestionRow, SentenceOf, needed, AreaShort}
use Rattle.verdict.specs.Contract.{VerdictEnsures}
use Rattle.numerator.specs.declared.Ratio.{Ratio}
use Rattle.numerator.specs.Contract.{AskedRow, NumeratorEnsures}

-- How a call ends by its work area, of its rows but row 1 (`R n` says that the row with the number n applies), the area before, its reply
-- and the area after; `needed` is 8 × T:
pub record RoomBy {A : Type 0} (R : ℕ → Type 0) (file text before : List ℕ) (reply : Reply A) (after : List ℕ) : Type 0 where
  -- in refusal 1 exactly if no other row applies and the area is shorter than 8 × T,
  pub one : (reply ≡ refuses 1) ↔ (((n : ℕ) → R n → ⊥) × (s : SentenceOf text) × (length before < needed file s))
  -- in any other as if no area were asked for, whatever its length.
  pub others : (n : ℕ) → (n ≡ 1 → ⊥) → (reply ≡ refuses n) ↔ (R n × ((m : ℕ) → R m → n ≤ m))
  -- After an answer the area is as long as it was, and 8 × T or longer;
  pub long : (v : A) → reply ≡ gives v → (s : SentenceOf text) → (length after ≡ length before) × (needed file s ≤ length after)
  -- the first 8 × T numbers are zero,
  pub zeros : (v : A) → reply ≡ gives v → (s : SentenceOf text) (k : ℕ) → k < needed file s → get_or after k 0 ≡ 0
  -- and those past them unchanged.
  pub rest : (v : A) → reply ≡ gives v → (s : SentenceOf text) (k : ℕ) → needed file s ≤ k → get_or after k 0 ≡ get_or before k 0

-- Both calls end so, and what they answer is the same for every area that is not too short.
pub record RoomByModel : Type 0 where
  pub verdict_call : {file text before after : List ℕ} {a : Result Bool Refusal} → VerdictEnsures file text before a after →
      RoomBy (QuestionRow file text) file text before (reply_of a) after
  pub numerator_call : {file text tuple before after : List ℕ} {path : ℕ} {a : Result Ratio Refusal} →
      NumeratorEnsures file text tuple path before a after →
      RoomBy (AskedRow file text tuple path) file text before (reply_of a) after
  pub same_verdict : {file text before before' after after' : List ℕ} {a b : Result Bool Refusal} →
      VerdictEnsures file text before a after → VerdictEnsures file text before' b after' →
      (AreaShort file text (length before) → ⊥) → (AreaShort file text (length before') → ⊥) →
      a ≡ b
  pub same_numerator : {file text tuple before before' after after' : List ℕ} {path : ℕ} {a b : Result Ratio Refusal} →
      NumeratorEnsures file text tuple path before a after → NumeratorEnsures file text tuple path before' b after' →
      (AreaShort file text (length before) → ⊥) → (AreaShort file text (length before') → ⊥) → a ≡ b
