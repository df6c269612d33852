-- What the call answers, from what its parts promise.
use Prim.Native.Nat.{ℕ, ◌≤◌, ◌<◌}
use mathlib.Core.Bool.{Bool}
use mathlib.Core.List.{List, map}
use mathlib.Core.Path.{◌≡◌, refl, ap, ◌∙◌}
use native.Mathlib.Omega.{arith}
use lib.ListN.{length}
use Rattle.std.specs.Prelude.{Result, Ok, Err}
use Rattle.refusal.specs.declared.Refusal.{Refusal}
use Rattle.refusal.specs.declared.Refusal.TheVariants.{Area}
use Rattle.refusal.specs.Answers.{answered, number_of, reply_of}
use Rattle.refusal.specs.Rows.{Decided}
use Rattle.refusal.proofs.Ensuring.{number_positive, refused_as, others_first, one_decided, none_at_all}
use Rattle.model.specs.declared.Model.{Model}
use Rattle.meaning.specs.Tree.{letter_of}
use Rattle.meaning.specs.Meaning.{verdict}
use Rattle.chain.specs.Of.{chain_of}
use Rattle.question.specs.declared.Question.{Question}
use Rattle.question.specs.Contract.{QuestionRow, cleared}
use Rattle.question.specs.Working.{Answerable}
use Rattle.question.proofs.Pair.{own_sentence}
use Rattle.question.proofs.Settled.{area_is, area_short, area_enough}
use Rattle.verdict.specs.Contract.{VerdictEnsures}
use Rattle.verdict.specs.Working.{Judged}

module _ {file text before : List ℕ} where
  -- a refusal with the number that the rows of the question give
  pub refused_so : {x : Refusal} {r : Result Bool Refusal} → r ≡ Err x → Decided (QuestionRow file text) (number_of x) →
      VerdictEnsures file text before r before
  refused_so {x} e number =
      let some = number_positive x in
      record { ensured = refused_as (others_first number some) some (ap reply_of e) refl }

  module _ {q : Question} (y : Answerable file text q) where
    -- a refusal because of the area, where none of those rows applies
    pub refused_1 : length before < q.area → VerdictEnsures file text before (Err Area) before
    refused_1 h = record { ensured = refused_as (one_decided y.none (area_short y h)) (omega arith) refl refl }

    -- the verdict, where there is room too
    pub answered_so : {after : List ℕ} {t : Bool} → q.area ≤ length before → Judged q.model q.sentence t →
        after ≡ cleared q.area before → VerdictEnsures file text before (Ok t) after
    answered_so room judged clear =
        let b = y.sentence in
        record {
          ensured =
              answered refl
              (record {
                sentence = own_sentence b;
                meant = judged.each text b ∙
                    ap (λ (x : Model). verdict (chain_of x) (map letter_of b.prefix) b.body) y.model.fields;
                left = clear ∙ ap (λ (k : ℕ). cleared k before) (area_is y (own_sentence b));
              })
              (none_at_all y.none (area_enough y room));
        }
