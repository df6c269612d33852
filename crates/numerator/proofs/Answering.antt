-- What the call answers, from what its parts promise.
use Prim.Native.Nat.{ℕ, ◌≤◌, ◌<◌}
use mathlib.Core.Bool.{Bool, true, false, ◌&&◌, true≢false}
use mathlib.Core.List.{List}
use mathlib.Core.Path.{◌≡◌, refl, sym, ap, ap₂, ◌∙◌}
use native.Mathlib.Omega.{arith}
use borrow.Author.Tests.{eqb-false, ltb-false}
use lib.Dec.{eqb, ltb}
use lib.ListN.{length}
use Rattle.std.specs.Prelude.{Result, Ok, Err}
use Rattle.refusal.specs.declared.Refusal.{Refusal}
use Rattle.refusal.specs.declared.Refusal.TheVariants.{Area, Asked}
use Rattle.refusal.specs.Answers.{answered, number_of, reply_of}
use Rattle.refusal.specs.Rows.{Decided, by_row as given, by_none}
use Rattle.refusal.proofs.Ensuring.{number_positive, refused_as, others_first, one_decided, none_at_all}
use Rattle.model.specs.declared.Model.{Model}
use Rattle.meaning.specs.Tree.{Formula, paths_of}
use Rattle.meaning.specs.Meaning.{numerator, denominator}
use Rattle.chain.specs.Of.{chain_of}
use Rattle.paths.specs.Tuples.{members_below}
use Rattle.question.specs.declared.Question.{Question}
use Rattle.question.specs.Contract.{QuestionRow, cleared}
use Rattle.question.specs.Working.{Answerable}
use Rattle.question.proofs.Numbers.{row_few}
use Rattle.question.proofs.Pair.{letters_length, own_sentence}
use Rattle.question.proofs.Stages.{one}
use Rattle.question.proofs.Settled.{area_is, area_short, area_enough}
use Rattle.numerator.specs.declared.Ratio.{Ratio}
use Rattle.numerator.specs.Contract.{numbered, AskedRow, question, long, member, missing, NumeratorEnsures}
use Rattle.numerator.specs.Working.{asks_right, CountedSo}
use Rattle.numerator.proofs.Asking.{RightParts}

module _ {file text tuple : List ℕ} {number : ℕ} where
  -- the number of the question's rows is that of all rows but 1
  asked : {n : ℕ} → Decided (QuestionRow file text) n → 0 < n → Decided (AskedRow file text tuple number) n
  asked {n} (given row least) h = given (question row) from
    where
      from : (k : ℕ) → AskedRow file text tuple number k → n ≤ k
      from k (question r) = least k r
      from k (long s e) = let few = row_few row in omega arith
      from k (member e) = let few = row_few row in omega arith
      from k (missing s e) = let few = row_few row in omega arith
  asked (by_none none) h = absurd (omega arith)

  -- a refusal with the number that the rows of the question give
  pub refused_so : {before : List ℕ} {x : Refusal} {r : Result Ratio Refusal} → r ≡ Err x → Decided (QuestionRow file text) (number_of x) →
      NumeratorEnsures file text tuple number before r before
  refused_so {x = x} e decided =
      let some = number_positive x in
      record { ensured = refused_as (others_first (asked decided some) some) some (ap reply_of e) refl }

  module _ (before : List ℕ) {q : Question} (y : Answerable file text q) where
    -- row 15
    pub refused_15 : asks_right q.model q.sentence y.sentence.body tuple number ≡ false →
        NumeratorEnsures file text tuple number before (Err Asked) before
    refused_15 e =
        let first = row (eqb (length tuple) q.sentence.letters) (members_below q.model.n tuple) refl refl e in
        record { ensured = refused_as (others_first (given first from) (omega arith)) (omega arith) refl refl }
      where
        row : (t u : Bool) → eqb (length tuple) q.sentence.letters ≡ t → members_below q.model.n tuple ≡ u →
            ((t && u) && ltb number (length (paths_of y.sentence.body))) ≡ false → AskedRow file text tuple number 15
        row false u l w h = long (own_sentence y.sentence) (λ x. eqb-false _ _ l (x ∙ sym (letters_length y.sentence)))
        row true false l w h = member (ap (λ (x : Model). members_below x.n tuple) (sym y.model.fields) ∙ w)
        row true true l w h = missing (own_sentence y.sentence) (ltb-false _ _ h)

        from : (k : ℕ) → AskedRow file text tuple number k → 15 ≤ k
        from k (question r) = absurd (y.none k r)
        from k (long s e) = omega arith
        from k (member e) = omega arith
        from k (missing s e) = omega arith

    module _ (parts : RightParts q.model q.sentence y.sentence.body tuple number) where
      free : (k : ℕ) → AskedRow file text tuple number k → ⊥
      free k (question r) = y.none k r
      free k (long s e) = e (parts.long ∙ letters_length y.sentence ∙ ap length (sym (one y.model y.sentence s).0))
      free k (member e) = true≢false (sym parts.members ∙ ap (λ (x : Model). members_below x.n tuple) y.model.fields ∙ e)
      free k (missing s e) =
          let low = parts.there in
          let same = ap (λ (x : Formula). length (paths_of x)) (one y.model y.sentence s).1 in
          omega (arith, low, same, e)

      -- a refusal because of the area
      pub refused_1 : length before < q.area → NumeratorEnsures file text tuple number before (Err Area) before
      refused_1 h = record { ensured = refused_as (one_decided free (area_short y h)) (omega arith) refl refl }

      -- the two values, where there is room too
      pub answered_so : {after : List ℕ} {r : Ratio} → q.area ≤ length before → CountedSo q.model q.sentence tuple number r →
          after ≡ cleared q.area before → NumeratorEnsures file text tuple number before (Ok r) after
      answered_so {after} {r} room counts clear =
          let w = numbered y.sentence.body number in
          let n = letters_length y.sentence in
          let fields = y.model.fields in
          record {
            ensured =
                answered refl
                (record {
                  sentence = own_sentence y.sentence;
                  top = (counts.each text y.sentence).0 ∙ ap₂ (λ (x : Model) (k : ℕ). numerator w (chain_of x) k tuple) fields n;
                  bottom = (counts.each text y.sentence).1 ∙ ap₂ (λ (x : Model) (k : ℕ). denominator w x.d k) fields n;
                  left = clear ∙ ap (λ (k : ℕ). cleared k before) (area_is y (own_sentence y.sentence));
                })
                (none_at_all free (area_enough y room));
          }
