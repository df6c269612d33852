-- T-07 of the calls (`room_by_model`): each contract is an `Ensured` over rows whose row 1 comes last.
use Prim.Native.Nat.{ℕ, ◌≤◌, ◌<◌}
use mathlib.Core.List.{List}
use mathlib.Core.Logic.{◌↔◌}
use mathlib.Core.Path.{◌≡◌, refl, sym, ap, subst, ◌∙◌}
use native.Mathlib.Decide.{dec_lt}
use native.Mathlib.Omega.{arith}
use lib.ListN.{length, get_or}
use Rattle.std.specs.Prelude.{Bool, Result}
use Rattle.refusal.specs.declared.Refusal.{Refusal}
use Rattle.refusal.specs.Answers.{reply_of, Reply, gives, refuses}
use Rattle.refusal.specs.Rows.{OneLast, other, no_other}
use Rattle.refusal.proofs.Ensuring.{right_of, others_least, one_least, room_enough, with_room, same_reply, answer_told}
use Rattle.question.specs.Contract.{QuestionRow, SentenceOf, needed, AreaShort, cleared}
use Rattle.question.proofs.Numbers.{row_two}
use Rattle.question.proofs.Cleared.{cleared_once, cleared_zero, cleared_rest, cleared_long}
use Rattle.verdict.specs.Contract.{VerdictEnsures}
use Rattle.verdict.proofs.Single.{one_value as judged-once}
use Rattle.numerator.specs.declared.Ratio.{Ratio}
use Rattle.numerator.specs.Contract.{AskedRow, question, long, member, missing, NumeratorEnsures}
use Rattle.numerator.proofs.Single.{one_value as counted_once}
use Rattle.demands.specs.Demands.{Ends}
use Rattle.demands.specs.Room.{RoomBy, RoomByModel}
use Rattle.demands.proofs.Demand1.{demand_1}

-- an area that is not too short for a sentence has the numbers that it needs
has_room : {file text : List ℕ} {room : ℕ} → (AreaShort file text room → ⊥) → (s : SentenceOf text) → needed file s ≤ room
has_room {file} {room = room} enough s = by (dec_lt room (needed file s))
  where
    by : Dec (room < needed file s) → needed file s ≤ room
    by (yes h) = absurd (enough (record { sentence = s; short = h }))
    by (no h) = omega arith

module _ {A : Type 0} {R : ℕ → Type 0} {file text before after : List ℕ} {reply : Reply A}
    (ends : Ends (OneLast R (AreaShort file text (length before))) before reply after) (not-one : R 1 → ⊥)
    (left : (v : A) → reply ≡ gives v → (s : SentenceOf text) → after ≡ cleared (needed file s) before) where
  one_so : (reply ≡ refuses 1) ↔ (((n : ℕ) → R n → ⊥) × (s : SentenceOf text) × (length before < needed file s))
  one_so = (
    λ e. by ((ends.refusal 1).0 e).0 refl,
    λ given. (ends.refusal 1).1 (no_other given.0 (record { sentence = given.1; short = given.2 }), one_least given.0),
  )
    where
      by : {n : ℕ} → OneLast R (AreaShort file text (length before)) n → n ≡ 1 →
          ((n : ℕ) → R n → ⊥) × (s : SentenceOf text) × (length before < needed file s)
      by (other row) e = absurd (not-one (subst R e row))
      by (no_other none short) e = (none, short.sentence, short.short)

  others_so : (n : ℕ) → (n ≡ 1 → ⊥) → (reply ≡ refuses n) ↔ (R n × ((m : ℕ) → R m → n ≤ m))
  others_so n not = (
    λ e. let given = (ends.refusal n).0 e in by given.0 refl given.1,
    λ given. (ends.refusal n).1 (other given.0, others_least given.0 given.1),
  )
    where
      by : {k : ℕ} → OneLast R (AreaShort file text (length before)) k → k ≡ n →
          ((m : ℕ) → OneLast R (AreaShort file text (length before)) m → n ≤ m) → R n × ((m : ℕ) → R m → n ≤ m)
      by (other row) e least = (subst R e row, λ m r. least m (other r))
      by (no_other none short) e least = absurd (not (sym e))

  -- after an answer there was room
  roomy : (v : A) → reply ≡ gives v → (s : SentenceOf text) → needed file s ≤ length before
  roomy v e s = has_room {file = file} {text = text} (room_enough (ends.answer.0 (v, e))) s

  ends_so : RoomBy R file text before reply after
  ends_so = record {
    one = one_so;
    others = others_so;
    long = λ v e s.
        let same = ap length (left v e s) ∙ cleared_long before (roomy v e s) in
        let room = roomy v e s in
        (same, omega (arith, same, room));
    zeros = λ v e s k h. ap (λ (l : List ℕ). get_or l k 0) (left v e s) ∙ cleared_zero before h;
    rest = λ v e s k h. ap (λ (l : List ℕ). get_or l k 0) (left v e s) ∙ cleared_rest before h;
  }

-- the rows of a question and of numerator, but row 1, have no number 1
question_not_one : {file text : List ℕ} → QuestionRow file text 1 → ⊥
question_not_one r = let some = row_two r in omega (arith, some)

asked_not_one : {file text tuple : List ℕ} {path n : ℕ} → AskedRow file text tuple path n → n ≡ 1 → ⊥
asked_not_one {n = n} (question r) e = let some = row_two r in omega (arith, some, e)
asked_not_one (long s x) e = omega arith
asked_not_one (member x) e = omega arith
asked_not_one (missing s x) e = omega arith

verdict_room : {file text before after : List ℕ} {a : Result Bool Refusal} → VerdictEnsures file text before a after →
    RoomBy (QuestionRow file text) file text before (reply_of a) after
verdict_room {file} {before = before} x =
    let ends = demand_1.verdict_call x in
    ends_so ends question_not_one
    (λ v e s. let right = (right_of (ends.answer.0 (v, e)) x.ensured).2 in
    cleared_once file before right.sentence s right.left)

numerator_room : {file text tuple before after : List ℕ} {path : ℕ} {a : Result Ratio Refusal} →
    NumeratorEnsures file text tuple path before a after → RoomBy (AskedRow file text tuple path) file text before (reply_of a) after
numerator_room {file} {before = before} x =
    let ends = demand_1.numerator_call x in
    ends_so ends (λ r. asked_not_one r refl)
    (λ v e s. let right = (right_of (ends.answer.0 (v, e)) x.ensured).2 in
    cleared_once file before right.sentence s right.left)

same_verdict : {file text before before' after after' : List ℕ} {a b : Result Bool Refusal} → VerdictEnsures file text before a after →
    VerdictEnsures file text before' b after' → (AreaShort file text (length before) → ⊥) → (AreaShort file text (length before') → ⊥) →
    a ≡ b
same_verdict {a = a} {b} x y enough enough' =
    answer_told a b (same_reply judged-once (with_room enough x.ensured) (with_room enough' y.ensured))

same_numerator : {file text tuple before before' after after' : List ℕ} {path : ℕ} {a b : Result Ratio Refusal} →
    NumeratorEnsures file text tuple path before a after → NumeratorEnsures file text tuple path before' b after' →
    (AreaShort file text (length before) → ⊥) → (AreaShort file text (length before') → ⊥) → a ≡ b
same_numerator {a = a} {b} x y enough enough' =
    answer_told a b (same_reply counted_once (with_room enough x.ensured) (with_room enough' y.ensured))

pub room_by_model : RoomByModel
room_by_model = record {
  verdict_call = λ x. verdict_room x;
  numerator_call = λ x. numerator_room x;
  same_verdict = λ x y enough enough'. same_verdict x y enough enough';
  same_numerator = λ x y enough enough'. same_numerator x y enough enough';
}
