-- The contract of verdict leaves one answer and one work area, and no refusal's number above 11.
use Prim.Native.Nat.{ℕ, ◌≤◌}
use mathlib.Core.Bool.{Bool}
use mathlib.Core.List.{List, map}
use mathlib.Core.Path.{◌≡◌, sym, ap₂, ◌∙◌}
use native.Mathlib.Omega.{arith}
use lib.ListN.{length}
use Rattle.std.specs.Prelude.{Result}
use Rattle.refusal.specs.declared.Refusal.{Refusal}
use Rattle.refusal.specs.Answers.{number_in, reply_of}
use Rattle.refusal.specs.Rows.{Decided, by_row, by_none, other, no_other}
use Rattle.refusal.proofs.Ensuring.{one_result, number_decided, answer_told}
use Rattle.model.specs.Layout.{fields_of}
use Rattle.meaning.specs.Tree.{Formula, letter_of}
use Rattle.meaning.specs.Meaning.{verdict}
use Rattle.trees.proofs.Once.{sentence_once}
use Rattle.chain.specs.Of.{chain_of}
use Rattle.question.proofs.Numbers.{row_few}
use Rattle.question.proofs.Cleared.{cleared_once}
use Rattle.verdict.specs.Contract.{VerdictRow, Judges, VerdictEnsures}

-- the right verdict is one, whatever the area
pub one_value : {file text before before' : List ℕ} (v v' : Bool) (l l' : List ℕ) → Judges file text before v l →
    Judges file text before' v' l' → v ≡ v'
one_value {file} v v' l l' j j' =
    let one = sentence_once j.sentence.body j'.sentence.body j.sentence.spelled j'.sentence.spelled in
    let same = ap₂ (λ (ps : List Bool) (h : Formula). verdict (chain_of (fields_of file)) (map letter_of ps) h) one.0 one.1 in
    j.meant ∙ same ∙ sym j'.meant

-- what is right is one
one_right : {file text before : List ℕ} (v v' : Bool) (l l' : List ℕ) → Judges file text before v l → Judges file text before v' l' →
    (v ≡ v') × (l ≡ l')
one_right {file} {before = before} v v' l l' j j' =
    (one_value v v' l l' j j', cleared_once file before j.sentence j'.sentence j.left ∙ sym j'.left)

-- any two results that the contract allows are equal
pub one_verdict : {file text before after after' : List ℕ} {a b : Result Bool Refusal} → VerdictEnsures file text before a after →
    VerdictEnsures file text before b after' → (a ≡ b) × (after ≡ after')
one_verdict {a = a} {b} x y =
    let one = one_result one_right x.ensured y.ensured in
    (answer_told a b one.0, one.1)

-- a refusal's number is 11 or less
pub number_few : {file text before after : List ℕ} {a : Result Bool Refusal} → VerdictEnsures file text before a after →
    number_in (reply_of a) ≤ 11
number_few {file} {text} {before} x = by (number_decided x.ensured)
  where
    by : {n : ℕ} → Decided (VerdictRow file text (length before)) n → n ≤ 11
    by (by_row (other row) least) = row_few row
    by (by_row (no_other none short) least) = omega arith
    by (by_none none) = omega arith
