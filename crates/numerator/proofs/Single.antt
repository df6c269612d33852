-- The contract of numerator leaves one answer and one work area.
use Prim.Native.Nat.{ℕ}
use mathlib.Core.Bool.{Bool}
use mathlib.Core.List.{List}
use mathlib.Core.Path.{◌≡◌, sym, ap₂, ◌∙◌}
use lib.ListN.{length}
use Rattle.refusal.proofs.Ensuring.{one_result, answer_told}
use Rattle.model.specs.Layout.{fields_of}
use Rattle.meaning.specs.Tree.{Formula}
use Rattle.meaning.specs.Meaning.{numerator, denominator}
use Rattle.trees.proofs.Once.{sentence_once}
use Rattle.chain.specs.Of.{chain_of}
use Rattle.question.proofs.Cleared.{cleared_once}
use Rattle.std.specs.Prelude.{Result}
use Rattle.refusal.specs.declared.Refusal.{Refusal}
use Rattle.numerator.specs.declared.Ratio.{Ratio}
use Rattle.numerator.specs.Contract.{numbered, Counts, NumeratorEnsures}

-- the right values are one pair, whatever the area
pub one_value : {file text tuple before before' : List ℕ} {number : ℕ} (v v' : Ratio) (l l' : List ℕ) →
    Counts file text tuple number before v l → Counts file text tuple number before' v' l' → v ≡ v'
one_value {file} {tuple = tuple} {number = number} v v' l l' x y =
    let one = sentence_once x.sentence.body y.sentence.body x.sentence.spelled y.sentence.spelled in
    let top = ap₂ (λ (ps : List Bool) (h : Formula). numerator (numbered h number) (chain_of (fields_of file)) (length ps) tuple) one.0
    one.1 in
    let bottom = ap₂ (λ (ps : List Bool) (h : Formula). denominator (numbered h number) (fields_of file).d (length ps)) one.0
    one.1 in
    ap₂ (λ (a b : ℕ). record { numerator = a; denominator = b }) (x.top ∙ top ∙ sym y.top) (x.bottom ∙ bottom ∙ sym y.bottom)

-- what is right is one
one_right : {file text tuple before : List ℕ} {number : ℕ} (v v' : Ratio) (l l' : List ℕ) → Counts file text tuple number before v l →
    Counts file text tuple number before v' l' → (v ≡ v') × (l ≡ l')
one_right {file} {before = before} v v' l l' x y =
    (one_value v v' l l' x y, cleared_once file before x.sentence y.sentence x.left ∙ sym y.left)

-- any two results that the contract allows are equal
pub one_numerator : {file text tuple before after after' : List ℕ} {number : ℕ} {a b : Result Ratio Refusal} →
    NumeratorEnsures file text tuple number before a after →
    NumeratorEnsures file text tuple number before b after' → (a ≡ b) × (after ≡ after')
one_numerator {a = a} {b} x y =
    let one = one_result one_right x.ensured y.ensured in
    (answer_told a b one.0, one.1)
