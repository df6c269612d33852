-- T-02 of the calls (`fewer_variables`), by the theorem of the crate `unchanged`.
use Prim.Native.Nat.{ℕ, ◌*◌, ◌^◌, ◌≤◌}
use mathlib.Core.Bool.{Bool, true, false, true≢false}
use mathlib.Core.List.{List, map}
use mathlib.Core.Path.{◌≡◌, refl, sym, ap, subst, ◌∙◌}
use native.Mathlib.Decide.{ℕ_discrete}
use native.Mathlib.Nat.{pow-zero, zero-mul}
use native.Mathlib.Omega.{arith}
use lib.ListN.{length}
use Rattle.std.specs.Prelude.{Result}
use Rattle.refusal.specs.declared.Refusal.{Refusal}
use Rattle.refusal.specs.Answers.{reply_of, gives}
use Rattle.refusal.specs.Rows.{Given, by_row, by_none}
use Rattle.refusal.proofs.Ensuring.{right_of, others_free, none_at_all}
use Rattle.model.specs.Layout.{fields_of}
use Rattle.model.specs.Contract.{file_rows, file_number}
use Rattle.model.proofs.Theorems.{read_smallest}
use Rattle.meaning.specs.Chain.{Chain, Tuple, Inside}
use Rattle.meaning.specs.Tree.{PathFormula, letter_of}
use Rattle.meaning.specs.Named.{v}
use Rattle.meaning.specs.Meaning.{steps_of, numerator, denominator}
use Rattle.meaning.specs.Size.{exceeds}
use Rattle.meaning.proofs.Steps.{numerator_le, denominator_steps}
use Rattle.unchanged.specs.Base as Base
use Rattle.unchanged.specs.Unchanged.{shrunk, Unchanged}
use Rattle.unchanged.proofs.Unchanged.{values_unchanged}
use Rattle.chain.proofs.Accepted.{sound, total_some}
use Rattle.question.specs.Contract.{QuestionRow, model, sentence, labels, size, tuples, SentenceOf, AreaShort}
use Rattle.question.proofs.Numbers.{file_number_bounds, text_number}
use Rattle.question.proofs.Early.{file_free}
use Rattle.verdict.specs.Contract.{VerdictEnsures}
use Rattle.numerator.specs.declared.Ratio.{Ratio}
use Rattle.numerator.specs.Contract.{NumeratorRow, question, NumeratorEnsures, numbered}
use Rattle.demands.specs.Demands.{chain_in}
use Rattle.demands.specs.Fewer.{SameFraction, BaseRow, same, FewerVariables}
use Rattle.demands.specs.Fewer as Said
use Rattle.demands.proofs.Free.{tuple_inside}

-- on the chain of an accepted file nothing has changed
unchanged : (file : List ℕ) → file_number file ≡ 0 → (n : ℕ) → Unchanged (chain_in file) n
unchanged file ok n = values_unchanged.values (chain_in file) (sound file ok) (total_some file ok) n

-- where no row of the base applies, the file is accepted,
accepted_base : (file text : List ℕ) → ((n : ℕ) → BaseRow file text n → ⊥) → file_number file ≡ 0
accepted_base file text none = by (read_smallest file)
  where
    by : {n : ℕ} → Given (file_rows file) n → n ≡ 0
    by (by_row {n} a least) = absurd (none n (same (model a) (λ e. let m = file_number_bounds file a in omega arith)))
    by (by_none free) = refl

-- the body is not too large for row 10,
fits_base : (file text : List ℕ) → ((n : ℕ) → BaseRow file text n → ⊥) → (s : SentenceOf text) →
    exceeds s.body (fields_of file).d (length s.prefix) ≡ false
fits_base file text none s =
    let n = length s.prefix in
    (unchanged file (accepted_base file text none) n).answered s.body (by (Base.exceeds s.body (fields_of file).d n) refl)
  where
    by : (b : Bool) → Base.exceeds s.body (fields_of file).d (length s.prefix) ≡ b → b ≡ false
    by true e = absurd (none 10 (Said.size s e))
    by false e = refl

-- and so no row applies
no_row : (file text : List ℕ) → ((n : ℕ) → BaseRow file text n → ⊥) → (n : ℕ) → QuestionRow file text n → ⊥
no_row file text none n row = by (ℕ_discrete n 10)
  where
    ten : {n : ℕ} → QuestionRow file text n → n ≡ 10 → ⊥
    ten (model r) e = let m = file_number_bounds file r in omega arith
    ten (sentence r) e = let m = text_number r in omega arith
    ten (labels s x) e = omega arith
    ten (size s x) e = true≢false (sym x ∙ fits_base file text none s)
    ten (tuples s x) e = omega arith

    by : Dec (n ≡ 10) → ⊥
    by (yes e) = ten row e
    by (no d) = none n (same row d)

still : {file text before after : List ℕ} {a : Result Bool Refusal} → VerdictEnsures file text before a after →
    ((n : ℕ) → BaseRow file text n → ⊥) → (AreaShort file text (length before) → ⊥) →
    (s : SentenceOf text) × (reply_of a ≡ gives (Base.verdict (chain_in file) (map letter_of s.prefix) s.body))
still {file} {text} x none enough =
    let right = right_of (none_at_all (no_row file text none) enough) x.ensured in
    let s = right.2.sentence in
    let ok = accepted_base file text none in
    let as-was = (values_unchanged.verdicts (chain_in file) (sound file ok) (total_some file ok)).verdicts
    (map letter_of s.prefix) s.body in
    (s, right.1 ∙ ap gives (right.2.meant ∙ sym as-was))

same_fraction : {file text tuple before after : List ℕ} {path : ℕ} {a : Result Ratio Refusal} →
    NumeratorEnsures file text tuple path before a after → ((n : ℕ) → NumeratorRow file text tuple path (length before) n → ⊥) →
    (s : SentenceOf text) × (x : Ratio) × (reply_of a ≡ gives x) × SameFraction (chain_in file) (numbered s.body path)
    (length s.prefix) tuple x.numerator x.denominator
same_fraction {file} {path = path} x none =
    let right = right_of none x.ensured in
    let s = right.2.sentence in
    let p = numbered s.body path in
    let n = length s.prefix in
    let free = others_free none in
    let as-was = unchanged file (file_free (λ n r. free n (question r))) n in
    let by = shrunk p (chain_in file).D n in (
      s,
      right.0,
      right.1,
      record {
        numerators = as-was.numerators p (tuple_inside free s) ∙ ap (λ (k : ℕ). k * by) (sym right.2.top);
        denominators = as-was.denominators p ∙ ap (λ (k : ℕ). k * by) (sym right.2.bottom);
      },
    )

none : (file : List ℕ) → file_number file ≡ 0 → (p : PathFormula) (n : ℕ) → v p n ≡ 0 → {tuple : Tuple} →
    Inside (chain_in file).N n tuple → (numerator p (chain_in file) n tuple ≤ 1) × (denominator p (chain_in file).D n ≡ 1)
none file ok p n e {tuple} inside = (subst (λ (k : ℕ). numerator p c n tuple ≤ k) one (numerator_le p c (sound file ok) n inside), one)
  where
    c : Chain
    c = chain_in file

    one : denominator p (chain_in file).D n ≡ 1
    one =
        denominator_steps p (chain_in file).D n ∙
        ap (λ (k : ℕ). (chain_in file).D ^ (k * steps_of p)) e ∙
        ap (λ (k : ℕ). (chain_in file).D ^ k) (zero-mul (steps_of p)) ∙
        pow-zero (chain_in file).D

pub fewer_variables : FewerVariables
fewer_variables = record {
  values = unchanged;
  still_given = λ x free. still x free;
  fractions = λ x free. same_fraction x free;
  none_named = λ file ok p n e inside. none file ok p n e inside;
}
