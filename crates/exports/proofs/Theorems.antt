-- What the exported contracts leave: one result and one content of all that is lent; unchanged memory on a refusal. A verdict's code tells
-- the verdict (`verdict_told`), and a code that is no node's is refused as 6 (`no_node_refused`).
use Prim.Native.Nat.{ℕ, ◌≤◌, ◌<◌}
use mathlib.Core.Bool.{Bool, true, false, false≢true}
use mathlib.Core.List.{List, [], ◌∷◌, ◌++◌}
use mathlib.Core.Path.{◌≡◌, refl, sym, ap, subst, ◌∙◌}
use native.Mathlib.Omega.{arith}
use Rattle.std.specs.Prelude.{Result, Ok, Err}
use Rattle.refusal.specs.declared.Refusal.{Refusal}
use Rattle.refusal.specs.Answers.{Reply, gives, refuses, number_in, filled, reply_of}
use Rattle.refusal.proofs.Ensuring.{number_told}
use Rattle.refusal.proofs.Listed.{one_writing}
use Rattle.model.specs.declared.Model.{Model}
use Rattle.model.proofs.Theorems.{one_reading}
use Rattle.sentence.specs.Record.{nodes_of}
use Rattle.sentence_writer.specs.Contract.{WriteRow}
use Rattle.sentence.specs.Grammar.{Writable}
use Rattle.sentence.specs.Working.{AllWritable}
use Rattle.sentence.specs.declared.Node.{Node}
use Rattle.sentence.specs.declared.Sentence.{Sentence}
use Rattle.sentence_reader.proofs.ReadAll.{one_answer}
use Rattle.sentence.proofs.Unique.{all_writable}
use Rattle.sentence_writer.proofs.WriteAll.{one_writing as one-text}
use Rattle.verdict.specs.Contract.{VerdictEnsures}
use Rattle.verdict.proofs.Single.{one_verdict, number_few}
use Rattle.numerator.specs.declared.Ratio.{Ratio}
use Rattle.numerator.proofs.Single.{one_numerator}
use Rattle.codes.specs.Codes.{Coded, code_of, sentence_head, letter_codes, codes_of, no_node}
use Rattle.exports.specs.Questions.{verdict_code, ExportedVerdict, values_of, ExportedNumerator}
use Rattle.exports.specs.Models.{head_of, ExportedReadModel, ExportedWriteModel, ExportedMerge}
use Rattle.exports.specs.Sentences.{ExportedReadSentence, ExportedWriteSentence}

-- ---- any two results that a contract allows are equal

-- a call that returns the code of an answer, where the library's call leaves one answer and one content of what is lent
module _ {A : Type 0} (code : A → ℕ) (Ensures : A → List ℕ → Type 0)
    (one : (a b : A) (l l' : List ℕ) → Ensures a l → Ensures b l' → (a ≡ b) × (l ≡ l')) where
  one_coded : {r r' : ℕ} {after after' : List ℕ} → Coded code Ensures after r → Coded code Ensures after' r' → (r ≡ r') × (after ≡ after')
  one_coded x y =
      let same = one x.answer y.answer _ _ x.ensures y.ensures in
      (x.coded ∙ ap code same.0 ∙ sym y.coded, same.1)

module _ {before after after' : List ℕ} {r r' : ℕ} where
  pub one_model_written : (m : Model) → ExportedWriteModel m before after r → ExportedWriteModel m before after' r' →
      (r ≡ r') × (after ≡ after')
  one_model_written m = one_coded code_of _ (λ a b l l' x y. one_writing x y)

  pub one_merged : (file grouping : List ℕ) → ExportedMerge file grouping before after r → ExportedMerge file grouping before after' r' →
      (r ≡ r') × (after ≡ after')
  one_merged file grouping = one_coded code_of _ (λ a b l l' x y. one_writing x y)

  pub one_sentence_written : (s : Sentence) → ExportedWriteSentence s before after r → ExportedWriteSentence s before after' r' →
      (r ≡ r') × (after ≡ after')
  one_sentence_written s = one_coded code_of _ (λ a b l l' x y. one-text x y)

  pub one_verdict_given : (file text : List ℕ) → ExportedVerdict file text before after r → ExportedVerdict file text before after' r' →
      (r ≡ r') × (after ≡ after')
  one_verdict_given file text = one_coded verdict_code _ (λ a b l l' x y. one_verdict x y)

module _ {head masks h h' m m' : List ℕ} {rows w w' : List (List ℕ)} {r r' : ℕ} where
  pub one_model_read : {file : List ℕ} → ExportedReadModel file head masks rows h m w r →
      ExportedReadModel file head masks rows h' m' w' r' →
      (r ≡ r') × (h ≡ h') × (m ≡ m') × (w ≡ w')
  one_model_read {file} a b =
      let same : a.read ≡ b.read = one_reading file a.answer b.answer in (
        a.answered ∙ ap (λ (x : Result Model Refusal). number_in (reply_of x)) same ∙ sym b.answered,
        a.head_left ∙ ap (λ (x : Result Model Refusal). filled head_of (reply_of x) head) same ∙ sym b.head_left,
        a.masks_left ∙ ap (λ (x : Result Model Refusal). filled (λ m. m.masks) (reply_of x) masks) same ∙ sym b.masks_left,
        a.weights_left ∙ ap (λ (x : Result Model Refusal). filled (λ m. m.weights) (reply_of x) rows) same ∙ sym b.weights_left,
      )

module _ {text head exists h h' e e' : List ℕ} {codes c c' : List (List ℕ)} {r r' : ℕ} where
  pub one_sentence_read : ExportedReadSentence text head exists codes h e c r → ExportedReadSentence text head exists codes h' e' c' r' →
      (r ≡ r') × (h ≡ h') × (e ≡ e') × (c ≡ c')
  one_sentence_read a b =
      let same : a.read ≡ b.read = one_answer a.answer b.answer in (
        a.answered ∙ ap (λ (x : Result Sentence Refusal). number_in (reply_of x)) same ∙ sym b.answered,
        a.head_left ∙ ap (λ (x : Result Sentence Refusal). filled sentence_head (reply_of x) head) same ∙ sym b.head_left,
        a.exists_left ∙ ap (λ (x : Result Sentence Refusal). filled (λ s. letter_codes s.exists) (reply_of x) exists) same ∙
            sym b.exists_left,
        a.codes_left ∙ ap (λ (x : Result Sentence Refusal). filled (λ s. codes_of s.nodes) (reply_of x) codes) same ∙ sym b.codes_left,
      )

module _ {file text tuple before value after after' v v' : List ℕ} {path r r' : ℕ} where
  pub one_numerator_given : ExportedNumerator file text tuple path before value after v r →
      ExportedNumerator file text tuple path before value after' v' r' → (r ≡ r') × (after ≡ after') × (v ≡ v')
  one_numerator_given a b =
      let same = one_numerator a.answer b.answer in (
        a.answered ∙ ap (λ (x : Result Ratio Refusal). number_in (reply_of x)) same.0 ∙ sym b.answered,
        same.1,
        a.value_left ∙ ap (λ (x : Result Ratio Refusal). filled values_of (reply_of x) value) same.0 ∙ sym b.value_left,
      )

-- ---- a refusal leaves all lent memory unchanged

-- where the reply's number is not 0, what is lent is unchanged
filled_none : {A B : Type 0} (part : A → List B) (q : Reply A) (before : List B) → 0 < number_in q → filled part q before ≡ before
filled_none part (gives v) before some = absurd (omega arith)
filled_none part (refuses n) before some = refl

module _ {head masks h m : List ℕ} {rows w : List (List ℕ)} {r : ℕ} where
  pub model_unchanged : {file : List ℕ} → ExportedReadModel file head masks rows h m w r → 0 < r → (h ≡ head) × (m ≡ masks) × (w ≡ rows)
  model_unchanged a some =
      let refusal = subst (λ (n : ℕ). 0 < n) a.answered some in (
        a.head_left ∙ filled_none _ (reply_of a.read) head refusal,
        a.masks_left ∙ filled_none _ (reply_of a.read) masks refusal,
        a.weights_left ∙ filled_none _ (reply_of a.read) rows refusal,
      )

module _ {text head exists h e : List ℕ} {codes c : List (List ℕ)} {r : ℕ} where
  pub sentence_unchanged : ExportedReadSentence text head exists codes h e c r → 0 < r → (h ≡ head) × (e ≡ exists) × (c ≡ codes)
  sentence_unchanged a some =
      let refusal = subst (λ (n : ℕ). 0 < n) a.answered some in (
        a.head_left ∙ filled_none _ (reply_of a.read) head refusal,
        a.exists_left ∙ filled_none _ (reply_of a.read) exists refusal,
        a.codes_left ∙ filled_none _ (reply_of a.read) codes refusal,
      )

module _ {file text tuple before value after v : List ℕ} {path r : ℕ} where
  pub value_unchanged : ExportedNumerator file text tuple path before value after v r → 0 < r → v ≡ value
  value_unchanged a some = a.value_left ∙ filled_none _ (reply_of a.counted) value (subst (λ (n : ℕ). 0 < n) a.answered some)

-- ---- a verdict's code tells the verdict

code_tells : (a b : Result Bool Refusal) → number_in (reply_of a) ≤ 11 → number_in (reply_of b) ≤ 11 →
    verdict_code a ≡ verdict_code b → a ≡ b
unfolding verdict_code
code_tells (Ok true) (Ok true) x y e = refl
code_tells (Ok true) (Ok false) x y e = absurd (omega arith)
code_tells (Ok true) (Err r) x y e = absurd (omega arith)
code_tells (Ok false) (Ok true) x y e = absurd (omega arith)
code_tells (Ok false) (Ok false) x y e = refl
code_tells (Ok false) (Err r) x y e = absurd (omega arith)
code_tells (Err r) (Ok true) x y e = absurd (omega arith)
code_tells (Err r) (Ok false) x y e = absurd (omega arith)
code_tells (Err r) (Err q) x y e = ap Err (number_told r q e)

-- who is given an answer's code is given that answer
pub verdict_told : {file text before after : List ℕ} (a : Result Bool Refusal) → number_in (reply_of a) ≤ 11 →
    ExportedVerdict file text before after (verdict_code a) → VerdictEnsures file text before a after
verdict_told {file} {text} {before} {after} a few g =
    subst (λ (x : Result Bool Refusal). VerdictEnsures file text before x after)
    (code_tells g.answer a (number_few g.ensures) few (sym g.coded))
    g.ensures

-- ---- a code that is no node's is refused as 6 where it counts

inner_writable : (before after : List Node) (n : Node) → AllWritable (before ++ n ∷ after) → Writable n
inner_writable [] after n h = h.0
inner_writable (x ∷ before) after n h = inner_writable before after n h.1

pub no_node_refused : (s : Sentence) (room : ℕ) (before after : List Node) → nodes_of s ≡ before ++ no_node ∷ after → WriteRow s room 6
no_node_refused s room before after e = WriteRow.unspelled (λ t p short.
    let w = inner_writable before after no_node (subst AllWritable e (all_writable p.nests)) in
    absurd (false≢true w))
